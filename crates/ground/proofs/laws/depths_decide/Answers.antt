use Rattle.std.proofs.Common.{refl}
use Rattle.ground.proofs.Agreeing.{agreeing}
use Rattle.ground.proofs.laws.depths_decide.Goals as goal

pub returns : goal.returns
returns c = record { law = agreeing; answer = refl }
