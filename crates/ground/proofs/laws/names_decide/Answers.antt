use Rattle.std.proofs.Common.{refl}
use Rattle.ground.proofs.Belonging.{belongs_both}
use Rattle.ground.proofs.laws.names_decide.Goals as goal

pub returns : goal.returns
returns g c = record { law = belongs_both g.E.Environment.names g.F.Environment.names; answer = refl }
