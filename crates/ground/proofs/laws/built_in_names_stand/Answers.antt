use Rattle.std.proofs.Common.{refl}
use Rattle.ground.proofs.BuiltIn.{listed, given}
use Rattle.ground.proofs.laws.built_in_names_stand.Goals as goal

pub returns : goal.returns
returns c = record { listed = listed; given = given; answer = refl }
