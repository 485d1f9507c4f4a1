use Rattle.std.proofs.Common.{refl}
use Rattle.ground.proofs.SwappedForms.{unnamed_swap, definitions_swap}
use Rattle.ground.proofs.laws.unnamed_labels_swap.Goals as goal

pub returns : goal.returns
returns g c = record { types = λ a b. unnamed_swap a b g.E.Environment.names; definitions = λ a b. definitions_swap a b g.E.Environment.names; answer = refl }
