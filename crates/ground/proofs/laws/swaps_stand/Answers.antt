use Rattle.std.proofs.Common.{refl}
use Rattle.ground.specs.Belongs.{built_in}
use Rattle.ground.proofs.Swapped.{swapped_at, value_twice}
use Rattle.ground.proofs.SwappedHeads.{heads_kept, classes_kept}
use Rattle.ground.proofs.SwappedForms.{built_in_swap, unnamed_swap}
use Rattle.ground.proofs.laws.swaps_stand.Goals as goal

pub returns : goal.returns
returns c = record { fields = swapped_at; twice = value_twice; heads = heads_kept; classes = classes_kept; names = λ c a b. built_in_swap a b c; scripts = λ c a b. unnamed_swap a b (built_in c) (built_in_swap a b c); answer = refl }
