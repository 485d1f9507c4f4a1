-- The labels of the cells are those that there are.
use Rattle.std.specs.Prelude.{◌≡◌, ℕ, ◌<◌, List, refl}
use Rattle.std.proofs.Common.{subst}
use Rattle.cells.specs.declared.What.TheVariants.{Row as RowAt}
use Rattle.cells.specs.declared.Cell.{Cell}
use Rattle.cells.specs.Cells.{what_at}
use Rattle.cells.proofs.Chains.{known}
use Rattle.unifier.specs.Fine.{Fine, Proper}

pub labels_few : (cs : List (Cell ℕ)) → Fine cs → (i l x y : ℕ) → what_at cs i ≡ RowAt l x y → l < 24
labels_few cs f i l x y e = (subst Proper e (f.proper i (known cs i (RowAt l x y) e refl))).0
