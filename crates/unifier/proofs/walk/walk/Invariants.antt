use Rattle.std.proofs.Common.{◌≡◌, ℕ, ◌<◌, List, length, get_or, None}
use Rattle.cells.specs.Rows.{Shown, Chain}
use Rattle.unifier.specs.Sides.{found}
use Rattle.unifier.proofs.Walking.{far}
use Rattle.unifier.proofs.walk.walk.Given as goal

abbrev pub invariant-loop-p : goal.invariant-loop-p
invariant-loop-p l =
    (l.i < length l.cells)
    × (length l.fields ≡ 24)
    × ((fs : List Shown) × Chain l.cells l.c fs l.i × ((k : ℕ) → k < 24 → get_or l.fields k None ≡ found fs k))

abbrev pub decreases-loop-p : goal.decreases-loop-p
decreases-loop-p l = far l.cells l.i
