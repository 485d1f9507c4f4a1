-- The walk for cycles from all that was written or added.
use Rattle.std.specs.Prelude.{ℕ, ◌+◌, ◌<◌, ◌≤◌, List, length, slice_index_or, Ok, Err, Result}
use Rattle.cells.specs.declared.Cell.{Cell}
use Rattle.cells.specs.Cells.{none}
use Rattle.unifier.specs.declared.undo.Undo.{Undo}
use Rattle.unifier.specs.Marks.{Done, Closed, Timed, Cyclic}
use Rattle.unifier.specs.declared.cycle.Cycle.{Cycle}

abbrev pub named : List Undo → ℕ → ℕ
named tr j = (slice_index_or tr j (record { at = 0; was = none })).at

-- each cell that the entries from n to m name is done
abbrev pub AllDone : ℕ → List ℕ → List Undo → ℕ → ℕ → Type 0
AllDone b ms tr n m = (j : ℕ) → n ≤ j → j < m → Done b ms (named tr j)

-- and each cell from n to m
abbrev pub NewDone : ℕ → List ℕ → ℕ → ℕ → Type 0
NewDone b ms n m = (i : ℕ) → n ≤ i → i < m → Done b ms i

-- the walk from all of these, with the time of its start as what is not seen
abbrev pub Cleared : List (Cell ℕ) → List ℕ → ℕ → List Undo → ℕ → ℕ → Result (Unit {0}) Cycle → List ℕ → ℕ → Type 0
Cleared cs ms k tr first n (Ok u) ns l = Closed cs k ns l × AllDone k ns tr n (length tr) × NewDone k ns first (length cs) × Timed k ms (k + 1) ns l
Cleared cs ms k tr first n (Err e) ns l = Cyclic cs × Timed k ms (k + 1) ns l
