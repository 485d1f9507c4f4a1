-- How two cells are made equal.
use Rattle.std.specs.Prelude.{◌≡◌, ℕ, List, [], ◌∷◌, Ok, Err, Result}
use Rattle.cells.specs.declared.Cell.{Cell}
use Rattle.cells.specs.Rooms.{Short}
use Rattle.cells.specs.Steps.{pair, Never}
use Rattle.unifier.specs.declared.undo.Undo.{Undo}
use Rattle.unifier.specs.Trails.{Since}
use Rattle.unifier.specs.Turns.{Left}
use Rattle.unifier.specs.declared.misfit.Misfit.{Misfit}
use Rattle.unifier.specs.declared.misfit.Misfit.TheVariants.{Clash, Full}

-- cells come to where an extension finds fewer than two left; and the cells used and those that extensions may use pass the limit
abbrev pub FullAfter : ℕ → List (Cell ℕ) → List Undo → Type 0
FullAfter limit cs tr = (es : List (Cell ℕ)) × (us : List Undo) × Since cs tr es us × Short limit cs es

-- no pair is left; or at some depth nothing makes them equal, or the cells do not suffice, and then cells and trail are what they were
abbrev pub Settled : ℕ → List (Cell ℕ) → List Undo → ℕ → ℕ → Result (Unit {0}) Misfit → List (Cell ℕ) → List Undo → Type 0
Settled limit cs tr a b (Ok u) ds ts = Left 0 cs (pair a b ∷ []) ds [] × Since cs tr ds ts
Settled limit cs tr a b (Err Clash) ds ts = Never cs (pair a b ∷ []) × (ds ≡ cs) × (ts ≡ tr)
Settled limit cs tr a b (Err Full) ds ts = FullAfter limit cs tr × (ds ≡ cs) × (ts ≡ tr)
