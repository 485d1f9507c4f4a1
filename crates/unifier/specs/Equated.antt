-- What equate answers, and what it leaves.
use Rattle.std.specs.Prelude.{◌≡◌, ℕ, List, [], ◌∷◌, Ok, Err, Result}
use Rattle.system.specs.declared.fault.SystemFault.{SystemFault}
use Rattle.system.specs.declared.fault.SystemFault.TheVariants.{NoClasses, Clash, Cyclic as PartOfItself, NoCells, Unknown, TooManyMarks}
use Rattle.cells.specs.declared.Cell.{Cell}
use Rattle.cells.specs.Steps.{pair, Never}
use Rattle.cells.specs.Weights.{Falls}
use Rattle.unifier.specs.declared.undo.Undo.{Undo}
use Rattle.unifier.specs.Marks.{Cyclic}
use Rattle.unifier.specs.Trails.{Since}
use Rattle.unifier.specs.Turns.{Left}
use Rattle.unifier.specs.Settled.{FullAfter}

-- why it was refused: at some depth nothing makes them equal; what is left when all pairs are seen to has no solution; or an
-- extension finds fewer than two cells left
abbrev pub Refused : ℕ → List (Cell ℕ) → List Undo → ℕ → ℕ → SystemFault → Type 0
Refused limit cs tr a b NoClasses = ⊥
Refused limit cs tr a b Clash = Never cs (pair a b ∷ [])
Refused limit cs tr a b PartOfItself = (es : List (Cell ℕ)) × Left 0 cs (pair a b ∷ []) es [] × Cyclic es
Refused limit cs tr a b NoCells = FullAfter limit cs tr
Refused limit cs tr a b Unknown = ⊥
Refused limit cs tr a b TooManyMarks = ⊥

-- cells that say the same with both equal, in which references fall where they did before; or the very cells and trail that were
abbrev pub Equated : ℕ → List (Cell ℕ) → List Undo → ℕ → ℕ → Result (Unit {0}) SystemFault → List (Cell ℕ) → List Undo → Type 0
Equated limit cs tr a b (Ok u) ds ts = Left 0 cs (pair a b ∷ []) ds [] × Since cs tr ds ts × ((k : ℕ → ℕ) → Falls cs k → (l : ℕ → ℕ) × Falls ds l)
Equated limit cs tr a b (Err f) ds ts = Refused limit cs tr a b f × (ds ≡ cs) × (ts ≡ tr)
