-- What equate means for the solutions of the cells.
use Rattle.std.specs.Prelude.{◌≡◌, ℕ, ◌+◌, ◌*◌, ◌<◌, ◌≤◌, List, length, Ok, Err, Result, ◌≢◌}
use Rattle.system.specs.declared.fault.SystemFault.{SystemFault}
use Rattle.system.specs.declared.fault.SystemFault.TheVariants.{NoClasses, Clash, Cyclic, NoCells, Unknown, TooManyMarks}
use Rattle.cells.specs.declared.Cell.{Cell}
use Rattle.cells.specs.Cells.{Valuation, Holds, Agree}
use Rattle.cells.specs.Rooms.{used}
use Rattle.cells.specs.Weights.{same, Falls}
use Rattle.ground.specs.Depths.{Agree as Alike}

abbrev pub Solves : List (Cell ℕ) → Valuation → Type 0
Solves cs v = Holds same cs v

-- no solution makes both equal
abbrev pub Unequal : List (Cell ℕ) → ℕ → ℕ → Type 0
Unequal cs a b = (v : Valuation) → Solves cs v → v a ≢ v b

-- at some depth no solution makes both agree
abbrev pub Apart : List (Cell ℕ) → ℕ → ℕ → Type 0
Apart cs a b = (d : ℕ) × ((v : Valuation) → Solves cs v → Alike d (v a) (v b) → ⊥)

-- at every depth some solution makes both agree
abbrev pub Near : List (Cell ℕ) → ℕ → ℕ → Type 0
Near cs a b = (d : ℕ) → (v : Valuation) × Solves cs v × Alike d (v a) (v b)

-- a solution with both equal goes on to one of the new cells, with the same values at the old ones; and each of the new cells is one of the old, with both equal, told by its values at the old cells
pub record Kept (cs : List (Cell ℕ)) (a b : ℕ) (ds : List (Cell ℕ)) : Type 0 where
  pub onto : (v : Valuation) → Solves cs v → v a ≡ v b → (w : Valuation) × Agree (length cs) v w × Solves ds w
  pub from : (v : Valuation) → Solves ds v → Solves cs v × (v a ≡ v b)
  pub fixed : (v w : Valuation) → Solves ds v → Solves ds w → Agree (length cs) v w → Agree (length ds) v w

-- 12 comes where at some depth no solution makes both agree, 13 where at every depth some does but none makes them equal; 16 only where n calls, each worth 49 cells, pass the capacity
abbrev pub Denies : ℕ → List (Cell ℕ) → ℕ → ℕ → SystemFault → Type 0
Denies limit cs a b NoClasses = ⊥
Denies limit cs a b Clash = Apart cs a b
Denies limit cs a b Cyclic = Unequal cs a b × ((k : ℕ → ℕ) → Falls cs k → Near cs a b)
Denies limit cs a b NoCells = (n : ℕ) → used cs ≤ 1 + 49 * n → limit < 1 + 49 * n
Denies limit cs a b Unknown = ⊥
Denies limit cs a b TooManyMarks = ⊥

abbrev pub Means : ℕ → List (Cell ℕ) → ℕ → ℕ → Result (Unit {0}) SystemFault → List (Cell ℕ) → Type 0
Means limit cs a b (Ok u) ds = Kept cs a b ds
Means limit cs a b (Err f) ds = Denies limit cs a b f
