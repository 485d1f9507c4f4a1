-- Numbers that fall along references: in every solution, or in the cells themselves.
use Rattle.std.specs.Prelude.{ℕ, zero, suc, ◌+◌, ◌-◌, ◌*◌, ◌<◌, List, length}
use Rattle.ground.specs.Values.{Value}
use Rattle.cells.specs.declared.What.{What}
use Rattle.cells.specs.declared.What.TheVariants.{Open, Link, Leaf, One, Two, Row as RowAt}
use Rattle.cells.specs.declared.Cell.{Cell}
use Rattle.cells.specs.Cuts.{size}
use Rattle.cells.specs.Cells.{what_at, rank_at, sort_at, Valuation}
use Rattle.cells.specs.Rooms.{spare_sort}

-- a value seen whole
abbrev pub same : Value → Value
same v = v

abbrev pub steps : ℕ → ℕ → ℕ
steps s zero = 0
steps s (suc d) = s + steps s d

-- by size, then by the labels that may still come, then by rank
abbrev pub weight : List (Cell ℕ) → Valuation → ℕ → ℕ
weight cs v i = steps (25 * suc (length cs)) (size (v i)) + (steps (suc (length cs)) (spare_sort (sort_at cs i)) + (length cs - rank_at cs i))

-- a number that falls along every reference
abbrev pub Lower : (ℕ → ℕ) → ℕ → What ℕ → Type 0
Lower k i Open = Unit {0}
Lower k i (Link p) = k p < k i
Lower k i (Leaf h) = Unit {0}
Lower k i (One h x) = k x < k i
Lower k i (Two x y) = (k x < k i) × (k y < k i)
Lower k i (RowAt l x y) = (k x < k i) × (k y < k i)

abbrev pub Falls : List (Cell ℕ) → (ℕ → ℕ) → Type 0
Falls cs k = (i : ℕ) → Lower k i (what_at cs i)
