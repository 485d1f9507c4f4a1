-- Cells that keep what is built, and those that come of extensions.
use Rattle.std.specs.Prelude.{◌≡◌, ℕ, suc, ◌+◌, ◌*◌, ◌<◌, List, length}
use Rattle.ground.specs.Values.{Value}
use Rattle.cells.specs.declared.What.{What}
use Rattle.cells.specs.declared.What.TheVariants.{Open, Link, Leaf, One, Two, Row as RowAt}
use Rattle.cells.specs.declared.Cell.{Cell}
use Rattle.cells.specs.Cuts.{cut}
use Rattle.cells.specs.Cells.{what_at, sort_at, roots, Holds, Valuation, Agree, Formed}
use Rattle.cells.specs.Rooms.{used}
use Rattle.cells.specs.Weights.{same}

abbrev pub built : What ℕ → ℕ
built Open = 0
built (Link p) = 1
built (Leaf h) = 1
built (One h x) = 1
built (Two x y) = 1
built (RowAt l x y) = 1

-- what is built stands
abbrev pub Stays : List (Cell ℕ) → List (Cell ℕ) → Type 0
Stays cs ds = (i : ℕ) (w : What ℕ) → what_at cs i ≡ w → built w ≡ 1 → what_at ds i ≡ w

-- from cs to ds by extensions, each with a field that the other row shows
pub record Widened (cs : List (Cell ℕ)) (a b : ℕ) (ds : List (Cell ℕ)) : Type 0 where
  pub formed : Formed ds
  pub stays : Stays cs ds
  pub sorts : (i : ℕ) → i < length cs → sort_at ds i ≡ sort_at cs i
  pub times : ℕ
  pub cells : length ds ≡ length cs + 2 * times
  pub trees : roots ds ≡ roots cs + times
  pub paid : used ds ≡ used cs
  pub grow : Valuation → Valuation
  pub agree : (v : Valuation) → Agree (length cs) v (grow v)
  pub down : (d : ℕ) (v : Valuation) → Holds (cut (suc d)) cs v → cut (suc d) (v a) ≡ cut (suc d) (v b) → Holds (cut (suc d)) ds (grow v)
  pub up : (f : Value → Value) (v : Valuation) → Holds f ds v → Holds f cs v
  -- the values of the old cells fix those of the new ones
  pub fixed : (v w : Valuation) → Holds same ds v → Holds same ds w → Agree (length cs) v w → Agree (length ds) v w
