-- Cells as the solver keeps them.
use Rattle.std.specs.Prelude.{◌≡◌, ℕ, ◌^◌, ◌<◌, List, length}
use Rattle.ground.specs.declared.sort.Sort.{Sort}
use Rattle.ground.specs.declared.sort.Sort.TheVariants.{«Type» as OfType, Field as OfField, Row as OfRow}
use Rattle.ground.specs.declared.sort.Labels.{Labels}
use Rattle.cells.specs.declared.What.{What}
use Rattle.cells.specs.declared.What.TheVariants.{Open, Link, Leaf, One, Two, Row as RowAt}
use Rattle.cells.specs.declared.Cell.{Cell}
use Rattle.cells.specs.Cells.{what_at, sort_at, Formed}
use Rattle.cells.specs.declared.Bare.TheVariants.{Absent}

-- the labels that there are; no row shows the owned cell
abbrev pub Proper : What ℕ → Type 0
Proper Open = Unit {0}
Proper (Link p) = Unit {0}
Proper (Leaf h) = Unit {0}
Proper (One h x) = Unit {0}
Proper (Two x y) = Unit {0}
Proper (RowAt l x y) = (l < 24) × (0 < x)

abbrev pub Small : Sort → Type 0
Small OfType = Unit {0}
Small OfField = Unit {0}
Small (OfRow m) = m.0 < 2 ^ 24

abbrev pub Rowly : Sort → Type 0
Rowly s = (m : Labels) × (s ≡ OfRow m)

-- The cell 0 is the owned absent field.
pub record Fine (cs : List (Cell ℕ)) : Type 0 where
  pub formed : Formed cs
  pub proper : (i : ℕ) → i < length cs → Proper (what_at cs i)
  pub small : (i : ℕ) → i < length cs → Small (sort_at cs i)
  pub absent : what_at cs 0 ≡ Leaf Absent
  pub field : sort_at cs 0 ≡ OfField

-- two known cells of one sort
pub record Peers (cs : List (Cell ℕ)) (a b : ℕ) : Type 0 where
  pub left : a < length cs
  pub right : b < length cs
  pub sorts : sort_at cs a ≡ sort_at cs b

abbrev pub cell_of : What ℕ → Sort → Cell ℕ
cell_of w s = record { what = w; rank = 0; sort = s }

abbrev pub absent_cell : Cell ℕ
absent_cell = cell_of (Leaf Absent) OfField
