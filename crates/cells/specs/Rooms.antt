-- What the cells may still cost.
use Rattle.std.specs.Prelude.{ℕ, zero, suc, ◌+◌, ◌-◌, ◌*◌, ◌/◌, ◌%◌, ◌^◌, ◌<◌, List, [], ◌∷◌, length}
use Rattle.ground.specs.declared.sort.Sort.{Sort}
use Rattle.ground.specs.declared.sort.Sort.TheVariants.{«Type» as OfType, Field as OfField, Row as OfRow}
use Rattle.ground.specs.declared.sort.Labels.{Labels}
use Rattle.cells.specs.declared.What.{What}
use Rattle.cells.specs.declared.What.TheVariants.{Open, Link, Leaf, One, Two, Row as RowAt}
use Rattle.cells.specs.declared.Cell.{Cell}
use Rattle.cells.specs.Cells.{roots}

abbrev pub bit : ℕ → ℕ → ℕ
bit l m = (m / 2 ^ l) % 2

-- how many of the labels below j are in the set
abbrev pub count : ℕ → ℕ → ℕ
count zero m = 0
count (suc j) m = bit j m + count j m

unfoldable pub card : Labels → ℕ
card m = count 24 m.0

-- how many labels an open row may still get
abbrev pub spare_sort : Sort → ℕ
spare_sort OfType = 0
spare_sort OfField = 0
spare_sort (OfRow m) = 24 - card m

abbrev pub spare_of : What ℕ → Sort → ℕ
spare_of Open s = spare_sort s
spare_of (Link p) s = 0
spare_of (Leaf h) s = 0
spare_of (One h x) s = 0
spare_of (Two x y) s = 0
spare_of (RowAt l x y) s = 0

abbrev pub spare : Cell ℕ → ℕ
spare c = spare_of c.what c.sort

abbrev pub spares : List (Cell ℕ) → ℕ
spares [] = 0
spares (c ∷ cs) = spare c + spares cs

-- cells used, and those that extensions may still use
abbrev pub used : List (Cell ℕ) → ℕ
used cs = length cs + 2 * spares cs

-- what is left to do, with so many pairs and a store of C cells
abbrev pub left : ℕ → ℕ → List (Cell ℕ) → ℕ
left C p cs = p + 26 * (roots cs + (C - length cs))

-- no room: the cells used and those that extensions may use pass the limit, and of the cells that came of cs fewer than two are left
abbrev pub Short : ℕ → List (Cell ℕ) → List (Cell ℕ) → Type 0
Short limit cs ds = (limit < used cs) × (limit < length ds + 2)
