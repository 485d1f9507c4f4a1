-- A row's chain as a table.
use Rattle.std.specs.Prelude.{◌≡◌, ℕ, suc, ◌+◌, ◌^◌, ◌<◌, cond, ◌⊎◌, List, [], ◌∷◌, length, Some, None, Option, ◌==◌, ◌≢◌, slice_index_or, slice_set, Ok, Err, Result}
use Rattle.ground.specs.declared.sort.Sort.TheVariants.{Row as OfRow}
use Rattle.ground.specs.declared.sort.Labels.{Labels}
use Rattle.cells.specs.declared.What.{What}
use Rattle.cells.specs.declared.What.TheVariants.{Open, Link, Leaf, One, Two, Row as RowAt}
use Rattle.cells.specs.declared.Cell.{Cell}
use Rattle.cells.specs.Cells.{what_at, sort_at, extended}
use Rattle.unifier.specs.Fine.{Fine}
use Rattle.cells.specs.Rooms.{Short}
use Rattle.cells.specs.Rows.{Shown, Chain}
use Rattle.cells.specs.Widths.{Widened}
use Rattle.unifier.specs.declared.side.Side.{Side}
use Rattle.unifier.specs.declared.misfit.NoRoom.{NoRoom}
use Rattle.cells.specs.declared.Bare.TheVariants.{Empty}

-- the field that a chain shows at a label
abbrev pub found : List Shown → ℕ → Option ℕ
found [] k = None
found (s ∷ fs) k = cond (k == s.label) (Some s.field) (found fs k)

-- no chain goes on from here
abbrev pub Ended : What ℕ → Type 0
Ended Open = Unit {0}
Ended (Link p) = ⊥
Ended (Leaf h) = Unit {0}
Ended (One h x) = Unit {0}
Ended (Two x y) = Unit {0}
Ended (RowAt l x y) = ⊥

-- the table is that of the root's chain
pub record Tabled (cs : List (Cell ℕ)) (s : Side) : Type 0 where
  pub shows : List Shown
  pub chain : Chain cs s.root shows s.tail
  pub table : (k : ℕ) → k < 24 → slice_index_or s.fields k None ≡ found shows k
  pub size : length s.fields ≡ 24
  pub known : s.tail < length cs
  pub ended : Ended (what_at cs s.tail)

-- two rows of one sort
pub record Facing (cs : List (Cell ℕ)) (a b : Side) : Type 0 where
  pub fine : Fine cs
  pub left : Tabled cs a
  pub right : Tabled cs b
  pub lacked : Labels
  pub left_sort : sort_at cs a.root ≡ OfRow lacked
  pub right_sort : sort_at cs b.root ≡ OfRow lacked

-- a label that one of them shows alone: the other's tail is empty
abbrev pub Lone : List (Cell ℕ) → Side → Side → ℕ → Type 0
Lone cs s t k = (x : ℕ) → slice_index_or s.fields k None ≡ Some x → slice_index_or t.fields k None ≡ None → what_at cs t.tail ≡ Leaf Empty

abbrev pub Covered : List (Cell ℕ) → Side → Side → ℕ → Type 0
Covered cs a b n = (k : ℕ) → k < n → Lone cs a b k × Lone cs b a k

-- the set with a label more
abbrev pub including : Labels → ℕ → Labels
including m l = record { 0 = m.0 + 2 ^ l }

abbrev pub showing : Side → ℕ → ℕ → ℕ → Side
showing s l x t = record { root = s.root; fields = slice_set s.fields l (Some x); tail = t }

-- a row gets a label where its tail is open: there a new tail stands below it, unless two cells are not left
abbrev pub Lent : ℕ → List (Cell ℕ) → Side → ℕ → ℕ → Result (Unit {0}) NoRoom → List (Cell ℕ) → Side → Type 0
Lent limit cs s l x (Ok u) ds t =
    ((m : Labels) × (what_at cs s.tail ≡ Open) × (sort_at cs s.tail ≡ OfRow m) × (ds ≡ extended cs s.tail l x (including m l)) × (t ≡ showing s l x (suc (length cs))))
    ⊎ ((what_at cs s.tail ≢ Open) × (ds ≡ cs) × (t ≡ s))
Lent limit cs s l x (Err e) ds t = (what_at cs s.tail ≡ Open) × (limit < length cs + 2) × (ds ≡ cs)

-- both rows wider, by extensions alone
pub record Widens (cs : List (Cell ℕ)) (a b : Side) (ds : List (Cell ℕ)) (s t : Side) : Type 0 where
  pub wide : Widened cs a.root b.root ds
  pub facing : Facing ds s t
  pub left_root : s.root ≡ a.root
  pub right_root : t.root ≡ b.root

-- one label is seen to; no cell is refused while the cells used and those that extensions may use are within the limit
abbrev pub Shared : ℕ → List (Cell ℕ) → Side → Side → ℕ → Result (Unit {0}) NoRoom → List (Cell ℕ) → Side → Side → Type 0
Shared limit cs a b l (Ok u) ds s t = Widens cs a b ds s t × (Covered cs a b l → Covered ds s t (suc l))
Shared limit cs a b l (Err e) ds s t = Short limit cs ds

-- and every label
abbrev pub Wide : ℕ → List (Cell ℕ) → Side → Side → Result (Unit {0}) NoRoom → List (Cell ℕ) → Side → Side → Type 0
Wide limit cs a b (Ok u) ds s t = Widens cs a b ds s t × Covered ds s t 24
Wide limit cs a b (Err e) ds s t = Short limit cs ds
