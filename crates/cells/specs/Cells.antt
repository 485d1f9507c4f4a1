-- What cells say of values; every cell has its sort.
use Rattle.std.specs.Prelude.{◌≡◌, ℕ, suc, ◌+◌, ◌<◌, ◌≤◌, max, ◌⊎◌, List, [], ◌∷◌, ◌++◌, length, set, slice_index_or, slice_set}
use Rattle.ground.specs.Values.{Ty, whole, tenth, flag, to, list, record_of, Row, end, Field, absent, has, Value, of_type, of_field, of_row, put}
use Rattle.ground.specs.Sorts.{Of, In}
use Rattle.ground.specs.Heads.{none_lacked}
use Rattle.ground.specs.declared.sort.Sort.{Sort}
use Rattle.ground.specs.declared.sort.Sort.TheVariants.{«Type» as OfType, Field as OfField, Row as OfRow}
use Rattle.ground.specs.declared.sort.Labels.{Labels}
use Rattle.cells.specs.declared.What.{What}
use Rattle.cells.specs.declared.What.TheVariants.{Open, Link, Leaf, One, Two, Row as RowAt}
use Rattle.cells.specs.declared.Cell.{Cell}
use Rattle.cells.specs.declared.Bare.{Bare}
use Rattle.cells.specs.declared.Bare.TheVariants.{Whole, Tenth, Flag, Absent, Empty}
use Rattle.cells.specs.declared.Wrap.{Wrap}
use Rattle.cells.specs.declared.Wrap.TheVariants.{List as ListOf, Record as RecordOf, Has as HasOf}

-- a value read at a sort
abbrev pub as_type : Value → Ty
as_type (of_type t) = t
as_type (of_field f) = whole
as_type (of_row r) = whole

abbrev pub as_field : Value → Field
as_field (of_type t) = absent
as_field (of_field f) = f
as_field (of_row r) = absent

abbrev pub as_row : Value → Row
as_row (of_type t) = end
as_row (of_field f) = end
as_row (of_row r) = r

-- what the heads build: whole, tenth, flag, absent, empty; list, record, has; to; a row with a label
abbrev pub leaf : Bare → Value
leaf Whole = of_type whole
leaf Tenth = of_type tenth
leaf Flag = of_type flag
leaf Absent = of_field absent
leaf Empty = of_row end

abbrev pub one : Wrap → Value → Value
one ListOf v = of_type (list (as_type v))
one RecordOf v = of_type (record_of (as_row v))
one HasOf v = of_field (has (as_type v))

abbrev pub two : Value → Value → Value
two u v = of_type (to (as_type u) (as_type v))

abbrev pub row_of : ℕ → Value → Value → Value
row_of l u v = of_row (put (as_row v) l (as_field u))

abbrev pub Valuation : Type 0
Valuation = ℕ → Value

abbrev pub none : Cell ℕ
none = record { what = Open; rank = 0; sort = OfType }

abbrev pub what_at : List (Cell ℕ) → ℕ → What ℕ
what_at cs i = (slice_index_or cs i none).what

abbrev pub rank_at : List (Cell ℕ) → ℕ → ℕ
rank_at cs i = (slice_index_or cs i none).rank

abbrev pub sort_at : List (Cell ℕ) → ℕ → Sort
sort_at cs i = (slice_index_or cs i none).sort

abbrev pub Says : (Value → Value) → Valuation → ℕ → What ℕ → Type 0
Says f v i Open = Unit {0}
Says f v i (Link p) = f (v i) ≡ f (v p)
Says f v i (Leaf h) = f (v i) ≡ f (leaf h)
Says f v i (One h x) = f (v i) ≡ f (one h (v x))
Says f v i (Two x y) = f (v i) ≡ f (two (v x) (v y))
Says f v i (RowAt l x y) = f (v i) ≡ f (row_of l (v x) (v y))

-- every cell's equation, as far as f sees, and every value is of its sort
abbrev pub Holds : (Value → Value) → List (Cell ℕ) → Valuation → Type 0
Holds f cs v = (i : ℕ) → i < length cs → Says f v i (what_at cs i) × Of (sort_at cs i) (v i)

abbrev pub rootly : What ℕ → ℕ
rootly Open = 1
rootly (Link p) = 0
rootly (Leaf h) = 1
rootly (One h x) = 1
rootly (Two x y) = 1
rootly (RowAt l x y) = 1

abbrev pub Root : What ℕ → Type 0
Root w = rootly w ≡ 1

abbrev pub roots : List (Cell ℕ) → ℕ
roots [] = 0
roots (c ∷ cs) = rootly c.what + roots cs

-- n is m with l, which m has not
pub record Adds (m : Labels) (l : ℕ) (n : Labels) : Type 0 where
  pub new : In l m → ⊥
  pub here : In l n
  pub old : (k : ℕ) → In k m → In k n
  pub only : (k : ℕ) → In k n → (k ≡ l) ⊎ In k m

-- the sort of a row with l over a tail
abbrev pub Over : Sort → ℕ → Sort → Type 0
Over OfType l t = ⊥
Over OfField l t = ⊥
Over (OfRow m) l OfType = ⊥
Over (OfRow m) l OfField = ⊥
Over (OfRow m) l (OfRow n) = Adds m l n

abbrev pub one_sort : Wrap → Sort → Type 0
one_sort ListOf s = s ≡ OfType
one_sort RecordOf s = s ≡ OfRow none_lacked
one_sort HasOf s = s ≡ OfType

abbrev pub one_gives : Wrap → Sort
one_gives ListOf = OfType
one_gives RecordOf = OfType
one_gives HasOf = OfField

abbrev pub Refers : List (Cell ℕ) → ℕ → What ℕ → Type 0
Refers cs i Open = Unit {0}
Refers cs i (Link p) = (p < length cs) × (rank_at cs i < rank_at cs p) × (sort_at cs i ≡ sort_at cs p)
Refers cs i (Leaf h) = Of (sort_at cs i) (leaf h)
Refers cs i (One h x) = (x < length cs) × one_sort h (sort_at cs x) × (sort_at cs i ≡ one_gives h)
Refers cs i (Two x y) = (x < length cs) × (y < length cs) × (sort_at cs x ≡ OfType) × (sort_at cs y ≡ OfType) × (sort_at cs i ≡ OfType)
Refers cs i (RowAt l x y) = (x < length cs) × (y < length cs) × (sort_at cs x ≡ OfField) × Over (sort_at cs i) l (sort_at cs y)

pub record Formed (cs : List (Cell ℕ)) : Type 0 where
  pub refers : (i : ℕ) → i < length cs → Refers cs i (what_at cs i)
  pub ranks : (i : ℕ) → i < length cs → rank_at cs i + roots cs ≤ length cs

pub data Leads (cs : List (Cell ℕ)) : ℕ → ℕ → Type 0 where
  stay : {c : ℕ} → Leads cs c c
  on : {c i p : ℕ} → Leads cs c i → what_at cs i ≡ Link p → Leads cs c p

abbrev pub linked : List (Cell ℕ) → ℕ → ℕ → List (Cell ℕ)
linked cs r t =
    set (slice_set cs r (record { what = Link t; rank = rank_at cs r; sort = sort_at cs r })) t
    (record { what = what_at cs t; rank = max (rank_at cs t) (rank_at cs r + 1); sort = sort_at cs t })

-- two more cells: a row with l over the field x and a new open tail; and the old tail linked to it
abbrev pub row_cell : List (Cell ℕ) → ℕ → ℕ → ℕ → Cell ℕ
row_cell cs o l x = record { what = RowAt l x (suc (length cs)); rank = 0; sort = sort_at cs o }

abbrev pub tail_cell : Labels → Cell ℕ
tail_cell n = record { what = Open; rank = 0; sort = OfRow n }

abbrev pub longer : List (Cell ℕ) → ℕ → ℕ → ℕ → Labels → List (Cell ℕ)
longer cs o l x n = cs ++ row_cell cs o l x ∷ tail_cell n ∷ []

abbrev pub extended : List (Cell ℕ) → ℕ → ℕ → ℕ → Labels → List (Cell ℕ)
extended cs o l x n = linked (longer cs o l x n) o (length cs)

abbrev pub Agree : ℕ → Valuation → Valuation → Type 0
Agree n v w = (i : ℕ) → i < n → w i ≡ v i
