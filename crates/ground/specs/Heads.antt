-- Heads: what each builds, the sort that it gives, and the children that it takes, with their sorts.
use Rattle.std.specs.Prelude.{◌≡◌, ℕ, ◌-◌, ◌^◌, Bool, true, false}
use Rattle.ground.specs.Values.{Ty, whole, tenth, flag, to, list, record_of, Row, end, put, Field, absent, has, Value, of_type, of_field, of_row}
use Rattle.ground.specs.Sorts.{In, Of}
use Rattle.ground.specs.declared.sort.Sort.{Sort}
use Rattle.ground.specs.declared.sort.Sort.TheVariants.{«Type» as OfType, Field as OfField, Row as OfRow}
use Rattle.ground.specs.declared.sort.Labels.{Labels}
use Rattle.ground.specs.declared.head.Head.{Head}
use Rattle.ground.specs.declared.head.Head.TheVariants.{Whole, Tenth, Flag, To, List as ListOf, Record, Absent, Has, Empty, Row as RowWith}

-- The head builds v of the children x and y, with the label l. A child that it does not take, and a label where it is no row, play no part.
abbrev pub Builds : Head → ℕ → Value → Value → Value → Type 0
Builds Whole l x y v = v ≡ of_type whole
Builds Tenth l x y v = v ≡ of_type tenth
Builds Flag l x y v = v ≡ of_type flag
Builds To l x y v = (a : Ty) × (b : Ty) × (x ≡ of_type a) × (y ≡ of_type b) × (v ≡ of_type (to a b))
Builds ListOf l x y v = (a : Ty) × (x ≡ of_type a) × (v ≡ of_type (list a))
Builds Record l x y v = (r : Row) × (x ≡ of_row r) × (v ≡ of_type (record_of r))
Builds Absent l x y v = v ≡ of_field absent
Builds Has l x y v = (a : Ty) × (x ≡ of_type a) × (v ≡ of_field (has a))
Builds Empty l x y v = v ≡ of_row end
Builds RowWith l x y v = (f : Field) × (r : Row) × (x ≡ of_field f) × (y ≡ of_row r) × (v ≡ of_row (put r l f))

-- The set of no labels.
abbrev pub none_lacked : Labels
none_lacked = record { 0 = 0 }

-- The set m without the label l, where m has l.
abbrev pub without : Labels → ℕ → Labels
without m l = record { 0 = m.0 - 2 ^ l }

-- The sort that the head gives, with the set m and the label l.
abbrev pub gives : Head → Labels → ℕ → Sort
gives Whole m l = OfType
gives Tenth m l = OfType
gives Flag m l = OfType
gives To m l = OfType
gives ListOf m l = OfType
gives Record m l = OfType
gives Absent m l = OfField
gives Has m l = OfField
gives Empty m l = OfRow m
gives RowWith m l = OfRow (without m l)

-- The heads in their order: a system that knows five knows the first five.
abbrev pub head_number : Head → ℕ
head_number Whole = 0
head_number Tenth = 1
head_number Flag = 2
head_number To = 3
head_number ListOf = 4
head_number Record = 5
head_number Absent = 6
head_number Has = 7
head_number Empty = 8
head_number RowWith = 9

-- The head takes a first child.
abbrev pub has_first : Head → Bool
has_first Whole = false
has_first Tenth = false
has_first Flag = false
has_first To = true
has_first ListOf = true
has_first Record = true
has_first Absent = false
has_first Has = true
has_first Empty = false
has_first RowWith = true

-- The head takes a second child.
abbrev pub has_second : Head → Bool
has_second Whole = false
has_second Tenth = false
has_second Flag = false
has_second To = true
has_second ListOf = false
has_second Record = false
has_second Absent = false
has_second Has = false
has_second Empty = false
has_second RowWith = true

-- The sort of the first child; of no meaning where the head takes none.
abbrev pub first_sort : Head → Sort
first_sort Whole = OfType
first_sort Tenth = OfType
first_sort Flag = OfType
first_sort To = OfType
first_sort ListOf = OfType
first_sort Record = OfRow none_lacked
first_sort Absent = OfType
first_sort Has = OfType
first_sort Empty = OfType
first_sort RowWith = OfField

-- The sort of the second child, with the set m; of no meaning where the head takes none.
abbrev pub second_sort : Head → Labels → Sort
second_sort Whole m = OfType
second_sort Tenth m = OfType
second_sort Flag m = OfType
second_sort To m = OfType
second_sort ListOf m = OfType
second_sort Record m = OfType
second_sort Absent m = OfType
second_sort Has m = OfType
second_sort Empty m = OfType
second_sort RowWith m = OfRow m

-- The children x and y, the set m and the label l suit the head: each child that it takes is of its sort, and the label of a row is in the set.
pub record Suits (h : Head) (m : Labels) (l : ℕ) (x y : Value) : Type 0 where
  pub label : h ≡ RowWith → In l m
  pub first : has_first h ≡ true → Of (first_sort h) x
  pub second : has_second h ≡ true → Of (second_sort h m) y
