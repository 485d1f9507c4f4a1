-- Sorts: which values are types, fields, and rows that lack a set of labels.
use Rattle.std.specs.Prelude.{◌≡◌, ℕ, ◌/◌, ◌%◌, ◌^◌}
use Rattle.ground.specs.Values.{Value, of_type, of_field, of_row, absent, at}
use Rattle.ground.specs.declared.sort.Sort.{Sort}
use Rattle.ground.specs.declared.sort.Sort.TheVariants.{«Type» as OfType, Field as OfField, Row as OfRow}
use Rattle.ground.specs.declared.sort.Labels.{Labels}

-- The label l is in the set m: bit l is set.
abbrev pub In : ℕ → Labels → Type 0
In l m = (m.0 / 2 ^ l) % 2 ≡ 1

-- The value is of the sort. A row that lacks m has nothing at the labels of m: it is written as a row that is absent there.
abbrev pub Of : Sort → Value → Type 0
Of OfType (of_type t) = Unit {0}
Of OfType (of_field f) = ⊥
Of OfType (of_row r) = ⊥
Of OfField (of_type t) = ⊥
Of OfField (of_field f) = Unit {0}
Of OfField (of_row r) = ⊥
Of (OfRow m) (of_type t) = ⊥
Of (OfRow m) (of_field f) = ⊥
Of (OfRow m) (of_row r) = (l : ℕ) → In l m → at r l ≡ absent
