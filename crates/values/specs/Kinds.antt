-- What a code stands for.
use Rattle.std.specs.Prelude.{ℕ}
use Rattle.ground.specs.declared.sort.Sort.{Sort}
use Rattle.ground.specs.declared.sort.Sort.TheVariants.{«Type» as TypeSort, Field as FieldSort, Row as RowSort}
use Rattle.ground.specs.declared.head.Head.{Head}
use Rattle.ground.specs.declared.head.Head.TheVariants.{Whole, Tenth, Flag, To, List as ListOf, Record, Absent, Has, Empty, Row as RowWith}
use Rattle.values.specs.declared.kind.Kind.{Kind}
use Rattle.values.specs.declared.kind.Kind.TheVariants.{«Type» as OfType, Field as OfField, Row as OfRow}

-- types are a0, a1 …, fields f0 …, rows r0 …
abbrev pub letter_of_kind : Kind → ℕ
letter_of_kind OfType = 97
letter_of_kind OfField = 102
letter_of_kind OfRow = 114

-- the kind of a sort, and of what a head builds
abbrev pub kind_of_sort : Sort → Kind
kind_of_sort TypeSort = OfType
kind_of_sort FieldSort = OfField
kind_of_sort (RowSort m) = OfRow

abbrev pub kind_of_head : Head → Kind
kind_of_head Whole = OfType
kind_of_head Tenth = OfType
kind_of_head Flag = OfType
kind_of_head To = OfType
kind_of_head ListOf = OfType
kind_of_head Record = OfType
kind_of_head Absent = OfField
kind_of_head Has = OfField
kind_of_head Empty = OfRow
kind_of_head RowWith = OfRow
