-- The heads that cells show.
use Rattle.ground.specs.declared.head.Head.{Head}
use Rattle.ground.specs.declared.head.Head.TheVariants.{Whole, Tenth, Flag, List as ListOf, Record, Absent, Has, Empty}
use Rattle.cells.specs.declared.Bare.{Bare}
use Rattle.cells.specs.declared.Bare.TheVariants.{Whole as BareWhole, Tenth as BareTenth, Flag as BareFlag, Absent as BareAbsent, Empty as BareEmpty}
use Rattle.cells.specs.declared.Wrap.{Wrap}
use Rattle.cells.specs.declared.Wrap.TheVariants.{List as OneList, Record as OneRecord, Has as OneHas}

abbrev pub leaf_head : Bare → Head
leaf_head BareWhole = Whole
leaf_head BareTenth = Tenth
leaf_head BareFlag = Flag
leaf_head BareAbsent = Absent
leaf_head BareEmpty = Empty

abbrev pub one_head : Wrap → Head
one_head OneList = ListOf
one_head OneRecord = Record
one_head OneHas = Has
