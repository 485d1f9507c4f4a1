-- The node of a bracketed form, by its keyword, and that of a number.
use Rattle.std.specs.Prelude.{ℕ}
use Rattle.ground.specs.declared.name.Name.{Name as Packed}
use Rattle.words.specs.declared.keyword.Keyword.{Keyword}
use Rattle.words.specs.declared.keyword.Keyword.TheVariants.{Fun, Call, Let, Rec, If, Record, With, Get, Drop}
use Rattle.words.specs.declared.number.Number.{Number}
use Rattle.words.specs.declared.number.Number.TheVariants.{Whole, Tenths}
use Rattle.script.specs.declared.node.Item.{Item}
use Rattle.script.specs.declared.node.Item.TheVariants.{Whole as AWhole, Tenths as SomeTenths, Fun as AFun, Call as ACall, Let as ALet, Rec as ARec, If as AnIf, Record as ARecord, With as AWith, Get as AGet, Drop as ADrop}

abbrev pub item_of : Keyword → Packed → ℕ → Item
item_of Fun n l = AFun n
item_of Call n l = ACall
item_of Let n l = ALet n
item_of Rec n l = ARec n
item_of If n l = AnIf
item_of Record n l = ARecord
item_of With n l = AWith l
item_of Get n l = AGet l
item_of Drop n l = ADrop l

abbrev pub item_of_number : Number → Item
item_of_number (Whole z) = AWhole z
item_of_number (Tenths z) = SomeTenths z
