-- The refusals of the reader, by number.
use Rattle.std.specs.Prelude.{ℕ, cond, List, codes, Result, ◌==◌}
use Rattle.ground.specs.declared.place.Place.{Place}
use Rattle.script.specs.declared.fault.Reason.{Reason}
use Rattle.script.specs.declared.fault.Reason.TheVariants.{TooLong, BadByte, Unexpected, TooDeep, OutOfRange, TooManyForms, UnknownLabel, UnboundName, NoRecords}
use Rattle.words.specs.declared.leaf.LeafFault.{LeafFault}
use Rattle.words.specs.declared.leaf.LeafFault.TheVariants.{TooLarge, Stray}
use Rattle.script.specs.declared.fault.ReadFault.{ReadFault}

abbrev pub number : Reason → ℕ
number TooLong = 3
number BadByte = 4
number Unexpected = 5
number TooDeep = 6
number OutOfRange = 7
number TooManyForms = 8
number UnknownLabel = 9
number UnboundName = 10
number NoRecords = 11

-- in words, where it is a refusal of so many bytes
abbrev pub words_of : Reason → ℕ → List ℕ
words_of TooLong n = codes "the script is longer than 4096 bytes"
words_of BadByte n = codes "this byte is none of the printable ones"
words_of Unexpected n = cond (n == 0) (codes "the script ends here, and is not whole") (codes "this cannot stand here")
words_of TooDeep n = codes "brackets nest deeper than 32"
words_of OutOfRange n = codes "the number is out of range"
words_of TooManyForms n = codes "there are more than 512 forms"
words_of UnknownLabel n = codes "the label is not on the sheet"
words_of UnboundName n = codes "the name is not bound"
words_of NoRecords n = codes "records are not known here"

abbrev pub fault : Reason → Place → ReadFault
fault why p = record { reason = why; place = p }

-- why a word is refused that is no form by itself
abbrev pub of_leaf : LeafFault → Reason
of_leaf TooLarge = OutOfRange
of_leaf Stray = Unexpected

-- from the byte i on, n bytes
abbrev pub span : ℕ → ℕ → Place
span i n = record { start = i; length = n }

-- what is read, or the refusal
abbrev pub Out : Type 0 → Type 0
Out A = Result A ReadFault
