-- Tokens as text: one space apart but at brackets, variables named by first appearance.
use Rattle.std.specs.Prelude.{ℕ, Bool, true, false, cond, List, [], ◌∷◌, ◌++◌, Some, None, codes, decimal, count_by, fold, Option, ◌==◌}
use Rattle.std.specs.List.{find}
use Rattle.ground.specs.declared.classes.Classes.{Classes}
use Rattle.ground.specs.Members.{asks}
use Rattle.values.specs.declared.kind.Kind.{Kind}
use Rattle.values.specs.declared.word.Word.{Word}
use Rattle.values.specs.declared.word.Word.TheVariants.{Whole, Tenth, Flag, To, List as ListOf, Record, Row, Absent, Dots, Num, Ord, Eq, Steady}
use Rattle.values.specs.declared.token.Token.{Token}
use Rattle.values.specs.declared.token.Token.TheVariants.{Open, Close, Word as Plain, Label, Variable as Var}
use Rattle.values.specs.declared.name.Unsolved.{Unsolved}
use Rattle.values.specs.declared.name.Variable.{Variable}
use Rattle.values.specs.Kinds.{letter_of_kind}

-- how each word is written
abbrev pub spelt : Word → List ℕ
spelt Whole = codes "whole"
spelt Tenth = codes "tenth"
spelt Flag = codes "flag"
spelt To = codes "to"
spelt ListOf = codes "list"
spelt Record = codes "record"
spelt Row = codes "row"
spelt Absent = codes "-"
spelt Dots = codes "..."
spelt Num = codes "num"
spelt Ord = codes "ord"
spelt Eq = codes "eq"
spelt Steady = codes "steady"

-- the name that a code has
abbrev pub named_in : List Variable → ℕ → Option Variable
named_in vs c = find (λ v. v.unsolved.code.0 == c) vs

-- how many names begin with this letter
abbrev pub count_of : List Variable → ℕ → ℕ
count_of vs a = count_by (λ v. letter_of_kind v.unsolved.kind == a) vs

-- the number of a code's name: a new one takes the next of its letter
abbrev pub number_of : Option Variable → List Variable → Kind → ℕ
number_of (Some v) vs k = v.number
number_of None vs k = count_of vs (letter_of_kind k)

abbrev pub noted_in : Option Variable → List Variable → Unsolved → List Variable
noted_in (Some v) vs o = vs
noted_in None vs o = vs ++ record { unsolved = o; number = count_of vs (letter_of_kind o.kind) } ∷ []

-- what is written so far, the codes that have a name, and whether the next token stands without a space
pub record Writing : Type 0 where
  pub bytes : List ℕ
  pub names : List Variable
  pub tight : Bool

abbrev pub start : Writing
start = record { bytes = []; names = []; tight = true }

abbrev pub added : Writing → List ℕ → Bool → Writing
added w bs tight = record { bytes = cond w.tight w.bytes (w.bytes ++ 32 ∷ []) ++ bs; names = w.names; tight = tight }

abbrev pub noted : Writing → Unsolved → Writing
noted w o = record { bytes = w.bytes; names = noted_in (named_in w.names o.code.0) w.names o; tight = w.tight }

-- one token more
abbrev pub step : Writing → Token → Writing
step w Open = added w (40 ∷ []) true
step w Close = record { bytes = w.bytes ++ 41 ∷ []; names = w.names; tight = false }
step w (Plain x) = added w (spelt x) false
step w (Label l) = added w (decimal l) false
step w (Var o) = added (noted w o) (letter_of_kind o.kind ∷ decimal (number_of (named_in w.names o.code.0) w.names o.kind)) false

-- the tokens, behind what is written
abbrev pub spelled : Writing → List Token → Writing
spelled w ts = fold step w ts

-- each class of a set as a word, by the order of the classes
abbrev pub class_word : Classes → ℕ → Word → Option Word
class_word q k w = cond (asks k q) (Some w) None

abbrev pub class_words : Classes → List (Option Word)
class_words q = class_word q 0 Num ∷ class_word q 1 Ord ∷ class_word q 2 Eq ∷ class_word q 3 Steady ∷ []

-- a class that the open code has, behind the tokens
abbrev pub with_class : Unsolved → List Token → Option Word → List Token
with_class o ts None = ts
with_class o ts (Some w) = ts ++ Open ∷ Plain w ∷ Var o ∷ Close ∷ []

-- each class that the open code has
abbrev pub with_classes : List Token → Unsolved → List Token
with_classes ts o = fold (with_class o) ts (class_words o.classes)

-- the classes of the variables, by their order
abbrev pub classed : List Token → List Variable → List Token
classed ts vs = fold (λ us v. with_classes us v.unsolved) ts vs

-- the tokens of a line's values, and behind them the classes of its variables
abbrev pub written : List Token → Writing
written ts = spelled (spelled start ts) (classed [] (spelled start ts).names)
