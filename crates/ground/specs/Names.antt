-- Names and labels, as the bytes that spell them.
use Rattle.std.specs.Prelude.{ℕ, min, Bool, true, false, cond, List, [], ◌∷◌, ◌++◌, length, take, drop, replicate, Some, None, codes, Option, nat_le}
use Rattle.std.specs.Str.{bytes_eq}
use Rattle.ground.specs.declared.name.Name.{Name as Packed}

-- A name or a label is the bytes that spell it.
abbrev pub Name : Type 0
Name = List ℕ

-- Two names are the same when their bytes are.
abbrev pub same_name : Name → Name → Bool
same_name a b = bytes_eq a b

-- The name is one of the list.
abbrev pub named : List Name → Name → Bool
named [] n = false
named (m ∷ ms) n = cond (same_name m n) true (named ms n)

-- The bytes of a name as a program holds it.
abbrev pub text : Packed → Name
text p = take (min p.length 12) p.bytes

-- The bytes of each of some names.
abbrev pub texts : List Packed → List Name
texts [] = []
texts (p ∷ ps) = text p ∷ texts ps

-- A name as a program holds it: its bytes, filled up with zeros to 12.
abbrev pub pack : Name → Packed
pack n = record { bytes = n ++ drop (length n) (replicate 12 0); length = length n }

-- The same, and none where the name has more than 12 bytes.
abbrev pub packed : Name → Option Packed
packed n = cond (nat_le (length n) 12) (Some (pack n)) None

-- The names that stand below all definitions.
abbrev pub plain_name_list : List Name
plain_name_list = codes "not" ∷ codes "nil" ∷ codes "cons" ∷ []

-- The names that stand there besides, where the four classes are known.
abbrev pub class_name_list : List Name
class_name_list = codes "add" ∷ codes "neg" ∷ codes "less" ∷ codes "equal" ∷ codes "hold" ∷ []

-- All built-in names, with or without those that ask for the four classes.
abbrev pub built_in_list : Bool → List Name
built_in_list false = plain_name_list
built_in_list true = class_name_list ++ plain_name_list
