-- Entries: codes with the classes demanded of them, the oldest first, and what it is to demand more.
use Rattle.std.specs.Prelude.{ℕ, ◌^◌, Bool, true, false, cond, List, [], ◌∷◌, length, Ok, Err, Result, ◌==◌, bit_or, nat_lt}
use Rattle.ground.specs.Members.{compatible}
use Rattle.ground.specs.declared.code.Code.{Code}
use Rattle.ground.specs.declared.classes.Classes.{Classes}
use Rattle.system.specs.declared.fault.ClassFault.{ClassFault}
use Rattle.system.specs.declared.fault.ClassFault.TheVariants.{NoMember, TooManyClasses}
use Rattle.classes.specs.declared.entry.Entry.{Entry}

-- The empty set of classes.
abbrev pub unclassed : Classes
unclassed = record { 0 = 0 }

-- What stands in a place that no entry has.
abbrev pub blank : Entry
blank = record { code = record { 0 = 0 }; set = unclassed }

-- The classes of either set.
abbrev pub both : Classes → Classes → Classes
both s t = record { 0 = bit_or s.0 t.0 }

-- The set of one class.
abbrev pub single : ℕ → Classes
single k = record { 0 = 2 ^ k }

-- The code has an entry.
abbrev pub has : List Entry → ℕ → Bool
has [] c = false
has (e ∷ es) c = cond (e.code.0 == c) true (has es c)

-- The classes demanded of the code: none where it has no entry.
abbrev pub classed : List Entry → ℕ → Classes
classed [] c = unclassed
classed (e ∷ es) c = cond (e.code.0 == c) e.set (classed es c)

-- The entries with the classes s demanded of d too: its set and s are joined in the place of its entry, or else it gets one, the youngest.
abbrev pub joined : List Entry → Code → Classes → List Entry
joined [] d s = record { code = d; set = s } ∷ []
joined (e ∷ es) d s = cond (e.code.0 == d.0) (record { code = e.code; set = both e.set s } ∷ es) (e ∷ joined es d s)

-- What comes of that in a table of at most 128 entries: refused where the joined sets have no common member, and where the table is full.
abbrev pub joining : List Entry → Code → Classes → Result (List Entry) ClassFault
joining es d s =
    cond (has es d.0) (cond (compatible (both (classed es d.0) s)) (Ok (joined es d s)) (Err NoMember)) (cond (nat_lt (length es) 128) (Ok (joined es d s)) (Err TooManyClasses))

-- The answer of a call that does this.
abbrev pub told : Result (List Entry) ClassFault → Result (Unit {0}) ClassFault
told (Ok es) = Ok tt
told (Err f) = Err f

-- The entries that it leaves, where these were the entries before: on a refusal they are as they were.
abbrev pub left : List Entry → Result (List Entry) ClassFault → List Entry
left es (Ok fs) = fs
left es (Err f) = es
