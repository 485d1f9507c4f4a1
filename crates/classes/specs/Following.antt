-- Following entries: where look leads from their codes, and what comes of that.
use Rattle.std.specs.Prelude.{◌≡◌, ℕ, ◌<◌, true, false, cond, List, [], ◌∷◌, Some, None, Ok, Err, Option, Result, ◌==◌, bit_and}
use Rattle.std.proofs.Math.Option.{some}
use Rattle.ground.specs.Classes.{Asked}
use Rattle.ground.specs.Members.{compatible}
use Rattle.ground.specs.declared.sort.Sort.TheVariants.{«Type» as OfType}
use Rattle.ground.specs.declared.head.Head.{Head}
use Rattle.ground.specs.declared.head.Head.TheVariants.{Whole, Tenth, Flag, To, List as ListOf, Record, Absent, Has, Empty, Row as RowWith}
use Rattle.ground.specs.declared.code.Code.{Code}
use Rattle.ground.specs.declared.classes.Classes.{Classes}
use Rattle.system.specs.Meaning.{Valuation, Meaning}
use Rattle.system.specs.Follows.{Void, Within}
use Rattle.system.specs.declared.fault.ClassFault.{ClassFault}
use Rattle.system.specs.declared.fault.ClassFault.TheVariants.{NotInClass, NoMember}
use Rattle.classes.specs.declared.entry.Entry.{Entry}
use Rattle.classes.specs.declared.verdict.Verdict.{Verdict}
use Rattle.classes.specs.Entries.{unclassed, both, classed, joined, joining}
use Rattle.classes.specs.Layered.{Open}

-- The classes that have what the head builds, but for list.
abbrev pub members_of : Head → Classes
members_of Whole = record { 0 = 7 }
members_of Tenth = record { 0 = 7 }
members_of Flag = record { 0 = 12 }
members_of To = unclassed
members_of ListOf = unclassed
members_of Record = unclassed
members_of Absent = unclassed
members_of Has = unclassed
members_of Empty = unclassed
members_of RowWith = unclassed

-- Whether c is in the class k is settled: it is, in every solution; or it is left to the open code d, which is in the class exactly when c is.
abbrev pub Leads : Meaning → ℕ → ℕ → Option Code → Type 0
Leads m k c None = (v : Valuation) → m.state.solves v → Within k c v
Leads m k c (Some d) =
    Open m.state d.0 × (m.state.sort_of d.0 ≡ some OfType)
    × ((v : Valuation) → m.state.solves v → Within k c v → Within k d.0 v)
    × ((v : Valuation) → m.state.solves v → Within k d.0 v → Within k c v)

-- The verdict on a code is right: in the classes that it does not allow the code is in no solution, and in those that it allows as its open code is, or
-- settled where it has none.
pub record Judged (m : Meaning) (c : ℕ) (o : Verdict) : Type 0 where
  pub four : o.allows.0 < 16
  pub outside : (k : ℕ) → k < 4 → (Asked k o.allows → ⊥) → Void m (Within k c)
  pub inside : (k : ℕ) → Asked k o.allows → Leads m k c o.code

-- What comes of one entry, followed into the table t: all its classes are settled; or one of them has the code in no solution; or they are left to an open
-- code, where they join the set that it has, and these have a common member, or none.
pub data Turn (m : Meaning) (e : Entry) (t : List Entry) (r : Result (List Entry) ClassFault) : Type 0 where
  settled : ((k : ℕ) → Asked k e.set → Leads m k e.code.0 None) → r ≡ Ok t → Turn m e t r
  outside : (k : ℕ) → Asked k e.set → Void m (Within k e.code.0) → r ≡ Err NotInClass → Turn m e t r
  joins : (d : Code) → ((k : ℕ) → Asked k e.set → Leads m k e.code.0 (Some d)) → compatible (both (classed t d.0) e.set) ≡ true → r ≡ Ok (joined t d e.set) → Turn m e t r
  clashes : (d : Code) → ((k : ℕ) → Asked k e.set → Leads m k e.code.0 (Some d)) → compatible (both (classed t d.0) e.set) ≡ false → r ≡ Err NoMember → Turn m e t r

-- What goes on where the first came out so.
abbrev pub onward : (List Entry → Result (List Entry) ClassFault → Type 0) → Result (List Entry) ClassFault → Result (List Entry) ClassFault → Type 0
onward F (Ok t) r = F t r
onward F (Err f) r = r ≡ Err f

-- What comes of entries followed one after another into the table t, the oldest first: the first refusal, or the table that they make.
abbrev pub Followed : Meaning → List Entry → List Entry → Result (List Entry) ClassFault → Type 0
Followed m [] t r = r ≡ Ok t
Followed m (e ∷ es) t r = (o : Result (List Entry) ClassFault) × Turn m e t o × onward (Followed m es) o r

-- What comes of the classes s of a code, in the table t, by the verdict on the code.
abbrev pub taken_by : List Entry → Option Code → Classes → Result (List Entry) ClassFault
taken_by t None s = Ok t
taken_by t (Some d) s = joining t d s

-- The same, where one that the verdict does not allow is refused.
abbrev pub taken : List Entry → Verdict → Classes → Result (List Entry) ClassFault
taken t o s = cond (bit_and s.0 o.allows.0 == s.0) (taken_by t o.code s) (Err NotInClass)
