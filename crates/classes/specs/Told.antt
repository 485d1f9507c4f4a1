-- What the layer's own refusals tell: which class comes first, and when the table is full.
use Rattle.std.specs.Prelude.{◌≡◌, ℕ, ◌≤◌, true, false, List, [], length, Some, Ok, Err, Result}
use Rattle.ground.specs.Classes.{Asked}
use Rattle.ground.specs.declared.code.Code.{Code}
use Rattle.std.proofs.Math.Option.{some}
use Rattle.ground.specs.declared.sort.Sort.{Sort}
use Rattle.system.specs.Meaning.{Valuation, State, Meaning, Agree}
use Rattle.system.specs.Requests.{Request, fresh, build, equate, demand, mark, keep, back, Reply, code, token, done, fault, fits}
use Rattle.system.specs.Replies.{kind_of}
use Rattle.system.specs.Faults.{class_number}
use Rattle.system.specs.declared.fault.ClassFault.{ClassFault}
use Rattle.system.specs.declared.fault.ClassFault.TheVariants.{TooManyClasses}
use Rattle.classes.specs.declared.entry.Entry.{Entry}
use Rattle.classes.specs.Entries.{single, has, left}
use Rattle.classes.specs.Following.{Leads, Turn, Followed}

-- At most 128 entries are left.
abbrev pub Room : Result (List Entry) ClassFault → Type 0
Room (Ok t) = length t ≤ 128
Room (Err f) = Unit {0}

-- What comes of a demand, taken as an entry followed into the table: refused as too many exactly where it is left to an open code that has no entry, and
-- 128 stand.
pub data Demanded (m : Meaning) (e : Entry) (t : List Entry) (r : Result (List Entry) ClassFault) : Type 0 where
  taken : Turn m e t r → Room r → Demanded m e t r
  full : (d : Code) → ((k : ℕ) → Asked k e.set → Leads m k e.code.0 (Some d)) → has t d.0 ≡ false → 128 ≤ length t → r ≡ Err TooManyClasses → Demanded m e t r

-- The state t has just the solutions of s that P allows; codes may be added, whose values those of the old ones fix.
pub record Narrowed (s : State) (P : Valuation → Type 0) (t : State) : Type 0 where
  pub old : (c : ℕ) (o : Sort) → s.sort_of c ≡ some o → t.sort_of c ≡ some o
  pub onto : (v : Valuation) → t.solves v → s.solves v × P v
  pub from : (v : Valuation) → s.solves v → P v → (w : Valuation) × Agree s v w × t.solves w

-- The reply of the layer to what came of it.
abbrev pub replied : Result (List Entry) ClassFault → Reply
replied (Ok t) = done
replied (Err f) = fault (class_number f) 3

-- What a reply of the layer tells, from the state s below and the entries es to t and fs. To equate: what comes of following the entries, oldest first, in
-- a state u that has the solutions of s with both codes equal. To a demand that fits: what comes of it as an entry.
abbrev pub Told : {S : Type 0} → (S → Meaning) → ℕ → S → List Entry → Request → Reply → S → List Entry → Type 0
Told meaning h s es (fresh o) r t fs = Unit {0}
Told meaning h s es (build g x y l m) r t fs = Unit {0}
Told {S} meaning h s es (equate a b) (code c) t fs = Unit {0}
Told {S} meaning h s es (equate a b) (token d) t fs = Unit {0}
Told {S} meaning h s es (equate a b) done t fs = (u : S) × Narrowed (meaning s).state (λ v. v a ≡ v b) (meaning u).state × Followed (meaning u) es [] (Ok fs)
Told {S} meaning h s es (equate a b) (fault f l) t fs = l ≡ 3 → (u : S) × Narrowed (meaning s).state (λ v. v a ≡ v b) (meaning u).state × ((g : ClassFault) × (f ≡ class_number g) × Followed (meaning u) es [] (Err g))
Told meaning h s es (demand k c) r t fs =
    fits (kind_of h 0) (meaning s) (demand k c) ≡ true
    → (o : Result (List Entry) ClassFault) × Demanded (meaning t) (record { code = record { 0 = c }; set = single k }) es o × (r ≡ replied o) × (fs ≡ left es o)
Told meaning h s es mark r t fs = Unit {0}
Told meaning h s es (keep d) r t fs = Unit {0}
Told meaning h s es (back d) r t fs = Unit {0}
