-- What comes of an entry by the verdict on its code.
use Rattle.std.proofs.Common.{◌≡◌, ℕ, suc, ◌<◌, ◌≤◌, Bool, true, false, cond, eqb, ltb, List, [], ◌∷◌, length, Some, None, Ok, Err, Option, Result, sym, refl, ap, ◌∙◌, arith, lt-ltb, eqb-true}
use lib.Bits.{bit_and}
use borrow.Author.Tests.{eqb-false}
use Rattle.std.proofs.lemmas.Bool.{cond-true, cond-false}
use Rattle.ground.specs.Classes.{Asked}
use Rattle.ground.specs.Members.{compatible}
use Rattle.ground.specs.declared.code.Code.{Code}
use Rattle.ground.specs.declared.classes.Classes.{Classes}
use Rattle.ground.proofs.Built.{no_way}
use Rattle.system.specs.Meaning.{Meaning}
use Rattle.system.specs.declared.fault.ClassFault.{ClassFault}
use Rattle.system.specs.declared.fault.ClassFault.TheVariants.{NotInClass, NoMember, TooManyClasses}
use Rattle.classes.specs.declared.entry.Entry.{Entry}
use Rattle.classes.specs.declared.verdict.Verdict.{Verdict}
use Rattle.classes.specs.Entries.{unclassed, both, has, classed, joined, joining, told, left}
use Rattle.classes.specs.Layered.{Followable}
use Rattle.classes.specs.Following.{Leads, Judged, Turn, settled, outside, joins, clashes, taken_by, taken}
use Rattle.classes.specs.Setting.{sub_asked, beyond, four_asked}

-- a code without an entry has no class
classed_step : (b r : Bool) (s u : Classes) → (r ≡ false → u ≡ unclassed) → cond b true r ≡ false → cond b s u ≡ unclassed
classed_step true r s u f h = absurd (no_way (sym h))
classed_step false r s u f h = f h

pub classed_none : (es : List Entry) (c : ℕ) → has es c ≡ false → classed es c ≡ unclassed
classed_none [] c h = refl
classed_none (e ∷ es) c h = classed_step (eqb e.code.0 c) (has es c) e.set (classed es c) (classed_none es c) h

-- the classes left to an open code
turn_joining :
    (m : Meaning) (e : Entry) (t : List Entry) (d : Code) → compatible e.set ≡ true → length t < 128 → ((k : ℕ) → Asked k e.set → Leads m k e.code.0 (Some d))
    → (a b : Bool) → has t d.0 ≡ a → compatible (both (classed t d.0) e.set) ≡ b → Turn m e t (joining t d e.set)
turn_joining m e t d g l f true true p q =
    joins d f q
    (cond-true (has t d.0) _ _ p ∙ cond-true (compatible (both (classed t d.0) e.set)) _ _ q)
turn_joining m e t d g l f true false p q =
    clashes d f q
    (cond-true (has t d.0) _ _ p ∙ cond-false (compatible (both (classed t d.0) e.set)) _ _ q)
turn_joining m e t d g l f false b p q =
    joins d f (ap (λ (u : Classes). compatible (both u e.set)) (classed_none t d.0 p) ∙ g)
    (cond-false (has t d.0) _ _ p ∙ cond-true (ltb (length t) 128) _ _ (lt-ltb (length t) 128 l))

turn_by :
    (m : Meaning) (e : Entry) (t : List Entry) (o : Option Code) → compatible e.set ≡ true → length t < 128 → ((k : ℕ) → Asked k e.set → Leads m k e.code.0 o)
    → Turn m e t (taken_by t o e.set)
turn_by m e t None g l f = settled f refl
turn_by m e t (Some d) g l f = turn_joining m e t d g l f (has t d.0) (compatible (both (classed t d.0) e.set)) refl refl

turn_at : (m : Meaning) (e : Entry) (t : List Entry) (o : Verdict) → Followable m.state e → length t < 128 → Judged m e.code.0 o → (b : Bool) → eqb (bit_and e.set.0 o.allows.0) e.set.0 ≡ b → Turn m e t (cond b (taken_by t o.code e.set) (Err NotInClass))
turn_at m e t o f l j true p = turn_by m e t o.code f.member l (λ k a. j.inside k (sub_asked e.set.0 o.allows.0 k (eqb-true (bit_and e.set.0 o.allows.0) e.set.0 p) a))
turn_at m e t o f l j false p =
    let q = beyond e.set.0 o.allows.0 f.four j.four (eqb-false (bit_and e.set.0 o.allows.0) e.set.0 p) in
    outside q.0 q.1 (j.outside q.0 (four_asked e.set q.0 f.four q.1) q.2) refl

pub turn_of : (m : Meaning) (e : Entry) (t : List Entry) (o : Verdict) → Followable m.state e → length t < 128 → Judged m e.code.0 o → Turn m e t (taken t o e.set)
turn_of m e t o f l j = turn_at m e t o f l j (eqb (bit_and e.set.0 o.allows.0) e.set.0) refl

-- at most one entry more
joined_step : (b : Bool) (e f : Entry) (es fs : List Entry) → length fs ≤ suc (length es) → length (cond b (f ∷ es) (e ∷ fs)) ≤ suc (suc (length es))
joined_step true e f es fs h = omega arith
joined_step false e f es fs h = omega arith

pub joined_length : (es : List Entry) (d : Code) (s : Classes) → length (joined es d s) ≤ suc (length es)
joined_length [] d s = omega arith
joined_length (e ∷ es) d s = joined_step (eqb e.code.0 d.0) e (record { code = e.code; set = both e.set s }) es (joined es d s) (joined_length es d s)

joining_step : (a b g : Bool) (t u : List Entry) → length u ≤ suc (length t) → length (left t (cond a (cond b (Ok u) (Err NoMember)) (cond g (Ok u) (Err TooManyClasses)))) ≤ suc (length t)
joining_step true true g t u h = h
joining_step true false g t u h = omega arith
joining_step false b true t u h = h
joining_step false b false t u h = omega arith

taken_by_holds : (t : List Entry) (o : Option Code) (s : Classes) → length (left t (taken_by t o s)) ≤ suc (length t)
taken_by_holds t None s = omega arith
taken_by_holds t (Some d) s = joining_step (has t d.0) (compatible (both (classed t d.0) s)) (ltb (length t) 128) t (joined t d s) (joined_length t d s)

taken_step : (b : Bool) (t : List Entry) (r : Result (List Entry) ClassFault) → length (left t r) ≤ suc (length t) → length (left t (cond b r (Err NotInClass))) ≤ suc (length t)
taken_step true t r h = h
taken_step false t r h = omega arith

pub taken_length : (t : List Entry) (o : Verdict) (s : Classes) → length (left t (taken t o s)) ≤ suc (length t)
taken_length t o s = taken_step (eqb (bit_and s.0 o.allows.0) s.0) t (taken_by t o.code s) (taken_by_holds t o.code s)

-- what a call told of it
pub told_ok : (es fs : List Entry) (x : Result (List Entry) ClassFault) → Ok tt ≡ told x → fs ≡ left es x → x ≡ Ok fs
told_ok es fs (Ok u) p q = ap Ok (sym q)
told_ok es fs (Err f) p q = cc

pub told_err : (es fs : List Entry) (f : ClassFault) (x : Result (List Entry) ClassFault) → Err f ≡ told x → fs ≡ left es x → (x ≡ Err f) × (fs ≡ es)
told_err es fs f (Ok u) p q = cc
told_err es fs f (Err g) p q = (let i : g ≡ f = cc in ap Err i, q)
