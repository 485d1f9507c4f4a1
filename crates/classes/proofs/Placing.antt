-- The place of a code's entry, and what is joined there.
use Rattle.std.proofs.Common.{◌≡◌, ℕ, suc, ◌+◌, ◌<◌, ◌≤◌, Bool, true, false, not, cond, eqb, ltb, List, [], ◌∷◌, ◌++◌, length, get_or, set, take, Some, None, Ok, Err, Option, Result, Bor, sym, refl, ap, ◌∙◌, subst, arith, le-ltb, lt-ltb, ltb-true, ltb-false}
use Rattle.std.specs.List.{position, position_or_len, find}
use Rattle.std.proofs.Math.Seq.{take-set-lt}
use Rattle.std.proofs.lemmas.List.{get_or-take}
use Rattle.std.specs.Option.{MatchOption, option_map}
use Rattle.std.specs.Result.{IsOk, IfErr, OnOk, OnErr}
use Rattle.std.proofs.lemmas.Bool.{cond-true, cond-false}
use Rattle.ground.proofs.Built.{no_way}
use Rattle.ground.specs.declared.code.Code.{Code}
use Rattle.ground.specs.declared.classes.Classes.{Classes}
use Rattle.classes.specs.declared.entry.Entry.{Entry}
use Rattle.system.specs.declared.fault.ClassFault.{ClassFault}
use Rattle.system.specs.declared.fault.ClassFault.TheVariants.{NoMember, TooManyClasses}
use Rattle.ground.specs.Members.{compatible}
use Rattle.classes.specs.Entries.{unclassed, blank, both, has, classed, joined, joining, told, left}

-- the place of the code's entry, or how many there are, is what a search for it finds
abbrev pub of : ℕ → Entry → Bool
of c e = eqb e.code.0 c

abbrev pub place : List Entry → ℕ → ℕ
place [] c = 0
place (e ∷ es) c = cond (of c e) 0 (suc (place es c))

place_step : (b : Bool) (n m : ℕ) → n ≡ m → cond (not b) (1 + n) 0 ≡ cond b 0 (suc m)
place_step true n m e = refl
place_step false n m e = omega arith

place_is : (es : List Entry) (c : ℕ) → position_or_len (of c) es ≡ place es c
place_is [] c = refl
place_is (e ∷ es) c = place_step (of c e) (position_or_len (of c) es) (place es c) (place_is es c)

at_place : (b : Bool) (n l i : ℕ) → ltb n l ≡ b → cond b (Some n) None ≡ Some i → (i ≡ n) × (n < l)
at_place true n l i p e = let q : i ≡ n = cc in (q, ltb-true n l p)
at_place false n l i p e = cc

pub found : (es : List Entry) (c i : ℕ) → position (of c) es ≡ Some i → (i ≡ place es c) × (place es c < length es)
found es c i e =
    at_place (ltb (place es c) (length es)) (place es c) (length es) i refl (rw (place_is es c) at e)

no_place : (b : Bool) (n l : ℕ) → ltb n l ≡ b → cond b (Some n) None ≡ None → l ≤ n
no_place true n l p e = cc
no_place false n l p e = ltb-false n l p

pub missed : (es : List Entry) (c : ℕ) → position (of c) es ≡ None → length es ≤ place es c
missed es c e = no_place (ltb (place es c) (length es)) (place es c) (length es) refl (rw (place_is es c) at e)

-- it is found exactly where there is one
has_step : (b r : Bool) (n l : ℕ) → (n < l → r ≡ true) → cond b 0 (suc n) < suc l → cond b true r ≡ true
has_step true r n l f h = refl
has_step false r n l f h = f (omega arith)

pub place_has : (es : List Entry) (c : ℕ) → place es c < length es → has es c ≡ true
place_has [] c h = absurd (omega arith)
place_has (e ∷ es) c h = has_step (eqb e.code.0 c) (has es c) (place es c) (length es) (place_has es c) h

none_step : (b r : Bool) (n l : ℕ) → (l ≤ n → r ≡ false) → suc l ≤ cond b 0 (suc n) → cond b true r ≡ false
none_step true r n l f h = absurd (omega arith)
none_step false r n l f h = f (omega arith)

pub place_none : (es : List Entry) (c : ℕ) → length es ≤ place es c → has es c ≡ false
place_none [] c h = refl
place_none (e ∷ es) c h = none_step (eqb e.code.0 c) (has es c) (place es c) (length es) (place_none es c) h

-- what stands there is the set of the code, and is joined there
set_step : (b : Bool) (e z : Entry) (es : List Entry) (n : ℕ) (s : Classes) → (n < length es → (get_or es n z).set ≡ s) → cond b 0 (suc n) < suc (length es) → (get_or (e ∷ es) (cond b 0 (suc n)) z).set ≡ cond b e.set s
set_step true e z es n s f h = refl
set_step false e z es n s f h = f (omega arith)

pub place_set : (es : List Entry) (c : ℕ) (z : Entry) → place es c < length es → (get_or es (place es c) z).set ≡ classed es c
place_set [] c z h = absurd (omega arith)
place_set (e ∷ es) c z h = set_step (eqb e.code.0 c) e z es (place es c) (classed es c) (place_set es c z) h

abbrev pub wider : Entry → Classes → Entry
wider e s = record { code = e.code; set = both e.set s }

joined_step :
    (b : Bool) (e z : Entry) (es fs : List Entry) (n : ℕ) (s : Classes) → (n < length es → set es n (wider (get_or es n z) s) ≡ fs) → cond b 0 (suc n) < suc (length es)
    → set (e ∷ es) (cond b 0 (suc n)) (wider (get_or (e ∷ es) (cond b 0 (suc n)) z) s) ≡ cond b (wider e s ∷ es) (e ∷ fs)
joined_step true e z es fs n s f h = refl
joined_step false e z es fs n s f h = ap (λ xs. e ∷ xs) (f (omega arith))

pub place_joined : (es : List Entry) (d : Code) (s : Classes) (z : Entry) → place es d.0 < length es → set es (place es d.0) (wider (get_or es (place es d.0) z) s) ≡ joined es d s
place_joined [] d s z h = absurd (omega arith)
place_joined (e ∷ es) d s z h = joined_step (eqb e.code.0 d.0) e z es (joined es d s) (place es d.0) s (place_joined es d s z) h

last_step : (b r : Bool) (e : Entry) (es fs gs : List Entry) (x : Entry) → (r ≡ false → fs ≡ gs) → cond b true r ≡ false → cond b (x ∷ es) (e ∷ fs) ≡ e ∷ gs
last_step true r e es fs gs x f h = absurd (no_way (sym h))
last_step false r e es fs gs x f h = ap (λ xs. e ∷ xs) (f h)

pub joined_last : (es : List Entry) (d : Code) (s : Classes) → has es d.0 ≡ false → joined es d s ≡ es ++ record { code = d; set = s } ∷ []
joined_last [] d s h = refl
joined_last (e ∷ es) d s h = last_step (eqb e.code.0 d.0) (has es d.0) e es (joined es d s) (es ++ record { code = d; set = s } ∷ []) (wider e s) (joined_last es d s) h

-- what comes of a demand, in its four cases
pub joining_clash :
    (es : List Entry) (d : Code) (s : Classes) (z : Entry) → place es d.0 < length es → compatible (both (get_or es (place es d.0) z).set s) ≡ false
    → joining es d s ≡ Err NoMember
joining_clash es d s z h k =
    let e : compatible (both (classed es d.0) s) ≡ false = ap (λ u. compatible (both u s)) (sym (place_set es d.0 z h)) ∙ k in
    cond-true (has es d.0) (cond (compatible (both (classed es d.0) s)) (Ok (joined es d s)) (Err NoMember)) (cond (ltb (length es) 128) (Ok (joined es d s)) (Err TooManyClasses)) (place_has es d.0 h)
    ∙ cond-false (compatible (both (classed es d.0) s)) (Ok (joined es d s)) (Err NoMember) e

pub joining_wider :
    (es : List Entry) (d : Code) (s : Classes) (z : Entry) → place es d.0 < length es → compatible (both (get_or es (place es d.0) z).set s) ≡ true
    → joining es d s ≡ Ok (set es (place es d.0) (wider (get_or es (place es d.0) z) s))
joining_wider es d s z h k =
    let e : compatible (both (classed es d.0) s) ≡ true = ap (λ u. compatible (both u s)) (sym (place_set es d.0 z h)) ∙ k in
    cond-true (has es d.0) (cond (compatible (both (classed es d.0) s)) (Ok (joined es d s)) (Err NoMember)) (cond (ltb (length es) 128) (Ok (joined es d s)) (Err TooManyClasses)) (place_has es d.0 h)
    ∙ cond-true (compatible (both (classed es d.0) s)) (Ok (joined es d s)) (Err NoMember) e
    ∙ ap Ok (sym (place_joined es d s z h))

pub joining_full : (es : List Entry) (d : Code) (s : Classes) → length es ≤ place es d.0 → 128 ≤ length es → joining es d s ≡ Err TooManyClasses
joining_full es d s h k =
    cond-false (has es d.0) (cond (compatible (both (classed es d.0) s)) (Ok (joined es d s)) (Err NoMember)) (cond (ltb (length es) 128) (Ok (joined es d s)) (Err TooManyClasses)) (place_none es d.0 h)
    ∙ cond-false (ltb (length es) 128) (Ok (joined es d s)) (Err TooManyClasses) (le-ltb (length es) 128 k)

pub joining_new : (es : List Entry) (d : Code) (s : Classes) → length es ≤ place es d.0 → length es < 128 → joining es d s ≡ Ok (es ++ record { code = d; set = s } ∷ [])
joining_new es d s h k =
    cond-false (has es d.0) (cond (compatible (both (classed es d.0) s)) (Ok (joined es d s)) (Err NoMember)) (cond (ltb (length es) 128) (Ok (joined es d s)) (Err TooManyClasses)) (place_none es d.0 h)
    ∙ cond-true (ltb (length es) 128) (Ok (joined es d s)) (Err TooManyClasses) (lt-ltb (length es) 128 k)
    ∙ ap Ok (joined_last es d s (place_none es d.0 h))

-- the same, by what a search found
module _ (es : List Entry) (d : Code) (s : Classes) where
  module _ (i : ℕ) (h : position (of d.0) es ≡ Some i) where
    there : i ≡ place es d.0
    there = (found es d.0 i h).0

    pub at_clash : compatible (both (get_or es i blank).set s) ≡ false → joining es d s ≡ Err NoMember
    at_clash k = joining_clash es d s blank (found es d.0 i h).1 (ap (λ n. compatible (both (get_or es n blank).set s)) (sym there) ∙ k)

    pub at_wider : compatible (both (get_or es i blank).set s) ≡ true → joining es d s ≡ Ok (set es i (wider (get_or es i blank) s))
    at_wider k =
        joining_wider es d s blank (found es d.0 i h).1 (ap (λ n. compatible (both (get_or es n blank).set s)) (sym there) ∙ k)
        ∙ ap (λ n. Ok (set es n (wider (get_or es n blank) s))) (sym there)

  -- and where it found none, by what came of the push
  pub pushed :
      (r : Result (Unit {0}) ClassFault) (fs : List Entry) → position (of d.0) es ≡ None → (IsOk r → length es < 128)
      → OnOk r (fs ≡ es ++ record { code = d; set = s } ∷ []) → OnErr r (fs ≡ es) → OnErr r (length es ≡ 128) → IfErr r (λ e. e ≡ TooManyClasses)
      → (r ≡ told (joining es d s)) × (fs ≡ left es (joining es d s))
  pushed (Ok u) fs h f n m l q = let j = joining_new es d s (missed es d.0 h) (f refl) in (sym (ap told j), n ∙ sym (ap (left es) j))
  pushed (Err e) fs h f n m l q = let j = joining_full es d s (missed es d.0 h) (omega (arith, l)) in (ap Err q ∙ sym (ap told j), m ∙ sym (ap (left es) j))

-- what a search found stands in the table
pub in_table : (n : ℕ) (es xs : List Entry) (c i : ℕ) → take n xs ≡ es → length (take n xs) ≡ n → position (of c) es ≡ Some i → (i < n) × (get_or es i blank ≡ get_or xs i blank)
in_table n es xs c i e l h =
    let f = found es c i h in
    let m : length es ≡ n = ap length (sym e) ∙ l in
    let p : i < n = omega (arith, f.0, f.1, m) in
    (p, ap (λ ys. get_or ys i blank) (sym e) ∙ get_or-take n xs i blank p)

-- a write at a place that a search found
pub written :
    (n : ℕ) (es xs : List Entry) (i : ℕ) (s t : Classes) → take n xs ≡ es → (i < n) × (get_or es i blank ≡ get_or xs i blank) → t ≡ both (get_or xs i blank).set s
    → take n (set xs i (record { code = (get_or xs i blank).code; set = t })) ≡ set es i (wider (get_or es i blank) s)
written n es xs i s t e p q =
    take-set-lt n xs i (record { code = (get_or xs i blank).code; set = t }) p.0
    ∙ ap (λ ys. set ys i (record { code = (get_or xs i blank).code; set = t })) e
    ∙ ap (λ u. set es i (record { code = (get_or xs i blank).code; set = u })) q
    ∙ ap (λ y. set es i (wider y s)) (sym p.1)

-- the set of the entry that a search gives
found_step : (b : Bool) (x : Entry) (o : Option Entry) (s r : Classes) → ((r' : Classes) → MatchOption o (r' ≡ unclassed) (λ e. r' ≡ e.set) → r' ≡ s) → MatchOption (cond b (Some x) o) (r ≡ unclassed) (λ e. r ≡ e.set) → r ≡ cond b x.set s
found_step true x o s r f h = h
found_step false x o s r f h = f r h

found_at : (es : List Entry) (c : ℕ) (r : Classes) → MatchOption (find (of c) es) (r ≡ unclassed) (λ e. r ≡ e.set) → r ≡ classed es c
found_at [] c r h = h
found_at (e ∷ es) c r h = found_step (of c e) e (find (of c) es) (classed es c) r (found_at es c) h

pub found_set : (es : List Entry) (c : ℕ) (o : Option (Bor Entry)) (r : Classes) → option_map (λ x. x.now) o ≡ find (of c) es → MatchOption o (r ≡ unclassed) (λ x. r ≡ x.now.set) → r ≡ classed es c
found_set es c None r e h = found_at es c r (subst (λ p. MatchOption p (r ≡ unclassed) (λ x. r ≡ x.set)) e h)
found_set es c (Some x) r e h = found_at es c r (subst (λ p. MatchOption p (r ≡ unclassed) (λ y. r ≡ y.set)) e h)
