-- The function tells just the numbers that the rule writes.
use Rattle.std.proofs.Common.{◌≡◌, ℕ, ◌+◌, ◌-◌, ◌*◌, Bool, true, false, cond, eqb, leb, List, [], ◌∷◌, ◌++◌, length, get_or, take, Some, None, Ok, Option, sym, refl, ap, ◌∙◌, subst, inl, inr}
use Rattle.std.proofs.lemmas.List.{append-nil}
use Rattle.std.proofs.lemmas.Bool.{cond-true, cond-false, cases_Bool, le-leb, lt-leb, leb-true, leb-false, eqb-true}
use Rattle.words.specs.declared.number.Number.TheVariants.{Whole, Tenths}
use Rattle.words.specs.Spelling.{digit}
use Rattle.words.specs.Numbers.{Told, too_large, digits, limit, sign, whole_of, tenths_of, has_point, unsigned, number_of, minus_sign, Written, whole, large_whole, tenths, large_tenths, NumbersAreWritten}
use Rattle.words.proofs.Numerals.{none_some, numeral_value, value_numeral}
use Rattle.words.proofs.Points.{unsigned_whole, unsigned_tenths, cut_at_point, no_sign}

-- From the rule to the function.

signed_whole : (minus : Bool) (w : List ℕ) (n : ℕ) → digits w ≡ Some n → number_of (minus_sign minus ++ w) ≡ whole_of minus (Some n)
signed_whole true w n e = unsigned_whole true w n e
signed_whole false w n e =
    ap number_of (sym (append-nil w)) ∙ no_sign w [] n e ∙ ap (unsigned false) (append-nil w) ∙ unsigned_whole false w n e

signed_tenths :
    (minus : Bool) (w : List ℕ) (n d : ℕ)
    → digits w ≡ Some n
    → number_of (minus_sign minus ++ (w ++ (46 ∷ (d ∷ [])))) ≡ tenths_of minus (Some n) d
signed_tenths true w n d e = unsigned_tenths true w n d e
signed_tenths false w n d e = no_sign w (46 ∷ (d ∷ [])) n e ∙ unsigned_tenths false w n d e

has_digit :
    (minus : Bool) (n d : ℕ)
    → digit d ≡ true
    → tenths_of minus (Some n) d
    ≡ Some (cond (leb (n * 10 + (d - 48)) (limit minus)) (Ok (Tenths (sign minus (n * 10 + (d - 48))))) too_large)
has_digit minus n d h =
    let k = n * 10 + (d - 48) in
    cond-true (digit d) (Some (cond (leb k (limit minus)) (Ok (Tenths (sign minus k))) too_large)) None h

told : {w : List ℕ} {v : Told} → Written w v → number_of w ≡ Some v
told (whole minus w n h l) =
    signed_whole minus w n (numeral_value h)
    ∙ ap Some (cond-true (leb n (limit minus)) (Ok (Whole (sign minus (n * 10)))) too_large (le-leb n (limit minus) l))
told (large_whole minus w n h l) =
    signed_whole minus w n (numeral_value h)
    ∙ ap Some (cond-false (leb n (limit minus)) (Ok (Whole (sign minus (n * 10)))) too_large (lt-leb n (limit minus) l))
told (tenths minus w n d h g l) =
    let k = n * 10 + (d - 48) in
    signed_tenths minus w n d (numeral_value h) ∙ has_digit minus n d g
    ∙ ap Some (cond-true (leb k (limit minus)) (Ok (Tenths (sign minus k))) too_large (le-leb k (limit minus) l))
told (large_tenths minus w n d h g l) =
    let k = n * 10 + (d - 48) in
    signed_tenths minus w n d (numeral_value h) ∙ has_digit minus n d g
    ∙ ap Some (cond-false (leb k (limit minus)) (Ok (Tenths (sign minus k))) too_large (lt-leb k (limit minus) l))

-- From the function to the rule.

whole_written :
    (minus : Bool) (w : List ℕ) (o : Option ℕ) (v : Told)
    → digits w ≡ o
    → whole_of minus o ≡ Some v
    → Written (minus_sign minus ++ w) v
whole_written minus w None v e h = absurd (none_some v h)
whole_written minus w (Some n) v e h =
    let W : Told → Type 0 = Written (minus_sign minus ++ w) in
    let m = value_numeral w n e in
    elim (cases_Bool (leb n (limit minus))) [
      | inl t ↦
          let is : v ≡ Ok (Whole (sign minus (n * 10))) = let c = cond-true (leb n (limit minus)) (Ok (Whole (sign minus (n * 10)))) too_large t in cc in
          subst W (sym is) (whole minus w n m (leb-true n (limit minus) t))
      | inr f ↦
          let is : v ≡ too_large = let c = cond-false (leb n (limit minus)) (Ok (Whole (sign minus (n * 10)))) too_large f in cc in
          subst W (sym is) (large_whole minus w n m (leb-false n (limit minus) f))
    ]

tenths_written :
    (minus : Bool) (w : List ℕ) (d : ℕ) (o : Option ℕ) (v : Told)
    → digits w ≡ o
    → tenths_of minus o d ≡ Some v
    → Written (minus_sign minus ++ (w ++ (46 ∷ (d ∷ [])))) v
tenths_written minus w d None v e h = absurd (none_some v h)
tenths_written minus w d (Some n) v e h =
    let W : Told → Type 0 = Written (minus_sign minus ++ (w ++ (46 ∷ (d ∷ [])))) in
    let m = value_numeral w n e in
    let k = n * 10 + (d - 48) in
    let within = cond (leb k (limit minus)) (Ok (Tenths (sign minus k))) too_large in
    elim (cases_Bool (digit d)) [
      | inr f ↦ absurd (none_some v (sym (cond-false (digit d) (Some within) None f) ∙ h))
      | inl g ↦
          let some : Some within ≡ Some v = sym (has_digit minus n d g) ∙ h in
          elim (cases_Bool (leb k (limit minus))) [
            | inl t ↦
                let is : v ≡ Ok (Tenths (sign minus k)) = let c = cond-true (leb k (limit minus)) (Ok (Tenths (sign minus k))) too_large t in cc in
                subst W (sym is) (tenths minus w n d m g (leb-true k (limit minus) t))
            | inr f ↦
                let is : v ≡ too_large = let c = cond-false (leb k (limit minus)) (Ok (Tenths (sign minus k))) too_large f in cc in
                subst W (sym is) (large_tenths minus w n d m g (leb-false k (limit minus) f))
          ]
    ]

unsigned_written : (minus : Bool) (w : List ℕ) (v : Told) → unsigned minus w ≡ Some v → Written (minus_sign minus ++ w) v
unsigned_written minus w v h =
    let front = take (length w - 2) w in
    let d = get_or w (length w - 1) 0 in
    let pointed = tenths_of minus (digits front) d in
    let plain = whole_of minus (digits w) in
    elim (cases_Bool (has_point w)) [
      | inl t ↦
          subst (λ (xs : List ℕ). Written (minus_sign minus ++ xs) v) (sym (cut_at_point w t))
          (tenths_written minus front d (digits front) v refl (sym (cond-true (has_point w) pointed plain t) ∙ h))
      | inr f ↦ whole_written minus w (digits w) v refl (sym (cond-false (has_point w) pointed plain f) ∙ h)
    ]

written : (w : List ℕ) (v : Told) → number_of w ≡ Some v → Written w v
written [] v h = absurd (none_some v h)
written (b ∷ w) v h =
    elim (cases_Bool (eqb b 45)) [
      | inl t ↦
          subst (λ (k : ℕ). Written (k ∷ w) v) (sym (eqb-true b 45 t))
          (unsigned_written true w v (sym (cond-true (eqb b 45) (unsigned true w) (unsigned false (b ∷ w)) t) ∙ h))
      | inr f ↦ unsigned_written false (b ∷ w) v (sym (cond-false (eqb b 45) (unsigned true w) (unsigned false (b ∷ w)) f) ∙ h)
    ]

pub numbers_are_written : NumbersAreWritten
numbers_are_written w v = (written w v, λ h. told h)
