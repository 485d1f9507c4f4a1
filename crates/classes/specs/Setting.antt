-- Sets of classes as numbers: which classes are in both sets, in either, in one alone.
use Rattle.std.specs.Prelude.{◌≡◌, ℕ, zero, suc, ◌/◌, ◌%◌, ◌^◌, ◌<◌, ◌≤◌, ◌⊎◌, ◌≢◌, bit_and, bit_or, refl}
use Rattle.std.proofs.Common.{sym, ◌∙◌, ap, subst, inl, inr, arith, pow_mono}
use Rattle.std.proofs.Math.Nat.{div-eq_of_lt}
use Rattle.std.specs.Int.Bits.{or_add_and}
use Rattle.std.proofs.lemmas.Nat.{mod_below, or_shr, or_mod, and_shr, and_mod, or_lt, and_le_l, and_le_r}
use Rattle.ground.specs.Classes.{Asked}
use Rattle.ground.specs.declared.classes.Classes.{Classes}
use Rattle.classes.specs.Entries.{both, unclassed}

abbrev bit : ℕ → ℕ → ℕ
bit k n = (n / 2 ^ k) % 2

or_bit : (a b k : ℕ) → bit k (bit_or a b) ≡ bit_or (bit k a) (bit k b)
or_bit a b k = ap (λ x. x % 2) (or_shr a b k) ∙ or_mod (a / 2 ^ k) (b / 2 ^ k) 1

and_bit : (a b k : ℕ) → bit k (bit_and a b) ≡ bit_and (bit k a) (bit k b)
and_bit a b k = ap (λ x. x % 2) (and_shr a b k) ∙ and_mod (a / 2 ^ k) (b / 2 ^ k) 1

small : (a k : ℕ) → bit k a < 2
small a k = mod_below (a / 2 ^ k) 2 (omega arith)

-- one of two numbers below 2 is 1 where either or both are
or_one : (x y : ℕ) → x < 2 → y < 2 → bit_or x y ≡ 1 → (x ≡ 1) ⊎ (y ≡ 1)
or_one zero y h k e = inr e
or_one (suc zero) y h k e = inl refl
or_one (suc (suc x)) y h k e = absurd (omega arith)

one_or : (x y : ℕ) → x < 2 → y < 2 → (x ≡ 1) ⊎ (y ≡ 1) → bit_or x y ≡ 1
one_or zero y h k (inl e) = absurd (omega arith)
one_or zero y h k (inr e) = e
one_or (suc zero) zero h k e = refl
one_or (suc zero) (suc zero) h k e = refl
one_or (suc zero) (suc (suc y)) h k e = absurd (omega arith)
one_or (suc (suc x)) y h k e = absurd (omega arith)

and_one : (x y : ℕ) → x < 2 → y < 2 → bit_and x y ≡ 1 → (x ≡ 1) × (y ≡ 1)
and_one zero zero h k e = absurd (omega (arith, e))
and_one zero (suc zero) h k e = absurd (omega (arith, e))
and_one zero (suc (suc y)) h k e = absurd (omega arith)
and_one (suc zero) zero h k e = absurd (omega (arith, e))
and_one (suc zero) (suc zero) h k e = (refl, refl)
and_one (suc zero) (suc (suc y)) h k e = absurd (omega arith)
and_one (suc (suc x)) y h k e = absurd (omega arith)

one_and : (x y : ℕ) → x ≡ 1 → y ≡ 1 → bit_and x y ≡ 1
one_and x y p q = subst (λ (i : ℕ). bit_and i y ≡ 1) (sym p) (subst (λ (j : ℕ). bit_and 1 j ≡ 1) (sym q) refl)

pub of_both : (s t : Classes) (k : ℕ) → Asked k (both s t) → Asked k s ⊎ Asked k t
of_both s t k h = or_one (bit k s.0) (bit k t.0) (small s.0 k) (small t.0 k) (sym (or_bit s.0 t.0 k) ∙ h)

pub in_both : (s t : Classes) (k : ℕ) → Asked k s ⊎ Asked k t → Asked k (both s t)
in_both s t k h = or_bit s.0 t.0 k ∙ one_or (bit k s.0) (bit k t.0) (small s.0 k) (small t.0 k) h

pub of_and : (a b k : ℕ) → Asked k (record { 0 = bit_and a b }) → Asked k (record { 0 = a }) × Asked k (record { 0 = b })
of_and a b k h = and_one (bit k a) (bit k b) (small a k) (small b k) (sym (and_bit a b k) ∙ h)

pub in_and : (a b k : ℕ) → Asked k (record { 0 = a }) → Asked k (record { 0 = b }) → Asked k (record { 0 = bit_and a b })
in_and a b k p q = and_bit a b k ∙ one_and (bit k a) (bit k b) p q

pub both_small : (s t : Classes) → s.0 < 16 → t.0 < 16 → (both s t).0 < 16
both_small s t h k = or_lt 4 s.0 t.0 h k

pub and_small : (a b : ℕ) → a < 16 → bit_and a b < 16
and_small a b h = omega (arith, and_le_l a b)

-- no class is in the empty set, and only the four are in a set of them
pub none_asked : (k : ℕ) → Asked k unclassed → ⊥
none_asked k h =
    let z : 0 / 2 ^ k ≡ 0 = omega arith in
    let y : 0 % 2 ≡ 1 = ap (λ x. x % 2) (sym z) ∙ h in omega arith

pub four_asked : (s : Classes) (k : ℕ) → s.0 < 16 → Asked k s → k < 4
four_asked s zero b h = omega arith
four_asked s (suc zero) b h = omega arith
four_asked s (suc (suc zero)) b h = omega arith
four_asked s (suc (suc (suc zero))) b h = omega arith
four_asked s (suc (suc (suc (suc k)))) b h =
    let q : 4 ≤ suc (suc (suc (suc k))) = omega arith in
    let p : 2 ^ 4 ≤ 2 ^ suc (suc (suc (suc k))) = pow_mono q in
    let z : s.0 / 2 ^ suc (suc (suc (suc k))) ≡ 0 = div-eq_of_lt (omega arith) in
    let y : 0 % 2 ≡ 1 = ap (λ x. x % 2) (sym z) ∙ h in
    absurd (omega arith)

-- a set that is what it has in common with another is within it; else some class is in it alone
pub sub_asked : (s a k : ℕ) → bit_and s a ≡ s → Asked k (record { 0 = s }) → Asked k (record { 0 = a })
sub_asked s a k e h = (of_and s a k (ap (bit k) e ∙ h)).1

same_or_beyond : (x y : ℕ) → x < 2 → y < 2 → (bit_and x y ≡ x) ⊎ ((x ≡ 1) × (y ≢ 1))
same_or_beyond zero zero h k = inl refl
same_or_beyond zero (suc zero) h k = inl refl
same_or_beyond zero (suc (suc y)) h k = absurd (omega arith)
same_or_beyond (suc zero) zero h k = inr (refl, λ e. omega arith)
same_or_beyond (suc zero) (suc zero) h k = inl refl
same_or_beyond (suc zero) (suc (suc y)) h k = absurd (omega arith)
same_or_beyond (suc (suc x)) y h k = absurd (omega arith)

abbrev Beyond : ℕ → ℕ → Type 0
Beyond s a = (k : ℕ) × Asked k (record { 0 = s }) × (Asked k (record { 0 = a }) → ⊥)

beyond_at : (s a k : ℕ) → (bit k (bit_and s a) ≡ bit k s) ⊎ Beyond s a
beyond_at s a k =
    elim (same_or_beyond (bit k s) (bit k a) (small s k) (small a k)) [ inl e ↦ inl (and_bit s a k ∙ e) | inr e ↦ inr (k, e.0, e.1) ]

four_bits : (n s : ℕ) → n < 16 → s < 16 → bit 0 n ≡ bit 0 s → bit 1 n ≡ bit 1 s → bit 2 n ≡ bit 2 s → bit 3 n ≡ bit 3 s → n ≡ s
four_bits n s h k a b c d = omega arith

pub beyond : (s a : ℕ) → s < 16 → a < 16 → (bit_and s a ≢ s) → Beyond s a
beyond s a h l n =
    elim (beyond_at s a 0) [
      | inr q ↦ q
      | inl p ↦
          elim (beyond_at s a 1) [
            | inr q ↦ q
            | inl q ↦
                elim (beyond_at s a 2) [
                  | inr r ↦ r
                  | inl r ↦
                      elim (beyond_at s a 3) [ inr t ↦ t | inl t ↦ absurd (n (four_bits (bit_and s a) s (and_small s a h) h p q r t)) ]
                ]
          ]
    ]

-- a set that is not empty has a class
pub some_asked : (s : ℕ) → s < 16 → 0 < s → (k : ℕ) × Asked k (record { 0 = s })
some_asked s h n = let b = beyond s 0 h (omega arith) (λ e. omega (arith, e, and_le_r s 0)) in (b.0, b.1)

pub both_some : (s t : Classes) → 0 < t.0 → 0 < (both s t).0
both_some s t h = omega (arith, or_add_and s.0 t.0, and_le_l s.0 t.0)
