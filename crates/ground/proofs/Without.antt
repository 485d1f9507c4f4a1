-- A set without a label that it has is the set of its other labels.
use Rattle.std.proofs.Common.{◌≡◌, ℕ, zero, suc, ◌+◌, ◌-◌, ◌*◌, ◌/◌, ◌%◌, ◌^◌, ◌<◌, ◌≢◌, ◌↔◌, sym, refl, ap, ◌∙◌, ap₂, mod-lt, zero-lt-suc, arith, pow-add}
use native.Mathlib.Nat.{zero-div}
use native.Mathlib.Decide.{ℕ_discrete}
use lib.Bits.{bit_xor, bit_and, xor_shr, xor_mod, xor_add_and, xor_zero_r, and_high}
use Rattle.ground.specs.Sorts.{In}
use Rattle.ground.specs.Heads.{none_lacked, without}
use Rattle.ground.specs.declared.sort.Labels.{Labels}
use Rattle.ground.proofs.Alone.{alone_has, alone_only}

-- no label is in the set of none
pub none_in : (l : ℕ) → In l none_lacked → ⊥
none_in l i = let z : 0 / 2 ^ l ≡ 0 = zero-div (2 ^ l) in let y : 0 % 2 ≡ 1 = ap (λ x. x % 2) (sym z) ∙ i in omega arith

xor_bit : (a b k : ℕ) → bit_xor a b / 2 ^ k % 2 ≡ bit_xor (a / 2 ^ k % 2) (b / 2 ^ k % 2)
xor_bit a b k = ap (λ x. x % 2) (xor_shr a b k) ∙ xor_mod (a / 2 ^ k) (b / 2 ^ k) 1

alone_not : (l k : ℕ) → (k ≡ l → ⊥) → 2 ^ l / 2 ^ k % 2 ≡ 0
alone_not l k d = go (2 ^ l / 2 ^ k % 2) (mod-lt (2 ^ l / 2 ^ k) (zero-lt-suc 1)) (λ e. d (alone_only l k e))
  where
    go : (b : ℕ) → b < 2 → (b ≡ 1 → ⊥) → b ≡ 0
    go zero s n = refl
    go (suc zero) s n = absurd (n refl)
    go (suc (suc b)) s n = absurd (omega arith)

-- to take the label off is to turn its bit
turned : (m : Labels) (l : ℕ) → In l m → m.0 - 2 ^ l ≡ bit_xor m.0 (2 ^ l)
turned m l h =
    let p : 2 ^ (1 + l) - 2 ^ l ≡ 2 ^ l = let q = pow-add 2 1 l in omega arith in
    let a : bit_and m.0 (2 ^ l) ≡ 2 ^ l =
    ap (bit_and m.0) (sym p) ∙ and_high m.0 1 l ∙ ap (λ x. x * 2 ^ l) h ∙ omega arith in
    let x = xor_add_and m.0 (2 ^ l) in
    omega arith

bit_of : (m : Labels) (l k : ℕ) → In l m → (without m l).0 / 2 ^ k % 2 ≡ bit_xor (m.0 / 2 ^ k % 2) (2 ^ l / 2 ^ k % 2)
bit_of m l k h = ap (λ x. x / 2 ^ k % 2) (turned m l h) ∙ xor_bit m.0 (2 ^ l) k

pub without_one : (m : Labels) (l k : ℕ) → In l m → (In k (without m l) ↔ (In k m × (k ≢ l)))
without_one m l k h = (λ i. (elsewhere i (ℕ_discrete k l), gone i), λ i. same i.1 ∙ i.0)
  where
    same : (k ≡ l → ⊥) → (without m l).0 / 2 ^ k % 2 ≡ m.0 / 2 ^ k % 2
    same d = bit_of m l k h ∙ ap (bit_xor (m.0 / 2 ^ k % 2)) (alone_not l k d) ∙ xor_zero_r (m.0 / 2 ^ k % 2)

    here : (without m l).0 / 2 ^ l % 2 ≡ 0
    here = bit_of m l l h ∙ ap₂ bit_xor h (alone_has l)

    gone : In k (without m l) → k ≡ l → ⊥
    gone i e = let z : ◌≡◌ {A = ℕ} 0 1 = sym here ∙ ap (λ x. (without m l).0 / 2 ^ x % 2) (sym e) ∙ i in omega arith

    elsewhere : In k (without m l) → Dec (k ≡ l) → In k m
    elsewhere i (yes e) = absurd (gone i e)
    elsewhere i (no d) = sym (same d) ∙ i
