-- The set of one label.
use Rattle.std.proofs.Common.{◌≡◌, ℕ, suc, ◌+◌, ◌-◌, ◌/◌, ◌%◌, ◌^◌, ◌<◌, sym, ap, ◌∙◌, one-mul, arith, pow-add}
use native.Mathlib.Nat.{div-eq_of_lt}
use native.Mathlib.Decide.{dec_lt}
use lib.Pow.{pow-lt, shl-shr}
use lib.Bits.{shifted_even}

pub alone_has : (l : ℕ) → (2 ^ l / 2 ^ l) % 2 ≡ 1
alone_has l = ap (λ x. (x / 2 ^ l) % 2) (sym (one-mul (2 ^ l))) ∙ ap (λ x. x % 2) (shl-shr 1 l)

below : (j d : ℕ) → (2 ^ (suc d + j) / 2 ^ j) % 2 ≡ 0
below j d =
    ap (λ x. (x / 2 ^ j) % 2) (pow-add 2 (suc d) j) ∙ ap (λ x. x % 2) (shl-shr (2 ^ suc d) j) ∙ ap (λ x. x % 2) (sym (one-mul (2 ^ suc d))) ∙ shifted_even 1 d

pub alone_only : (l j : ℕ) → (2 ^ l / 2 ^ j) % 2 ≡ 1 → j ≡ l
alone_only l j h = go (dec_lt j l) (dec_lt l j)
  where
    go : Dec (j < l) → Dec (l < j) → j ≡ l
    go (yes p) q =
        let e : suc (l - suc j) + j ≡ l = omega arith in
        let z = below j (l - suc j) in
        let y : (2 ^ l / 2 ^ j) % 2 ≡ 0 = ap (λ x. (2 ^ x / 2 ^ j) % 2) (sym e) ∙ z in
        absurd (omega arith)
    go (no p) (yes q) =
        let z : 2 ^ l / 2 ^ j ≡ 0 = div-eq_of_lt (pow-lt q) in
        let y : 0 % 2 ≡ 1 = ap (λ x. x % 2) (sym z) ∙ h in
        absurd (omega arith)
    go (no p) (no q) = omega arith
