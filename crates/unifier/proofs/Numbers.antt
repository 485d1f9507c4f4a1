-- Sets of labels as numbers.
use Rattle.std.proofs.Common.{◌≡◌, ℕ, zero, suc, ◌+◌, ◌*◌, ◌/◌, ◌%◌, ◌^◌, ◌<◌, sym, ap, ◌∙◌, div-one, arith, pow-add}
use native.Mathlib.Nat.{div-div-eq-div-mul}
use Rattle.cells.specs.Rooms.{bit}

-- a label that is not in a set of the labels below j can be put to it
pub put_small : (j l x : ℕ) → x < 2 ^ j → l < j → (bit l x ≡ 1 → ⊥) → x + 2 ^ l < 2 ^ j
put_small zero l x p h q = absurd (let z : ⊥ = omega arith in z)
put_small (suc j) zero x p h q =
    let two : 2 ^ suc j ≡ 2 * 2 ^ j = ap (λ z. 2 ^ z) (let z : suc j ≡ 1 + j = omega arith in z) ∙ pow-add 2 1 j in
    let even : x % 2 ≡ 1 → ⊥ = λ e. q (ap (λ z. z % 2) (div-one x) ∙ e) in
    omega (arith, two, p, even)
put_small (suc j) (suc l) x p h q =
    let two : (i : ℕ) → 2 ^ suc i ≡ 2 * 2 ^ i = λ i. ap (λ z. 2 ^ z) (let z : suc i ≡ 1 + i = omega arith in z) ∙ pow-add 2 1 i in
    let up : bit l (x / 2) ≡ bit (suc l) x = ap (λ w. w % 2) (div-div-eq-div-mul x 2 (2 ^ l) ∙ ap (λ w. x / w) (sym (two l))) in
    let r = put_small j l (x / 2) (omega (arith, two j, p)) (omega arith) (λ e. q (sym up ∙ e)) in
    omega (arith, two j, two l, r)
