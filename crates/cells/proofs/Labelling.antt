-- Sets of labels by their bits: a label put to a set that lacks it; sets with the same labels are equal.
use Rattle.std.proofs.Common.{◌≡◌, ℕ, zero, suc, ◌+◌, ◌-◌, ◌*◌, ◌/◌, ◌%◌, ◌^◌, ◌<◌, true, List, sym, ap, ◌∙◌, subst, inl, inr, ⊎_elim, div-one, arith, pow_pos, pow-add}
use native.Mathlib.Nat.{add-div_right, add-mul-div_right, add-mul-mod_self_right, div-div-eq-div-mul}
use native.Mathlib.Decide.{dec_lt}
use Rattle.std.proofs.lemmas.Bool.{cases_eq}
use Rattle.ground.specs.Sorts.{In}
use Rattle.ground.specs.Heads.{without}
use Rattle.ground.proofs.Without.{without_one}
use Rattle.ground.specs.declared.sort.Labels.{Labels}
use Rattle.cells.specs.Cells.{Adds}
use Rattle.cells.specs.Rooms.{bit}
use Rattle.cells.specs.Rows.{Shown, shown, Tail}

abbrev pub including : Labels → ℕ → Labels
including m l = record { 0 = m.0 + 2 ^ l }

here_bit : (x l : ℕ) → (bit l x ≡ 1 → ⊥) → bit l (x + 2 ^ l) ≡ 1
here_bit x l h = ap (λ y. y % 2) (add-div_right x (pow_pos l)) ∙ (let z : (x / 2 ^ l + 1) % 2 ≡ 1 = parity (x / 2 ^ l) h in z)
  where
    parity : (q : ℕ) → (q % 2 ≡ 1 → ⊥) → (q + 1) % 2 ≡ 1
    parity q h = omega arith

below_bit : (x k e : ℕ) → bit k (x + 2 ^ ((e + 1) + k)) ≡ bit k x
below_bit x k e =
    ap (λ y. ((x + y) / 2 ^ k) % 2) (pow-add 2 (e + 1) k)
    ∙ ap (λ y. y % 2) (add-mul-div_right x (2 ^ (e + 1)) (pow_pos k))
    ∙ ap (λ y. (x / 2 ^ k + y) % 2) (pow-add 2 e 1)
    ∙ add-mul-mod_self_right (x / 2 ^ k) (2 ^ e) 2

shifts : (x l e : ℕ) → x / 2 ^ (l + (1 + e)) ≡ ((x / 2 ^ l) / 2) / 2 ^ e
shifts x l e =
    ap (λ y. x / y) (pow-add 2 l (1 + e)) ∙ sym (div-div-eq-div-mul x (2 ^ l) (2 ^ (1 + e)))
    ∙ ap (λ y. (x / 2 ^ l) / y) (pow-add 2 1 e) ∙ sym (div-div-eq-div-mul (x / 2 ^ l) 2 (2 ^ e))

above_bit : (x l e : ℕ) → (bit l x ≡ 1 → ⊥) → bit (l + (1 + e)) (x + 2 ^ l) ≡ bit (l + (1 + e)) x
above_bit x l e h =
    ap (λ y. y % 2) (shifts (x + 2 ^ l) l e)
    ∙ ap (λ y. (y / 2 / 2 ^ e) % 2) (add-div_right x (pow_pos l))
    ∙ ap (λ y. (y / 2 ^ e) % 2) (half (x / 2 ^ l) h)
    ∙ sym (ap (λ y. y % 2) (shifts x l e))
  where
    half : (q : ℕ) → (q % 2 ≡ 1 → ⊥) → (q + 1) / 2 ≡ q / 2
    half q h = omega arith

other_bit : (x l k : ℕ) → (bit l x ≡ 1 → ⊥) → (k ≡ l → ⊥) → bit k (x + 2 ^ l) ≡ bit k x
other_bit x l k h q = go (dec_lt k l) (dec_lt l k)
  where
    go : Dec (k < l) → Dec (l < k) → bit k (x + 2 ^ l) ≡ bit k x
    go (yes p) r = subst (λ (j : ℕ). bit k (x + 2 ^ j) ≡ bit k x) (let z : ((l - (k + 1)) + 1) + k ≡ l = omega arith in z) (below_bit x k (l - (k + 1)))
    go (no p) (yes r) = subst (λ (j : ℕ). bit j (x + 2 ^ l) ≡ bit j x) (let z : l + (1 + (k - (l + 1))) ≡ k = omega arith in z) (above_bit x l (k - (l + 1)) h)
    go (no p) (no r) = absurd (q (omega arith))

-- the set with one label more
pub including_adds : (m : Labels) (l : ℕ) → (In l m → ⊥) → Adds m l (including m l)
including_adds m l h = record {
  new = h;
  here = here_bit m.0 l h;
  old = λ k i. ⊎_elim (λ (e : k ≡ l). absurd (h (subst (λ (j : ℕ). In j m) e i))) (λ (q : k ≡ l → ⊥). other_bit m.0 l k h q ∙ i) (cases_eq k l);
  only = λ k i. ⊎_elim (λ (e : k ≡ l). inl e) (λ (q : k ≡ l → ⊥). inr (sym (other_bit m.0 l k h q) ∙ i)) (cases_eq k l);
}

-- numbers with the same bits are equal
same_bits : (j x y : ℕ) → x < 2 ^ j → y < 2 ^ j → ((k : ℕ) → bit k x ≡ bit k y) → x ≡ y
same_bits zero x y p q h = omega arith
same_bits (suc j) x y p q h =
    let low : x % 2 ≡ y % 2 = ap (λ z. z % 2) (sym (div-one x)) ∙ h 0 ∙ ap (λ z. z % 2) (div-one y) in
    let two : 2 ^ suc j ≡ 2 * 2 ^ j = ap (λ z. 2 ^ z) (let z : suc j ≡ 1 + j = omega arith in z) ∙ pow-add 2 1 j in
    let up : (k z : ℕ) → bit k (z / 2) ≡ bit (1 + k) z = λ k z. ap (λ w. w % 2) (div-div-eq-div-mul z 2 (2 ^ k) ∙ ap (λ w. z / w) (sym (pow-add 2 1 k))) in
    let px : x / 2 < 2 ^ j = omega (arith, two, p) in
    let py : y / 2 < 2 ^ j = omega (arith, two, q) in
    let high : x / 2 ≡ y / 2 = same_bits j (x / 2) (y / 2) px py (λ k. up k x ∙ h (1 + k) ∙ sym (up k y)) in
    omega (arith, low, high)

-- chains of one sort that show the same labels have tails of one sort
pub tails_same : (fs gs : List Shown) (m n o : Labels) → Tail fs m n → Tail gs m o → ((k : ℕ) → shown fs k ≡ shown gs k) → n.0 < 2 ^ 24 → o.0 < 2 ^ 24 → n.0 ≡ o.0
tails_same fs gs m n o s t e p q = same_bits 24 n.0 o.0 p q bits
  where
    to : (k : ℕ) → In k n → In k o
    to k i = ⊎_elim (λ (z : shown fs k ≡ true). t.here k (sym (e k) ∙ z)) (λ (z : In k m). t.old k z) (s.only k i)

    from : (k : ℕ) → In k o → In k n
    from k i = ⊎_elim (λ (z : shown gs k ≡ true). s.here k (e k ∙ z)) (λ (z : In k m). s.old k z) (t.only k i)

    low : (k x : ℕ) → bit k x < 2
    low k x = omega arith

    bits : (k : ℕ) → bit k n.0 ≡ bit k o.0
    bits k =
        ⊎_elim (λ (i : bit k n.0 ≡ 1). i ∙ sym (to k i))
        (λ (i : bit k n.0 ≡ 1 → ⊥).
        ⊎_elim (λ (j : bit k o.0 ≡ 1). absurd (i (from k j)))
        (λ (j : bit k o.0 ≡ 1 → ⊥). omega (arith, low k n.0, low k o.0, i, j))
        (cases_eq (bit k o.0) 1))
        (cases_eq (bit k n.0) 1)

-- what a label was put to is the set without it
pub adds_without : (m n : Labels) (l : ℕ) → Adds m l n → m.0 < 2 ^ 24 → n.0 < 2 ^ 24 → m ≡ without n l
adds_without m n l a p q = ap (λ (x : ℕ). record { 0 = x }) (same_bits 24 m.0 (without n l).0 p (omega (arith, q)) bits)
  where
    low : (k x : ℕ) → bit k x < 2
    low k x = omega arith

    bits : (k : ℕ) → bit k m.0 ≡ bit k (without n l).0
    bits k =
        let w = without_one n l k a.here in
        ⊎_elim (λ (i : bit k m.0 ≡ 1). i ∙ sym (w.1 (a.old k i, λ e. a.new (subst (λ (j : ℕ). In j m) e i))))
        (λ (i : bit k m.0 ≡ 1 → ⊥).
        ⊎_elim
        (λ (j : bit k (without n l).0 ≡ 1). ⊎_elim (λ (e : k ≡ l). absurd ((w.0 j).1 e)) (λ (g : In k m). absurd (i g)) (a.only k (w.0 j).0))
        (λ (j : bit k (without n l).0 ≡ 1 → ⊥). omega (arith, low k m.0, low k (without n l).0, i, j))
        (cases_eq (bit k (without n l).0) 1))
        (cases_eq (bit k m.0) 1)
