-- A text cut behind its first word, as the code cuts it.
use Rattle.std.proofs.Common.{◌≡◌, ℕ, suc, ◌+◌, ◌-◌, ◌<◌, ◌≤◌, true, false, cond, eqb, List, [], ◌∷◌, length, take, drop, sym, refl, ap, ◌∙◌, Some, None, Option, nat_eq, nat_lt, inl, inr, arith}
use Rattle.std.specs.List.{position_or_len}
use Rattle.std.proofs.lemmas.List.{take_all, take_rest}
use Rattle.std.proofs.lemmas.List.Recursion.{is_position_or_len}
use Rattle.std.proofs.lemmas.Bool.{cases_lt, cases_Bool, cond-true, cond-false, ltb-true, ltb-false}
use Rattle.ground.specs.Names.{Name}
use Rattle.words.specs.Sheets.{put_first, spaced, word_length}
use Rattle.words.proofs.Numerals.{none_some}

more : (t : List ℕ) → word_length t < length t → spaced t ≡ take (word_length t) t ∷ spaced (drop (suc (word_length t)) t)
more [] h = let z : ⊥ = omega arith in elim z [ ]
more (b ∷ bs) h =
    elim (eqb b 32) as (λ v.
    cond v 0 (suc (word_length bs)) < length (b ∷ bs)
    → cond v ([] ∷ spaced bs) (put_first b (spaced bs))
    ≡ take (cond v 0 (suc (word_length bs))) (b ∷ bs) ∷ spaced (drop (suc (cond v 0 (suc (word_length bs)))) (b ∷ bs))) [
      | true ↦ λ l. refl
      | false ↦ λ l. ap (put_first b) (more bs (omega arith))
    ] h

last : (t : List ℕ) → word_length t ≡ length t → spaced t ≡ t ∷ []
last [] h = refl
last (b ∷ bs) h =
    elim (eqb b 32) as (λ v. cond v 0 (suc (word_length bs)) ≡ length (b ∷ bs) → cond v ([] ∷ spaced bs) (put_first b (spaced bs)) ≡ (b ∷ bs) ∷ []) [
      | true ↦ λ e. let z : ⊥ = omega arith in elim z [ ]
      | false ↦ λ e. ap (put_first b) (last bs (omega arith))
    ] h

pub length_fits : (t : List ℕ) → word_length t ≤ length t
length_fits [] = omega arith
length_fits (b ∷ bs) =
    let h = length_fits bs in
    elim (eqb b 32) as (λ v. cond v 0 (suc (word_length bs)) ≤ length (b ∷ bs)) [ true ↦ omega arith | false ↦ omega arith ]

pub cut_more :
    (t : List ℕ) (n : ℕ)
    → n ≡ word_length t
    → (n ≡ length t → ⊥)
    → spaced t ≡ take n t ∷ spaced (take (length t - (n + 1)) (drop (n + 1) t))
cut_more t n e ne =
    let lt : word_length t < length t = omega (arith, length_fits t) in
    let s : suc (word_length t) ≡ n + 1 = omega arith in
    more t lt
    ∙ ap (λ k. take k t ∷ spaced (drop (suc (word_length t)) t)) (sym e)
    ∙ ap (λ k. take n t ∷ spaced (drop k t)) s
    ∙ ap (λ r. take n t ∷ spaced r) (sym (take_rest t (n + 1)))

pub cut_last : (t : List ℕ) (n : ℕ) → n ≡ word_length t → n ≡ length t → spaced t ≡ take n t ∷ []
cut_last t n e l = last t (omega arith) ∙ sym (ap (λ w. w ∷ []) (take_all n t (omega arith)))

pub cut : (t : List ℕ) (n : ℕ) → n ≡ word_length t → (ws : List Name) × (spaced t ≡ take n t ∷ ws)
cut t n e =
    elim (cases_lt n (length t)) [
      | inl l ↦ (spaced (take (length t - (n + 1)) (drop (n + 1) t)), cut_more t n e (λ z. omega arith))
      | inr g ↦ ([], cut_last t n e (omega (arith, length_fits t)))
    ]

-- The same, as the library finds the space.

abbrev found : List ℕ → Option ℕ
found t = cond (nat_lt (position_or_len (λ b. nat_eq b 32) t) (length t)) (Some (position_or_len (λ b. nat_eq b 32) t)) None

space_at : (t : List ℕ) → word_length t ≡ position_or_len (λ b. nat_eq b 32) t
space_at = is_position_or_len word_length (λ b. nat_eq b 32) refl (λ b bs. let one : suc (word_length bs) ≡ 1 + word_length bs = omega arith in ap (λ k. cond (nat_eq b 32) 0 k) one)

pub split_some : (t : List ℕ) (n : ℕ) → Some n ≡ found t → spaced t ≡ take n t ∷ spaced (take (length t - (n + 1)) (drop (n + 1) t))
split_some t n e =
    let p = position_or_len (λ b. nat_eq b 32) t in
    elim (cases_Bool (nat_lt p (length t))) [
      | inl l ↦
          let is : n ≡ p = let s = e ∙ cond-true (nat_lt p (length t)) (Some p) None l in cc in
          cut_more t n (is ∙ sym (space_at t)) (λ z. omega (arith, ltb-true p (length t) l))
      | inr g ↦ absurd (none_some n (sym (e ∙ cond-false (nat_lt p (length t)) (Some p) None g)))
    ]

pub split_none : (t : List ℕ) → None ≡ found t → spaced t ≡ t ∷ []
split_none t e =
    let p = position_or_len (λ b. nat_eq b 32) t in
    elim (cases_Bool (nat_lt p (length t))) [
      | inl l ↦ absurd (none_some p (e ∙ cond-true (nat_lt p (length t)) (Some p) None l))
      | inr g ↦ last t (omega (arith, ltb-false p (length t) g, space_at t, length_fits t))
    ]
