-- Where a point stands in a word: before its last byte, and never among digits alone.
use Rattle.std.proofs.Common.{◌≡◌, ℕ, ◌+◌, ◌-◌, ◌<◌, Bool, true, false, eqb, leb, List, [], ◌∷◌, ◌++◌, length, get_or, take, drop, Some, sym, refl, ap, ◌∙◌, inl, inr, arith}
use Rattle.std.proofs.lemmas.List.{length-append, get_or_at, get_or-append_right, take_at, take-append-drop, drop_more, drop_all}
use Rattle.std.proofs.lemmas.Bool.{cond-true, cond-false, and_parts, and_from, and_left, and_right, leb-true, le-leb, lt-leb, eqb-true, eq-eqb, cases_lt}
use Rattle.std.proofs.lemmas.Bool.Decides.{nat_tests}
use Rattle.words.specs.Spelling.{digit}
use Rattle.words.specs.Numbers.{digits, whole_of, tenths_of, has_point, unsigned, number_of}
use Rattle.words.proofs.Numerals.{none_some, all_digits}

digit_apart : (b k : ℕ) → k < 48 → digit b ≡ true → eqb b k ≡ false
digit_apart b k h d = grind (arith, nat_tests)

no_point : (w : List ℕ) (n : ℕ) → digits w ≡ Some n → has_point w ≡ false
no_point [] n e = absurd (none_some n e)
no_point (x ∷ xs) n e =
    let w = x ∷ xs in
    elim (cases_lt (length w) 2) [
      | inl l ↦ and_left (leb 2 (length w)) (eqb (get_or w (length w - 2) 0) 46) (lt-leb 2 (length w) l)
      | inr g ↦
          and_right (leb 2 (length w)) (eqb (get_or w (length w - 2) 0) 46)
          (digit_apart (get_or w (length w - 2) 0) 46 (omega arith) (all_digits w 0 n (length w - 2) e (omega arith)))
    ]

-- digits alone are a number without a point
pub unsigned_whole : (minus : Bool) (w : List ℕ) (n : ℕ) → digits w ≡ Some n → unsigned minus w ≡ whole_of minus (Some n)
unsigned_whole minus w n e =
    cond-false (has_point w) (tenths_of minus (digits (take (length w - 2) w)) (get_or w (length w - 1) 0)) (whole_of minus (digits w)) (no_point w n e)
    ∙ ap (whole_of minus) e

-- with a point and a byte behind them they are a number with one
pub unsigned_tenths :
    (minus : Bool) (w : List ℕ) (n d : ℕ)
    → digits w ≡ Some n
    → unsigned minus (w ++ (46 ∷ (d ∷ []))) ≡ tenths_of minus (Some n) d
unsigned_tenths minus w n d e =
    let all = w ++ (46 ∷ (d ∷ [])) in
    let long : length all ≡ length w + 2 = length-append w (46 ∷ (d ∷ [])) in
    let before : length w ≡ length all - 2 = omega arith in
    let point : get_or all (length all - 2) 0 ≡ 46 = get_or_at w 46 (d ∷ []) 0 (length all - 2) before in
    let place : length all - 1 - length w ≡ 1 = omega arith in
    let last : get_or all (length all - 1) 0 ≡ d =
    get_or-append_right w (46 ∷ (d ∷ [])) (length w) (length all - 1) 0 refl (omega arith) ∙ ap (λ k. get_or (46 ∷ (d ∷ [])) k 0) place in
    let has : has_point all ≡ true =
    and_from (leb 2 (length all)) (eqb (get_or all (length all - 2) 0) 46) (le-leb 2 (length all) (omega arith)) (eq-eqb (get_or all (length all - 2) 0) 46 point) in
    cond-true (has_point all) (tenths_of minus (digits (take (length all - 2) all)) (get_or all (length all - 1) 0)) (whole_of minus (digits all)) has
    ∙ ap (λ ws. tenths_of minus (digits ws) (get_or all (length all - 1) 0)) (take_at w (46 ∷ (d ∷ [])) (length all - 2) before)
    ∙ ap (λ o. tenths_of minus o (get_or all (length all - 1) 0)) e
    ∙ ap (tenths_of minus (Some n)) last

-- a word with a point is cut there
pub cut_at_point :
    (w : List ℕ)
    → has_point w ≡ true
    → w ≡ take (length w - 2) w ++ (46 ∷ (get_or w (length w - 1) 0 ∷ []))
cut_at_point w h =
    let both = and_parts (leb 2 (length w)) (eqb (get_or w (length w - 2) 0) 46) h in
    let two = leb-true 2 (length w) both.0 in
    let point = eqb-true (get_or w (length w - 2) 0) 46 both.1 in
    let n = length w - 2 in
    let next : n + 1 ≡ length w - 1 = omega arith in
    let end : drop (length w - 1) w ≡ get_or w (length w - 1) 0 ∷ [] =
    drop_more w (length w - 1) 0 (omega arith) ∙ ap (λ ws. get_or w (length w - 1) 0 ∷ ws) (drop_all (length w - 1 + 1) w (omega arith)) in
    sym (take-append-drop n w)
    ∙ ap (λ ws. take n w ++ ws) (drop_more w n 0 (omega arith) ∙ ap (λ b. b ∷ drop (n + 1) w) point ∙ ap (λ k. 46 ∷ drop k w) next ∙ ap (λ ws. 46 ∷ ws) end)

-- a word that begins with digits has no sign
pub no_sign : (w ys : List ℕ) (n : ℕ) → digits w ≡ Some n → number_of (w ++ ys) ≡ unsigned false (w ++ ys)
no_sign [] ys n e = absurd (none_some n e)
no_sign (x ∷ xs) ys n e =
    let first = all_digits (x ∷ xs) 0 n 0 e (omega arith) in
    cond-false (eqb x 45) (unsigned true (xs ++ ys)) (unsigned false (x ∷ (xs ++ ys))) (digit_apart x 45 (omega arith) first)
