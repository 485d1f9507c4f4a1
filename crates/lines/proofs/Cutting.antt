-- Texts cut at a byte, as the code cuts them.
use Rattle.std.proofs.Common.{◌≡◌, ℕ, suc, ◌<◌, ◌≤◌, Bool, true, false, not, cond, eqb, ltb, List, [], ◌∷◌, length, Some, None, Option, sym, refl, ap, ◌∙◌, subst, inl, inr, arith, MatchOption, is_some}
use Rattle.std.specs.List.{position_or_len}
use Rattle.std.specs.Option.{unwrap_or}
use Rattle.std.proofs.lemmas.List.Recursion.{is_position_or_len}
use Rattle.std.proofs.lemmas.Bool.{cases_lt, cond-true, cond-false}
use Rattle.std.proofs.lemmas.Bool.Decides.{nat_tests}
use Rattle.ground.specs.Names.{Name}
use Rattle.words.specs.Sheets.{spaced, word_length, words_behind}
use Rattle.words.proofs.Spaced.{cut}
use Rattle.lines.specs.Texts.{line_length}
use Rattle.lines.specs.Words.{first, others, ended}

-- what `position` answers of a text
abbrev pub Found : (ℕ → Bool) → List ℕ → Option ℕ → Type 0
Found p t r = r ≡ cond (ltb (position_or_len p t) (length t)) (Some (position_or_len p t)) None

place : (p : ℕ → Bool) (t : List ℕ) (n : ℕ) (r : Option ℕ) → n ≡ position_or_len p t → n ≤ length t → Found p t r → MatchOption r (n ≡ length t) (λ i. (i ≡ n) × (i < length t))
place p t n r en le e =
    let at : r ≡ cond (ltb n (length t)) (Some n) None = e ∙ ap (λ k. cond (ltb k (length t)) (Some k) None) (sym en) in
    elim (cases_lt n (length t)) [
      | inl lt ↦
          let is : ltb n (length t) ≡ true = grind (arith, nat_tests) in
          subst (λ o. MatchOption o (n ≡ length t) (λ i. (i ≡ n) × (i < length t))) (sym (at ∙ cond-true (ltb n (length t)) (Some n) None is)) (refl, lt)
      | inr ge ↦
          let is : ltb n (length t) ≡ false = grind (arith, nat_tests) in
          subst (λ o. MatchOption o (n ≡ length t) (λ i. (i ≡ n) × (i < length t))) (sym (at ∙ cond-false (ltb n (length t)) (Some n) None is)) (omega arith)
    ]

line_end : (t : List ℕ) → line_length t ≡ position_or_len (λ b. eqb b 10) t
line_end t = is_position_or_len line_length (λ b. eqb b 10) refl (λ b bs. ap (cond (eqb b 10) 0) (omega arith)) t

line_fits : (t : List ℕ) → line_length t ≤ length t
line_fits [] = omega arith
line_fits (b ∷ bs) =
    let h = line_fits bs in
    elim (eqb b 10) as (λ v. cond v 0 (suc (line_length bs)) ≤ length (b ∷ bs)) [ true ↦ omega arith | false ↦ omega arith ]

chosen : (t : List ℕ) (n : ℕ) (r : Option ℕ) → MatchOption r (n ≡ length t) (λ i. (i ≡ n) × (i < length t)) → unwrap_or r (length t) ≡ n
chosen t n None m = sym m
chosen t n (Some i) m = m.0

-- the place of a line's end, or else the length of the text
pub line_is : (t : List ℕ) (r : Option ℕ) → Found (λ b. eqb b 10) t r → unwrap_or r (length t) ≡ line_length t
line_is t r f = chosen t (line_length t) r (place (λ b. eqb b 10) t (line_length t) r (line_end t) (line_fits t) f)

-- the word taken, and what stands behind it
pub word_taken : (t w : Name) (ws vs : List Name) → spaced t ≡ w ∷ ws → vs ≡ spaced t → (Some w ≡ first vs) × (ws ≡ others vs)
word_taken t w ws vs e is = (sym (ap first (is ∙ e)), sym (ap others (is ∙ e)))

not_ended : (t : List ℕ) → ended (spaced t) ≡ false
not_ended t = ap ended (cut t (word_length t) refl).1

-- a line ends where nothing is left of it
pub ended_is : (o : Option _) (r : Bool) → is_some o ≡ not r → r ≡ ended (words_behind o)
ended_is None true e = refl
ended_is None false e = cc
ended_is (Some t) true e = cc
ended_is (Some t) false e = sym (not_ended t.now)
