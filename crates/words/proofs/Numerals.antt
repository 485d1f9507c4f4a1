-- Words of digits have the value that the rule gives them, and no other word has one.
use Rattle.std.proofs.Common.{◌≡◌, ℕ, zero, suc, ◌+◌, ◌-◌, ◌*◌, ◌<◌, true, cond, List, [], ◌∷◌, ◌++◌, length, get_or, Some, None, fold, Option, sym, refl, ap, ◌∙◌, subst, inl, inr, arith}
use Rattle.std.proofs.lemmas.List.{append-nil, append_assoc}
use Rattle.std.proofs.lemmas.Bool.{cond-true, cases_Bool}
use Rattle.words.specs.Spelling.{digit}
use Rattle.words.specs.Numbers.{step, digits, Numeral, one, more}
use Rattle.words.proofs.Capped.{stays_none}

-- none is not some
pub none_some : {A : Type 0} (x : A) → None ≡ Some x → ⊥
none_some x e = let z : ◌≡◌ {A = ℕ} 0 1 = cc in omega arith

folded_push : (xs : List ℕ) (b : ℕ) (o : Option ℕ) → fold step o (xs ++ b ∷ []) ≡ step (fold step o xs) b
folded_push [] b o = refl
folded_push (x ∷ xs) b o = folded_push xs b (step o x)

digits_push : (w : List ℕ) (b n : ℕ) → digits w ≡ Some n → digit b ≡ true → digits (w ++ b ∷ []) ≡ Some (n * 10 + (b - 48))
digits_push [] b n e d = absurd (none_some n e)
digits_push (x ∷ xs) b n e d =
    folded_push xs b (step (Some 0) x) ∙ ap (λ o. step o b) e ∙ cond-true (digit b) (Some (n * 10 + (b - 48))) None d

pub numeral_value : {w : List ℕ} {n : ℕ} → Numeral w n → digits w ≡ Some n
numeral_value (one b d) =
    let z : 0 * 10 + (b - 48) ≡ b - 48 = omega arith in
    cond-true (digit b) (Some (0 * 10 + (b - 48))) None d ∙ ap Some z
numeral_value (more w n b m d) = digits_push w b n (numeral_value m) d

-- where a value comes out, the next byte is a digit
next_digit : (m x n : ℕ) (xs : List ℕ) → fold step (step (Some m) x) xs ≡ Some n → digit x ≡ true
next_digit m x n xs e =
    elim (cases_Bool (digit x)) [
      | inl d ↦ d
      | inr d ↦
          let none : fold step (step (Some m) x) xs ≡ None =
          ap (λ v. fold step (cond v (Some (m * 10 + (x - 48))) None) xs) d ∙ stays_none xs in
          absurd (none_some n (sym none ∙ e))
    ]

-- and is read on
read_on : (m x n : ℕ) (xs : List ℕ) → fold step (step (Some m) x) xs ≡ Some n → fold step (Some (m * 10 + (x - 48))) xs ≡ Some n
read_on m x n xs e =
    sym (ap (λ v. fold step (cond v (Some (m * 10 + (x - 48))) None) xs) (next_digit m x n xs e)) ∙ e

pub all_digits : (xs : List ℕ) (m n i : ℕ) → fold step (Some m) xs ≡ Some n → i < length xs → digit (get_or xs i 0) ≡ true
all_digits [] m n i e h = let z : ⊥ = omega arith in absurd z
all_digits (x ∷ xs) m n zero e h = next_digit m x n xs e
all_digits (x ∷ xs) m n (suc i) e h = all_digits xs (m * 10 + (x - 48)) n i (read_on m x n xs e) (omega arith)

-- digits behind a numeral make it longer
longer : (xs ys : List ℕ) (m n : ℕ) → Numeral ys m → fold step (Some m) xs ≡ Some n → Numeral (ys ++ xs) n
longer [] ys m n h e =
    let same : m ≡ n = cc in
    subst (λ (k : ℕ). Numeral (ys ++ []) k) same (subst (λ (zs : List ℕ). Numeral zs m) (sym (append-nil ys)) h)
longer (x ∷ xs) ys m n h e =
    subst (λ (zs : List ℕ). Numeral zs n) (append_assoc ys (x ∷ []) xs)
    (longer xs (ys ++ x ∷ []) (m * 10 + (x - 48)) n (more ys m x h (next_digit m x n xs e)) (read_on m x n xs e))

pub value_numeral : (w : List ℕ) (n : ℕ) → digits w ≡ Some n → Numeral w n
value_numeral [] n e = absurd (none_some n e)
value_numeral (x ∷ xs) n e =
    let z : 0 * 10 + (x - 48) ≡ x - 48 = omega arith in
    longer xs (x ∷ []) (x - 48) n (one x (next_digit 0 x n xs e)) (sym (ap (λ k. fold step (Some k) xs) z) ∙ read_on 0 x n xs e)
