-- A number that is told only up to 100,000 is read on as the number itself, since no limit lies above.
use Rattle.std.proofs.Common.{◌≡◌, ℕ, ◌+◌, ◌-◌, ◌*◌, min, true, false, cond, List, [], ◌∷◌, Some, None, fold, sym, refl, ap, ◌∙◌, arith}
use Rattle.words.specs.Spelling.{digit}
use Rattle.words.specs.Numbers.{step, capped}

pub stays_none : (xs : List ℕ) → fold step None xs ≡ None
stays_none [] = refl
stays_none (x ∷ xs) = stays_none xs

caps : (xs : List ℕ) (m n : ℕ) → min m 100000 ≡ min n 100000 → capped (fold step (Some m) xs) ≡ capped (fold step (Some n) xs)
caps [] m n e = ap Some e
caps (x ∷ xs) m n e =
    let d = x - 48 in
    let e' : min (m * 10 + d) 100000 ≡ min (n * 10 + d) 100000 = omega arith in
    elim (digit x) as (λ b. capped (fold step (cond b (Some (m * 10 + (x - 48))) None) xs) ≡ capped (fold step (cond b (Some (n * 10 + (x - 48))) None) xs)) [ true ↦ caps xs (m * 10 + d) (n * 10 + d) e' | false ↦ refl ]

pub digit_more :
    (n b : ℕ) (xs : List ℕ) (m : ℕ)
    → digit b ≡ true
    → m ≡ min (n * 10 + (b - 48)) 100000
    → capped (fold step (Some m) xs) ≡ capped (fold step (Some n) (b ∷ xs))
digit_more n b xs m d e =
    caps xs m (n * 10 + (b - 48)) (omega (arith, e)) ∙ ap (λ v. capped (fold step (cond v (Some (n * 10 + (b - 48))) None) xs)) (sym d)

pub no_digit : (n b : ℕ) (xs : List ℕ) → digit b ≡ false → capped (fold step (Some n) (b ∷ xs)) ≡ None
no_digit n b xs d = ap (λ v. capped (fold step (cond v (Some (n * 10 + (b - 48))) None) xs)) d ∙ ap capped (stays_none xs)
