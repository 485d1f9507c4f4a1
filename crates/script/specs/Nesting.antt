-- How deep the brackets of a text nest.
use Rattle.std.specs.Prelude.{ℕ, ◌+◌, ◌-◌, max, cond, List, [], ◌∷◌, ◌==◌}

-- how many brackets are open behind a byte
abbrev pub opened : ℕ → ℕ → ℕ
opened n b = cond (b == 40) (n + 1) (cond (b == 41) (n - 1) n)

-- with n open, and so many at the most so far
abbrev pub nesting_of : ℕ → ℕ → List ℕ → ℕ
nesting_of n most [] = most
nesting_of n most (b ∷ bs) = nesting_of (opened n b) (max most (opened n b)) bs
