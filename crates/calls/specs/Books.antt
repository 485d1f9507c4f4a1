-- The codes by their numbers.
use Rattle.std.specs.Prelude.{◌≡◌, ◌⊎◌, ℕ, ◌<◌, List, [], ◌∷◌, ◌++◌, length, Some, None, Option, decimal, slice_index_or}
use Rattle.ground.specs.declared.code.Code.{Code}
use Rattle.values.specs.declared.kind.Kind.{Kind}
use Rattle.values.specs.declared.kind.Kind.TheVariants.{«Type» as OfType}
use Rattle.calls.specs.declared.book.Made.{Made}
use Rattle.calls.specs.declared.book.Written.{Written}
use Rattle.calls.specs.declared.book.Written.TheVariants.{Made as MadeAt, Seen as SeenAt}

-- what stands for a number under which no code was made: a code that no system knows
abbrev pub nowhere : Made
nowhere = record { code = record { 0 = 4294967295 }; kind = OfType }

abbrev pub at : List Made → ℕ → Made
at ms k = slice_index_or ms k nowhere

abbrev pub code_of : List Made → ℕ → Code
code_of ms k = (at ms k).code

abbrev pub kind_at : List Made → ℕ → Kind
kind_at ms k = (at ms k).kind

-- the code of a child; where there is none, one that no system knows
abbrev pub child_of : List Made → Option ℕ → Code
child_of ms (Some k) = code_of ms k
child_of ms None = nowhere.code

-- the code of each number, and each code that was seen, by what a system knows them by
abbrev pub made_at : List Made → ℕ → ℕ
made_at ms k = (slice_index_or ms k nowhere).code.0

abbrev pub seen_at : List Code → ℕ → ℕ
seen_at ss k = (slice_index_or ss k (nowhere.code)).0

-- as #7, or as +7 where no call made it
abbrev pub shown : Written → List ℕ
shown (MadeAt k) = 35 ∷ decimal k
shown (SeenAt k) = 43 ∷ decimal k

-- none of the first n is c
abbrev pub NoneIs : (ℕ → ℕ) → ℕ → ℕ → Type 0
NoneIs f c n = (k : ℕ) → k < n → f k ≡ c → ⊥

-- of n, the first that is c is at i
abbrev pub FirstIs : (ℕ → ℕ) → ℕ → ℕ → ℕ → Type 0
FirstIs f c n i = (i < n) × (f i ≡ c) × NoneIs f c i

-- a code is written by its first number; one that no call made by its first place among those that were seen, and is noted as the last of them when it is
-- first seen
abbrev pub WrittenAs : List Made → List Code → Code → Written → List Code → Type 0
WrittenAs ms ss c (MadeAt i) ts = FirstIs (made_at ms) c.0 (length ms) i × (ts ≡ ss)
WrittenAs ms ss c (SeenAt i) ts =
    NoneIs (made_at ms) c.0 (length ms)
    × ((FirstIs (seen_at ss) c.0 (length ss) i × (ts ≡ ss)) ⊎ (NoneIs (seen_at ss) c.0 (length ss) × (i ≡ length ss) × (ts ≡ ss ++ c ∷ [])))
