-- Which words are numbers, and their value in tenths.
use Rattle.std.specs.Prelude.{◌≡◌, ℕ, ◌+◌, ◌-◌, ◌*◌, ◌<◌, ◌≤◌, min, Bool, true, false, cond, ◌&&◌, List, [], ◌∷◌, ◌++◌, length, take, ℤ, pos, neg_ℤ, Some, None, Ok, Err, fold, Option, Result, ◌==◌, nat_le, slice_index}
use Rattle.words.specs.Spelling.{digit}
use Rattle.words.specs.declared.number.Number.{Number}
use Rattle.words.specs.declared.number.Number.TheVariants.{Whole, Tenths}
use Rattle.words.specs.declared.number.TooLarge.{TooLarge}

abbrev pub step : Option ℕ → ℕ → Option ℕ
step None b = None
step (Some n) b = cond (digit b) (Some (n * 10 + (b - 48))) None

-- the number that one or more digits write
abbrev pub digits : List ℕ → Option ℕ
digits [] = None
digits (x ∷ xs) = fold step (Some 0) (x ∷ xs)

-- no number is told above 100,000
abbrev pub capped : Option ℕ → Option ℕ
capped None = None
capped (Some n) = Some (min n 100000)

-- how large a number may be, in wholes or in tenths: one more below zero than above
abbrev pub limit : Bool → ℕ
limit true = 32768
limit false = 32767

abbrev pub sign : Bool → ℕ → ℤ
sign true n = neg_ℤ (pos n)
sign false n = pos n

-- what a word tells that is spelled as a number: its value, or that it is out of range
abbrev pub Told : Type 0
Told = Result Number TooLarge

abbrev pub too_large : Told
too_large = Err (record {})

-- a number without a point, by its value in tenths
abbrev pub whole_of : Bool → Option ℕ → Option Told
whole_of minus None = None
whole_of minus (Some n) = Some (cond (nat_le n (limit minus)) (Ok (Whole (sign minus (n * 10)))) too_large)

-- a number with a point, by what stands before it and the one digit behind it
abbrev pub tenths_of : Bool → Option ℕ → ℕ → Option Told
tenths_of minus None d = None
tenths_of minus (Some n) d =
    cond (digit d) (Some (cond (nat_le (n * 10 + (d - 48)) (limit minus)) (Ok (Tenths (sign minus (n * 10 + (d - 48))))) too_large)) None

-- a point stands before the last byte
abbrev pub has_point : List ℕ → Bool
has_point w = nat_le 2 (length w) && slice_index w (length w - 2) == 46

abbrev pub unsigned : Bool → List ℕ → Option Told
unsigned minus w = cond (has_point w) (tenths_of minus (digits (take (length w - 2) w)) (slice_index w (length w - 1))) (whole_of minus (digits w))

-- the number that a word is, if it is one
abbrev pub number_of : List ℕ → Option Told
number_of [] = None
number_of (b ∷ w) = cond (b == 45) (unsigned true w) (unsigned false (b ∷ w))

-- The same in the words of the rule.

-- one or more digits write n
pub data Numeral : List ℕ → ℕ → Type 0 where
  one : (b : ℕ) → digit b ≡ true → Numeral (b ∷ []) (b - 48)
  more : (w : List ℕ) (n b : ℕ) → Numeral w n → digit b ≡ true → Numeral (w ++ (b ∷ [])) (n * 10 + (b - 48))

abbrev pub minus_sign : Bool → List ℕ
minus_sign true = 45 ∷ []
minus_sign false = []

-- an optional minus, digits, and for tenths a point and one more digit; the minus covers the whole number
pub data Written : List ℕ → Told → Type 0 where
  whole : (minus : Bool) (w : List ℕ) (n : ℕ) → Numeral w n → n ≤ limit minus → Written (minus_sign minus ++ w) (Ok (Whole (sign minus (n * 10))))
  large_whole : (minus : Bool) (w : List ℕ) (n : ℕ) → Numeral w n → limit minus < n → Written (minus_sign minus ++ w) too_large
  tenths :
      (minus : Bool) (w : List ℕ) (n d : ℕ)
      → Numeral w n
      → digit d ≡ true
      → n * 10 + (d - 48) ≤ limit minus
      → Written (minus_sign minus ++ (w ++ (46 ∷ (d ∷ [])))) (Ok (Tenths (sign minus (n * 10 + (d - 48)))))
  large_tenths :
      (minus : Bool) (w : List ℕ) (n d : ℕ)
      → Numeral w n
      → digit d ≡ true
      → limit minus < n * 10 + (d - 48)
      → Written (minus_sign minus ++ (w ++ (46 ∷ (d ∷ [])))) too_large

-- the function tells just what the rule says
abbrev pub NumbersAreWritten : Type 0
NumbersAreWritten = (w : List ℕ) (v : Told) → (number_of w ≡ Some v → Written w v) × (Written w v → number_of w ≡ Some v)

-- the number that the rule writes as the word, or that it writes none
abbrev pub Writes : List ℕ → Option Told → Type 0
Writes w None = (v : Told) → Written w v → ⊥
Writes w (Some v) = Written w v × ((u : Told) → Written w u → u ≡ v)
