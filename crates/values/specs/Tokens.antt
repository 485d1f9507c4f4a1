-- Tokens, and which values are too long to be written.
use Rattle.std.specs.Prelude.{◌≡◌, ℕ, Bool, true, false, cond, List, [], ◌∷◌, ◌++◌, length, ◌≤◌, take, drop, count_by, nat_lt}
use Rattle.values.specs.declared.token.Token.{Token}
use Rattle.values.specs.declared.token.Token.TheVariants.{Open, Close, Word, Label, Variable}
use Rattle.values.specs.declared.word.Word.TheVariants.{Dots}

-- a bracket is no word
abbrev pub is_word : Token → Bool
is_word Open = false
is_word Close = false
is_word (Word w) = true
is_word (Label l) = true
is_word (Variable o) = true

abbrev pub word_count : List Token → ℕ
word_count ts = count_by is_word ts

-- the second list is the first with more behind it
pub record Begins (ts us : List Token) : Type 0 where
  pub rest : List Token
  pub is : us ≡ ts ++ rest

-- the tokens with a value that begins there at an end: one of over 256 words is dots
abbrev pub ended_at : ℕ → List Token → List Token
ended_at begun ts = cond (nat_lt 256 (word_count (drop begun ts))) (take begun ts ++ Word Dots ∷ []) ts

-- a value stands behind what was written before it, and is at most 256 words
abbrev pub ValueBehind : List Token → List Token → Type 0
ValueBehind ts us = Begins ts us × (word_count (drop (length ts) us) ≤ 256)
