-- A script cut into brackets and words.
use Rattle.std.specs.Prelude.{ℕ, ◌+◌, ◌<◌, ◌≤◌, Bool, true, false, cond, List, [], ◌∷◌, ◌++◌, length, take, drop, ◌==◌}
use Rattle.std.specs.List.{prefix_len}
use Rattle.ground.specs.declared.place.Place.{Place}
use Rattle.script.specs.Faults.{span}
use Rattle.script.specs.declared.token.Kind.{Kind}
use Rattle.script.specs.declared.token.Kind.TheVariants.{Space, Open, Close, Letter}
use Rattle.script.specs.declared.token.Token.{Token as Cut}
use Rattle.script.specs.declared.token.Token.TheVariants.{Open as CutOpen, Close as CutClose, Word as CutWord, End as CutEnd}

-- a bracket at a byte; a word, its place and its bytes; the end, at the script's length
pub data Token : Type 0 where
  opening : ℕ → Token
  closing : ℕ → Token
  word : Place → List ℕ → Token
  ending : ℕ → Token

abbrev pub kind_of : ℕ → Kind
kind_of b = cond (b == 32) Space (cond (b == 40) Open (cond (b == 41) Close Letter))

-- two kinds are one
abbrev pub same_kind : Kind → Kind → Bool
same_kind Space Space = true
same_kind Open Open = true
same_kind Close Close = true
same_kind Letter Letter = true
same_kind k m = false

-- how many bytes of a kind stand at the front
abbrev pub run : Kind → List ℕ → ℕ
run k bs = prefix_len (λ b. same_kind (kind_of b) k) bs

-- a word that has begun, at a byte and with bytes so far
pub data Begun : Type 0 where
  between : Begun
  inside : ℕ → List ℕ → Begun

-- a word goes on as long as it can
abbrev pub grown : Begun → ℕ → ℕ → Begun
grown between at b = inside at (b ∷ [])
grown (inside s w) at b = inside s (w ++ (b ∷ []))

abbrev pub ended : Begun → List Token → List Token
ended between ts = ts
ended (inside s w) ts = word (span s (length w)) w ∷ ts

abbrev pub by_kind : Kind → Begun → ℕ → List Token → List Token → List Token
by_kind Space g at next more = ended g next
by_kind Open g at next more = ended g (opening at ∷ next)
by_kind Close g at next more = ended g (closing at ∷ next)
by_kind Letter g at next more = more

-- the brackets and words of the bytes from `at` on, with the word that has begun
abbrev pub cut : Begun → ℕ → List ℕ → List Token
cut g at [] = ended g []
cut g at (b ∷ bs) = by_kind (kind_of b) g at (cut between (at + 1) bs) (cut (grown g at b) (at + 1) bs)

abbrev pub tokens : List ℕ → List Token
tokens text = cut between 0 text

-- those that stand at the byte `at` and behind it
abbrev pub rest : List ℕ → ℕ → List Token
rest text at = cut between at (drop at text)

-- the first of them, or the end of a script of n bytes; and those behind it
abbrev pub first : ℕ → List Token → Token
first n [] = ending n
first n (t ∷ ts) = t

abbrev pub behind : List Token → List Token
behind [] = []
behind (t ∷ ts) = ts

-- the bytes at a place
abbrev pub bytes_at : List ℕ → Place → List ℕ
bytes_at text p = take p.length (drop p.start text)

-- a token that a program holds, with the bytes of its word
abbrev pub token_of : List ℕ → Cut → Token
token_of text (CutOpen i) = opening i
token_of text (CutClose i) = closing i
token_of text (CutWord p) = word p (bytes_at text p)
token_of text (CutEnd n) = ending n

-- a word, or a closing bracket, lies in the text
abbrev pub Within : List ℕ → Cut → Type 0
Within text (CutOpen i) = Unit {0}
Within text (CutClose i) = i < length text
Within text (CutWord p) = p.start + p.length ≤ length text
Within text (CutEnd n) = Unit {0}
