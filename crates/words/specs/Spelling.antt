-- Which words are names or labels.
use Rattle.std.specs.Prelude.{ℕ, Bool, true, false, not, ◌&&◌, ◌||◌, List, [], ◌∷◌, length, codes, nat_le}
use Rattle.ground.specs.Names.{Name, named}

abbrev pub small : ℕ → Bool
small b = nat_le 97 b && nat_le b 122

abbrev pub digit : ℕ → Bool
digit b = nat_le 48 b && nat_le b 57

-- the words that no name and no label may be
abbrev pub reserved : List Name
reserved =
    codes "fun" ∷ codes "call" ∷ codes "let" ∷ codes "rec" ∷ codes "if" ∷ codes "record" ∷ codes "with" ∷ codes "get" ∷ codes "drop" ∷ codes "yes"
    ∷ codes "no" ∷ []

abbrev pub is_reserved : List ℕ → Bool
is_reserved w = named reserved w

-- each byte is a small letter or a digit
abbrev pub all_later : List ℕ → Bool
all_later [] = true
all_later (b ∷ bs) = (small b || digit b) && all_later bs

abbrev pub starts_small : List ℕ → Bool
starts_small [] = false
starts_small (b ∷ bs) = small b

-- a small letter and up to 11 small letters or digits, no reserved word
abbrev pub good_name : List ℕ → Bool
good_name w = starts_small w && all_later w && nat_le (length w) 12 && not (is_reserved w)
