-- What a line is, by its first word.
use Rattle.std.specs.Prelude.{◌≡◌, ℕ, Bool, true, false, cond, ◌&&◌, ◌||◌, ◌⊎◌, List, [], ◌∷◌, length, take, drop, Some, None, codes, Option, ◌==◌}
use Rattle.ground.specs.Names.{Name, same_name}
use Rattle.words.specs.Sheets.{spaced}
use Rattle.lines.specs.declared.line.Line.{Line}
use Rattle.lines.specs.declared.line.Line.TheVariants.{Blank, Sheet, Read, «Type» as Typed, Call as Called, Unknown}
use Rattle.lines.specs.Lines.{all_codes, call_of}

-- spaces (32) alone
abbrev pub is_blank : List ℕ → Bool
is_blank [] = true
is_blank (b ∷ bs) = (b == 32) && is_blank bs

-- a remark: its first byte is # (35)
abbrev pub is_remark : List ℕ → Bool
is_remark [] = false
is_remark (b ∷ bs) = b == 35

-- what stands behind one space; nothing at the end, and no text where another byte stands
abbrev pub behind_space : List ℕ → Option (List ℕ)
behind_space [] = Some []
behind_space (b ∷ bs) = cond (b == 32) (Some bs) None

-- what stands behind the word and one space, in a line that begins with the word
abbrev pub behind : Name → List ℕ → Option (List ℕ)
behind w t = cond (same_name (take (length w) t) w) (behind_space (drop (length w) t)) None

-- lines that are passed over
abbrev pub passed : List ℕ → Bool
passed t = is_remark t || is_blank t

-- no line that is passed over, nor one that begins with read or with sheet
abbrev pub Asks : List ℕ → Type 0
Asks t = (passed t ≡ false) × (behind (codes "read") t ≡ None) × (behind (codes "sheet") t ≡ None)

-- what the line is: passed over; a script to read; a sheet of labels; the numbers of codes to be shown; a call by its words; or none of these
abbrev pub Says : List ℕ → Line → Type 0
Says t Blank = passed t ≡ true
Says t (Read r) = (passed t ≡ false) × (behind (codes "read") t ≡ Some r.now)
Says t (Sheet r) = (passed t ≡ false) × (behind (codes "read") t ≡ None) × (behind (codes "sheet") t ≡ Some r.now)
Says t (Typed r) = Asks t × (behind (codes "type") t ≡ Some r.now) × (all_codes (spaced r.now) ≡ true)
Says t (Called c) = Asks t × (behind (codes "type") t ≡ None) × (call_of (spaced t) ≡ Some c)
Says t Unknown =
    Asks t
    × (((r : List ℕ) × (behind (codes "type") t ≡ Some r) × (all_codes (spaced r) ≡ false)) ⊎ ((behind (codes "type") t ≡ None) × (call_of (spaced t) ≡ None)))
