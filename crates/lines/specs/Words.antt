-- The words of a line that are still to be read.
use Rattle.std.specs.Prelude.{◌≡◌, ℕ, Bool, true, false, List, [], ◌∷◌, Some, None, Option}
use Rattle.std.specs.Option.{option_map}
use Rattle.std.specs.Borrow.{Bor}
use Rattle.ground.specs.Names.{Name}
use Rattle.words.specs.Sheets.{words_behind}
use Rattle.lines.specs.declared.word.Words.{Words}

-- the words that stand one space apart in what is left of a line, none behind its end
abbrev pub left : Words → List Name
left w = words_behind w.rest

abbrev pub first : List Name → Option Name
first [] = None
first (w ∷ ws) = Some w

abbrev pub others : List Name → List Name
others [] = []
others (w ∷ ws) = ws

abbrev pub ended : List Name → Bool
ended [] = true
ended (w ∷ ws) = false

-- a step takes the first word, and leaves the others
abbrev pub Takes : Words → Option (Bor (List ℕ)) → Words → Type 0
Takes v r w = (option_map (λ x. x.now) r ≡ first (left v)) × (left w ≡ others (left v))
