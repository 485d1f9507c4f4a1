-- The sheet: the labels that scripts may use.
use Rattle.std.specs.Prelude.{◌≡◌, ℕ, suc, Bool, true, false, cond, not, ◌&&◌, List, [], ◌∷◌, length, Some, None, Ok, Err, vec_items, Option, Result, ◌==◌, nat_le}
use Rattle.std.specs.Borrow.{Bor}
use Rattle.std.specs.Option.{option_map}
use Rattle.ground.specs.Names.{Name, named, same_name, texts}
use Rattle.words.specs.Spelling.{good_name}
use Rattle.words.specs.declared.sheet.Sheet.{Sheet}
use Rattle.words.specs.declared.sheet.SheetFault.{SheetFault}
use Rattle.words.specs.declared.sheet.SheetFault.TheVariants.{Bad, Memory}

-- the words of a text that stand one space apart: two spaces together have an empty word between them
abbrev pub put_first : ℕ → List Name → List Name
put_first b [] = (b ∷ []) ∷ []
put_first b (w ∷ ws) = (b ∷ w) ∷ ws

abbrev pub spaced : List ℕ → List Name
spaced [] = [] ∷ []
spaced (b ∷ bs) = cond (b == 32) ([] ∷ spaced bs) (put_first b (spaced bs))

-- the length of the first of them
abbrev pub word_length : List ℕ → ℕ
word_length [] = 0
word_length (b ∷ bs) = cond (b == 32) 0 (suc (word_length bs))

-- the words in what stands behind a space, if there was one
abbrev pub words_behind : Option (Bor (List ℕ)) → List Name
words_behind None = []
words_behind (Some t) = spaced t.now

-- an empty text has no label
abbrev pub labels_of : List ℕ → List Name
labels_of [] = []
labels_of (b ∷ bs) = spaced (b ∷ bs)

-- each is a label and stands once
abbrev pub good_labels : List Name → Bool
good_labels [] = true
good_labels (w ∷ ws) = good_name w && not (named ws w) && good_labels ws

-- and there are at most so many
abbrev pub good_up_to : ℕ → List Name → Bool
good_up_to most ws = nat_le (length ws) most && good_labels ws

-- at most 24 labels
abbrev pub good_sheet : List ℕ → Bool
good_sheet text = good_up_to 24 (labels_of text)

-- the number of a label
abbrev pub position : List Name → Name → Option ℕ
position [] w = None
position (l ∷ ls) w = cond (same_name l w) (Some 0) (option_map suc (position ls w))

-- what becomes of a text that is to be a sheet; want of memory is told of good ones alone
abbrev pub Read : List ℕ → Result Sheet SheetFault → Type 0
Read text (Ok s) = (good_sheet text ≡ true) × (texts (vec_items s.labels) ≡ labels_of text)
Read text (Err Bad) = good_sheet text ≡ false
Read text (Err Memory) = good_sheet text ≡ true
