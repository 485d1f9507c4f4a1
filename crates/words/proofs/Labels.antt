-- Where there is no room for a label, only no words at all are labels.
use Rattle.std.proofs.Common.{◌≡◌, ℕ, true, false, leb, List, ◌∷◌, length, take, Some, None, Option, is_none, Bor, sym, refl, ap, ◌∙◌, arith}
use Rattle.std.proofs.lemmas.Bool.{and_from, and_left, le-leb, lt-leb}
use Rattle.ground.specs.Names.{Name}
use Rattle.words.specs.Sheets.{words_behind, word_length, good_labels, good_up_to}
use Rattle.words.proofs.Spaced.{cut}

no_room : (k : ℕ) (w : Name) (ws : List Name) → k ≡ 0 → good_up_to k (w ∷ ws) ≡ false
no_room k w ws e = and_left (leb (length (w ∷ ws)) k) (good_labels (w ∷ ws)) (lt-leb (length (w ∷ ws)) k (omega arith))

-- where there is no room, no word may be left
pub none_left : (k : ℕ) (o : Option (Bor (List ℕ))) → k ≡ 0 → is_none o ≡ good_up_to k (words_behind o)
none_left k None z = sym (and_from (leb 0 k) true (le-leb 0 k (omega arith)) refl)
none_left k (Some t) z = let c = cut t.now (word_length t.now) refl in sym (ap (good_up_to k) c.1 ∙ no_room k (take (word_length t.now) t.now) c.0 z)
