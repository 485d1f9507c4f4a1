-- What a word is where a form may stand.
use Rattle.std.specs.Prelude.{ℕ, true, false, cond, List, Some, None, Ok, Err, codes, Option, Result}
use Rattle.ground.specs.Names.{same_name}
use Rattle.words.specs.Spelling.{good_name}
use Rattle.words.specs.Numbers.{Told, number_of}
use Rattle.words.specs.declared.leaf.Leaf.{Leaf}
use Rattle.words.specs.declared.leaf.Leaf.TheVariants.{Truth, Number, Name}
use Rattle.words.specs.declared.leaf.LeafFault.{LeafFault}
use Rattle.words.specs.declared.leaf.LeafFault.TheVariants.{TooLarge, Stray}

-- a number, else a name, else no word of the language
abbrev pub number_or_name : Option Told → List ℕ → Result Leaf LeafFault
number_or_name None w = cond (good_name w) (Ok Name) (Err Stray)
number_or_name (Some (Ok n)) w = Ok (Number n)
number_or_name (Some (Err e)) w = Err TooLarge

abbrev pub leaf_of : List ℕ → Result Leaf LeafFault
leaf_of w = cond (same_name w (codes "yes")) (Ok (Truth true)) (cond (same_name w (codes "no")) (Ok (Truth false)) (number_or_name (number_of w) w))
