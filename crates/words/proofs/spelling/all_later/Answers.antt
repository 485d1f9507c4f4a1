use Rattle.std.proofs.Common.{◌≡◌, ℕ, ◌&&◌, ◌||◌, List, [], ◌∷◌, refl, ap, ◌∙◌, rules}
use Rattle.std.specs.List.{list_all}
use Rattle.std.proofs.lemmas.Iterator.{YieldsList-from_slice}
use Rattle.std.proofs.lemmas.Iterator.Search.{all_from_yields_List}
use borrow.Author.Tests.{tests}
use Rattle.words.specs.Spelling.{small, digit, all_later}
use Rattle.words.proofs.spelling.all_later.Goals as goal

all : (bs : List ℕ) → list_all (λ b. small b || digit b) bs ≡ all_later bs
all [] = refl
all (b ∷ bs) = ap (λ v. (small b || digit b) && v) (all bs)

pub returns : goal.returns
returns c =
    all_from_yields_List (λ b. small b || digit b) _ _ _ c.all.ensures.ran (YieldsList-from_slice c.args.word.now cc) (λ x b q k. search (rules, tests))
    ∙ all c.args.word.now
