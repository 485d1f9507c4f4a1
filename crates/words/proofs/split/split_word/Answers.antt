use Rattle.std.proofs.Common.{nat_eq, rules}
use Rattle.std.proofs.lemmas.Iterator.{YieldsList-from_slice}
use Rattle.std.proofs.lemmas.Iterator.Search.{position_from_yields_List}
use borrow.Author.Tests.{tests}
use Rattle.words.proofs.Spaced.{split_some, split_none}
use Rattle.words.proofs.split.split_word.Goals as goal

pub returns-in-Some : goal.returns-in-Some
returns-in-Some c =
    let t = c.args.text.now in
    split_some t c.in-Some.n (position_from_yields_List (λ b. nat_eq b 32) _ _ _ c.in-Some.ensures.ran (YieldsList-from_slice t cc) (λ x b q k. search (rules, tests)))

pub returns-in-None : goal.returns-in-None
returns-in-None c =
    let t = c.args.text.now in
    split_none t (position_from_yields_List (λ b. nat_eq b 32) _ _ _ c.in-None.ensures.ran (YieldsList-from_slice t cc) (λ x b q k. search (rules, tests)))
