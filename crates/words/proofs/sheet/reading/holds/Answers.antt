use Rattle.std.proofs.Common.{nat_eq, ap, ◌∙◌, rules}
use Rattle.std.proofs.lemmas.Iterator.Search.{any_from_yields_List}
use Rattle.std.proofs.lemmas.Iterator.Splits.{YieldsList-from_slice_split}
use borrow.Author.Tests.{tests}
use Rattle.std.specs.List.{list_any}
use Rattle.ground.specs.Names.{same_name}
use Rattle.words.specs.Sheets.{spaced}
use Rattle.words.proofs.Holds.{split_spaced, any_named}
use Rattle.words.proofs.sheet.reading.holds.Goals as goal

pub returns : goal.returns
returns c =
    let t = c.args.text.now in
    let w = c.args.word.now in
    any_from_yields_List (λ u. same_name u w) _ _ _ c.any.ensures.ran
    (YieldsList-from_slice_split _ (λ b. nat_eq b 32) t c.split.ensures.rest c.split.ensures.done c.split.ensures.closure (λ x b q k. search (rules, tests)))
    (λ x b q k. search (rules, tests))
    ∙ ap (λ ws. list_any (λ u. same_name u w) ws) (split_spaced t) ∙ any_named (spaced t) w
