use Rattle.std.proofs.Common.{is_some, rules, tests, ap, ◌∙◌}
use Rattle.lines.specs.Words.{left}
use Rattle.lines.specs.Lines.{code_number, all_codes}
use Rattle.std.proofs.lemmas.Iterator.Search.{all_from_yields_List}
use Rattle.lines.proofs.Yielding.{words_yield, all_are_codes}
use Rattle.lines.proofs.parse.are_codes.Goals as goal

pub returns : goal.returns
returns c =
    all_from_yields_List (λ w. is_some (code_number w)) c.all.new.self _ c.all.result c.all.ensures.ran (words_yield c.of.result) (λ x b q k. search (rules, tests))
    ∙ all_are_codes (left c.of.result) ∙ ap all_codes c.of.ensures
