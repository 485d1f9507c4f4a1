use Rattle.std.proofs.Common.{ap, ◌∙◌, rules}
use Rattle.std.proofs.lemmas.Iterator.{YieldsList-from_slice}
use Rattle.std.proofs.lemmas.Iterator.Search.{position_from_yields_List}
use borrow.Author.Tests.{tests}
use Rattle.ground.specs.Names.{text, texts, same_name}
use Rattle.words.specs.Sheets.{position}
use Rattle.words.proofs.Found.{found}
use Rattle.words.proofs.sheet.Sheet.position.Goals as goal

pub returns-clause-answer : goal.returns-clause-answer
returns-clause-answer c =
    let ls = c.labels.result.now in
    position_from_yields_List (λ l. same_name (text l) c.args.word.now) _ _ _ c.position.ensures.ran (YieldsList-from_slice ls cc) (λ x b q k. search (rules, tests))
    ∙ found ls c.args.word.now ∙ ap (λ xs. position (texts xs) c.args.word.now) c.labels.ensures
