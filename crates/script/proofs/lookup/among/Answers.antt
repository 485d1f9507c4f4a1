use Rattle.std.proofs.Common.{◌∙◌, rules}
use Rattle.std.proofs.lemmas.Iterator.{YieldsList-from_slice}
use Rattle.std.proofs.lemmas.Iterator.Search.{any_from_yields_List}
use borrow.Author.Tests.{tests}
use Rattle.ground.specs.Names.{text, same_name}
use Rattle.script.proofs.Naming.{any_named}
use Rattle.script.proofs.lookup.among.Goals as goal

pub returns : goal.returns
returns c =
    let w = c.args.word.now in
    any_from_yields_List (λ p. same_name (text p) w) _ _ _ c.any.ensures.ran (YieldsList-from_slice c.args.names.now cc) (λ x b q k. search (rules, tests))
    ∙ any_named c.args.names.now w
