use Rattle.std.proofs.Common.{◌∙◌, arith, rules}
use Rattle.std.proofs.lemmas.List.Folds.{length-prefix_len}
use Rattle.std.proofs.lemmas.List.Sums.{prefix_len-le-length}
use Rattle.std.proofs.lemmas.Iterator.{YieldsList-from_slice}
use Rattle.std.proofs.lemmas.Iterator.Consumers.{count_from_yields_List}
use Rattle.std.proofs.lemmas.Iterator.Search.{YieldsList-from_take_while}
use borrow.Author.Tests.{tests}
use Rattle.script.specs.Tokens.{kind_of, same_kind}
use Rattle.script.proofs.token.run.Goals as goal

pub returns : goal.returns
returns c =
    let t = c.args.text.now in
    let value =
    count_from_yields_List c.take_while.result c.count.result c.count.ensures.ran
    (YieldsList-from_take_while _ (λ b. same_kind (kind_of b) c.args.kind) (YieldsList-from_slice t cc) c.take_while.ensures.closure c.take_while.ensures.done (λ x b q k. search (rules, tests)))
    ∙ length-prefix_len (λ b. same_kind (kind_of b) c.args.kind) t in
    record { value = value; within = omega (arith, value, prefix_len-le-length (λ b. same_kind (kind_of b) c.args.kind) t) }
