use Rattle.std.proofs.Common.{not, ◌∙◌, rules}
use Rattle.std.proofs.lemmas.Iterator.{YieldsList-from_slice}
use Rattle.std.proofs.lemmas.Iterator.Search.{position_from_yields_List}
use Rattle.std.proofs.lemmas.Iterator.Adapters.{position_from-zero}
use borrow.Author.Tests.{tests}
use Rattle.script.specs.Reads.{printable}
use Rattle.script.proofs.Bytes.{first_found}
use Rattle.script.proofs.script.bad_byte.Goals as goal

pub returns : goal.returns
returns c =
    let t = c.args.text.now in
    position_from_yields_List (λ b. not (printable b)) _ _ _ c.position.ensures.ran (YieldsList-from_slice t cc) (λ x b q k. search (rules, tests))
    ∙ position_from-zero (λ b. not (printable b)) t
    ∙ first_found 0 t
