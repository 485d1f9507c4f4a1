use Rattle.std.proofs.Common.{ap, eqb, ◌∙◌, rules, tests}
use Rattle.std.proofs.lemmas.Iterator.{YieldsList-from_slice}
use Rattle.std.proofs.lemmas.Iterator.Search.{find_from_yields_List}
use Rattle.model.specs.Stock.{Stock}
use Rattle.model.proofs.codes.Codes.bind_of.Goals as goal

pub returns : goal.returns
returns c =
    c.copied.ensures
    ∙ find_from_yields_List (λ b. eqb b.from c.args.code) c.find.new.self _ c.find.result c.find.ensures.ran
    (YieldsList-from_slice c.args.self.now.binds (c.iter.ensures.rest ∙ c.deref.ensures.value ∙ ap (λ (s : Stock). s.binds) c.self.view_is)) (λ x b q k. search (rules, tests))
