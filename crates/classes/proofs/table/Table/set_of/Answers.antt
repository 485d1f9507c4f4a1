use Rattle.std.proofs.Common.{eqb, rules, tests}
use Rattle.std.proofs.lemmas.Iterator.{YieldsList-from_slice}
use Rattle.std.proofs.lemmas.Iterator.Search.{find_from_yields_List}
use Rattle.classes.proofs.Placing.{found_set}
use Rattle.classes.proofs.table.Table.set_of.Goals as goal

pub returns : goal.returns
returns c =
    let e = find_from_yields_List (λ e. eqb e.code.0 c.args.code.0) _ _ c.find.result c.find.ensures.ran (YieldsList-from_slice c.args.self.now (cc)) (λ x b q k. search (rules, tests)) in
    found_set c.args.self.now c.args.code.0 c.find.result c.map_or.result e (search rules)
