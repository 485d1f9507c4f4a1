use Rattle.system.specs.Replies.{kind_of}
use Rattle.classes.proofs.Answering.{demand_same}
use Rattle.classes.proofs.asking.check_type.Goals as goal

pub returns-in-Err-clause-same : goal.returns-in-Err-clause-same
returns-in-Err-clause-same g c =
    let D = g.S.System in
    demand_same (kind_of D.HEADS D.CLASSES) (D.meaning c.args.below.now) (D.meaning c.demand.new.self) _ _ _ _ (g.met.S.System.told _ _ _ _ c.in-Err.ensures.answered)

pub returns-in-Err-2-clause-same : goal.returns-in-Err-2-clause-same
returns-in-Err-2-clause-same g c =
    let D = g.S.System in
    demand_same (kind_of D.HEADS D.CLASSES) (D.meaning c.args.below.now) (D.meaning c.demand.new.self) _ _ _ _ (g.met.S.System.told _ _ _ _ c.in-Err-2.ensures.answered)
