use Rattle.system.specs.Replies.{kind_of}
use Rattle.classes.proofs.Answering.{equated}
use Rattle.classes.specs.Lifting.{followables_more}
use Rattle.classes.proofs.trying.try_equate.Goals as goal

pub followed-requires-clause-entries : goal.followed-requires-clause-entries
followed-requires-clause-entries g c =
    let D = g.S.System in
    let s = c.args.below.now in
    let t = c.equate.new.self in
    let k = equated (kind_of D.HEADS D.CLASSES) (D.meaning s) (D.meaning t) c.args.a.0 c.args.b.0 (g.met.S.System.told s t _ _ c.in_ok-equate.ensures.answered) in
    followables_more (D.meaning s).state (D.meaning t).state c.args.table.now k.1.old c.requires.order
