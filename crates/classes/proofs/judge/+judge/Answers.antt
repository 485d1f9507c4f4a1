use Rattle.classes.specs.Judging.{judged_list, judged_head, shaped_at}
use Rattle.classes.proofs.judge.+judge.Goals as goal

pub returns-in-List : goal.returns-in-List
returns-in-List g t c =
    let D = g.S.System in
    let s = c.args.below.now in
    let shape = shaped_at g.S.Fault.Refusal.number g.S.Fault.Refusal.layer (D.rank s) (D.meaning s) c.args.code.0 c.unwrap.result c.in-Built.head c.in-Built.first c.in-Built.second c.in-Built.label c.in-Built.is (rw c.unwrap.ensures at c.look.ensures) in
    judged_list (D.rank s) (D.meaning s) c.args.code.0 _ _ _ _ _ c.in-List.is shape c.judge-inner.ensures

pub returns-in_default : goal.returns-in_default
returns-in_default g t c =
    let D = g.S.System in
    let s = c.args.below.now in
    let shape = shaped_at g.S.Fault.Refusal.number g.S.Fault.Refusal.layer (D.rank s) (D.meaning s) c.args.code.0 c.unwrap.result c.in-Built.head c.in-Built.first c.in-Built.second c.in-Built.label c.in-Built.is (rw c.unwrap.ensures at c.look.ensures) in
    judged_head _ (D.rank s) (D.meaning s) c.args.code.0 _ _ _ _ _ (g.met.S.System.sound s c.requires.ok) c.requires.sort c.in_default.not-List c.members.ensures shape
