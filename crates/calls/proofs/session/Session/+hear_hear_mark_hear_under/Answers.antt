use Rattle.system.specs.Replies.{kind_of}
use Rattle.system.specs.Requests.{mark, token, fault}
use Rattle.calls.proofs.Levelling.{still_newest, not_opened}
use Rattle.calls.proofs.session.Session.+hear_hear_mark_hear_under.Goals as goal

pub hear_mark-end_mark-requires-clause-newest : goal.hear_mark-end_mark-requires-clause-newest
hear_mark-end_mark-requires-clause-newest g t c =
    let s = c.args.self.now.system in
    let n = c.mark.new.self in
    let d = g.S.System.depth c.in-Ok.mark in
    still_newest (kind_of g.S.System.HEADS g.S.System.CLASSES) (g.S.System.meaning s) (g.S.System.meaning n) (g.S.System.meaning c.hear_under-heard.new.self.system) d
    (g.met.S.System.told s n mark (token d) c.in-Ok.ensures.answered) c.hear_under-heard.ensures.level

pub hear_mark-returns-in_err-fault-in-Err-clause-level : goal.hear_mark-returns-in_err-fault-in-Err-clause-level
hear_mark-returns-in_err-fault-in-Err-clause-level g t c =
    let s = c.args.self.now.system in
    let n = c.mark.new.self in
    let f = g.S.Fault.Refusal.number c.in-Err.fault in
    let l = g.S.Fault.Refusal.layer c.in-Err.fault in
    not_opened (kind_of g.S.System.HEADS g.S.System.CLASSES) (g.S.System.meaning s) (g.S.System.meaning n) f l (g.met.S.System.told s n mark (fault f l) c.in-Err.ensures.answered)

pub hear_mark-returns-in_ok-fault-in-Err-clause-level : goal.hear_mark-returns-in_ok-fault-in-Err-clause-level
hear_mark-returns-in_ok-fault-in-Err-clause-level g t c =
    let s = c.args.self.now.system in
    let n = c.mark.new.self in
    let f = g.S.Fault.Refusal.number c.in-Err.fault in
    let l = g.S.Fault.Refusal.layer c.in-Err.fault in
    not_opened (kind_of g.S.System.HEADS g.S.System.CLASSES) (g.S.System.meaning s) (g.S.System.meaning n) f l (g.met.S.System.told s n mark (fault f l) c.in-Err.ensures.answered)
