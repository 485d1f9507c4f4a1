use Rattle.system.specs.Replies.{kind_of}
use Rattle.system.specs.Requests.{keep, back, done}
use Rattle.calls.proofs.Levelling.{kept, undone}
use Rattle.calls.proofs.session.Session.end_mark.Goals as goal

pub returns-in-Ok-clause-level : goal.returns-in-Ok-clause-level
returns-in-Ok-clause-level g c =
    let s = c.args.self.now.system in
    let t = c.keep.new.self in
    let d = g.S.System.depth c.args.mark in
    kept (kind_of g.S.System.HEADS g.S.System.CLASSES) (g.S.System.meaning s) (g.S.System.meaning t) d c.requires.newest (g.met.S.System.told s t (keep d) done c.in-Ok.ensures.answered)

pub returns-in-Ok-back-clause-level : goal.returns-in-Ok-back-clause-level
returns-in-Ok-back-clause-level g c =
    let s = c.args.self.now.system in
    let t = c.back.new.self in
    let d = g.S.System.depth c.args.mark in
    undone (kind_of g.S.System.HEADS g.S.System.CLASSES) (g.S.System.meaning s) (g.S.System.meaning t) d c.requires.newest (g.met.S.System.told s t (back d) done c.in-Ok-back.ensures.answered)
