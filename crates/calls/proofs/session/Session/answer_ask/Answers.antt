use Rattle.std.proofs.Common.{vec_items}
use Rattle.system.specs.Replies.{kind_of}
use Rattle.calls.proofs.Levelling.{told_level}
use Rattle.calls.proofs.session.Session.answer_ask.Goals as goal

pub returns-in-Ok-clause-level : goal.returns-in-Ok-clause-level
returns-in-Ok-clause-level g c =
    told_level g.S.System.asked g.S.Fault.Refusal.number g.S.Fault.Refusal.layer g.S.System.meaning (kind_of g.S.System.HEADS g.S.System.CLASSES) g.met.S.System.told
    c.args.self.now.system c.perform.new.system (vec_items c.args.self.now.book.made) (vec_items c.perform.new.book.made) c.args.ask c.perform.result c.perform.ensures.told

pub returns-in-Err-Refused-clause-level : goal.returns-in-Err-Refused-clause-level
returns-in-Err-Refused-clause-level g c =
    told_level g.S.System.asked g.S.Fault.Refusal.number g.S.Fault.Refusal.layer g.S.System.meaning (kind_of g.S.System.HEADS g.S.System.CLASSES) g.met.S.System.told
    c.args.self.now.system c.perform.new.system (vec_items c.args.self.now.book.made) (vec_items c.perform.new.book.made) c.args.ask c.perform.result c.perform.ensures.told

pub returns-in-Err-Memory-clause-level : goal.returns-in-Err-Memory-clause-level
returns-in-Err-Memory-clause-level g c =
    told_level g.S.System.asked g.S.Fault.Refusal.number g.S.Fault.Refusal.layer g.S.System.meaning (kind_of g.S.System.HEADS g.S.System.CLASSES) g.met.S.System.told
    c.args.self.now.system c.perform.new.system (vec_items c.args.self.now.book.made) (vec_items c.perform.new.book.made) c.args.ask c.perform.result c.perform.ensures.told
