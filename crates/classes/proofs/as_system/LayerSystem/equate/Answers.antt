use Rattle.std.proofs.Common.{Ok, Err, rules}
use Rattle.std.proofs.lemmas.Result.{err_from_is_err_and}
use Rattle.std.proofs.lemmas.List.{nil_from_length}
use Rattle.system.specs.Replies.{kind_of}
use Rattle.classes.proofs.Answering.{unrefused, keep_taken, back_taken}
use Rattle.classes.proofs.Laws.{Laws}
use Rattle.classes.proofs.Equating.{equate_denied, equate_done, marked_order, tried_newest, tried_done, tried_denied}
use Rattle.classes.proofs.Marking.{mark_denied}
use Rattle.classes.proofs.as_system.LayerSystem.equate.Given.{Over}
use Rattle.classes.proofs.as_system.LayerSystem.equate.Goals as goal

laws : (g : Over) → Laws g.S.System
laws g = record { told = g.met.S.System.told; fine = g.met.S.System.fine; sound = g.met.S.System.sound; looked = g.met.S.System.looked }

pub returns-in_err-equate : goal.returns-in_err-equate
returns-in_err-equate g c =
    let p = err_from_is_err_and c.from_residual.result c.from_residual.ensures.1 in
    let it = equate_denied (laws g) c.args.self.now c.requires c.args.a.0 c.args.b.0 c.equate.new.self _ _ c.in_err-equate.ensures.answered in
    rw (p.1, p.2) (record { fine = it.1; answered = it })

pub returns-then-is_empty : goal.returns-then-is_empty
returns-then-is_empty g c =
    let it = equate_done (laws g) c.args.self.now c.requires c.args.a.0 c.args.b.0 c.equate.new.self (nil_from_length c.args.self.now.table (search rules)) c.in_ok-equate.ensures.answered in
    record { fine = it.1; answered = it }

pub returns-in_err-mark : goal.returns-in_err-mark
returns-in_err-mark g c = absurd (mark_denied (laws g) c.args.self.now c.requires c.mark.new.self _ _ c.requires.few c.in_err-mark.ensures.answered)

pub try_equate-requires-clause-order : goal.try_equate-requires-clause-order
try_equate-requires-clause-order g c = marked_order (laws g) c.args.self.now c.requires c.args.a.0 c.args.b.0 (g.S.System.depth c.in_ok-mark.mark) c.mark.new.self c.in_ok-mark.ensures.answered

pub unwrap-requires : goal.unwrap-requires
unwrap-requires g c =
    let n = tried_newest (laws g) c.args.self.now c.requires c.args.a.0 c.args.b.0 (g.S.System.depth c.in_ok-mark.mark) c.mark.new.self c.in_ok-mark.ensures.answered c.try_equate.new.below (Ok c.in-Ok.table) c.in-Ok.ensures.tried in
    unrefused c.keep.result (λ e h. keep_taken (kind_of g.S.System.HEADS g.S.System.CLASSES) _ _ _ _ _ n ((laws g).told _ _ _ _ (rw h at c.keep.ensures.answered)))

pub unwrap-requires-in-Err : goal.unwrap-requires-in-Err
unwrap-requires-in-Err g c =
    let n = tried_newest (laws g) c.args.self.now c.requires c.args.a.0 c.args.b.0 (g.S.System.depth c.in_ok-mark.mark) c.mark.new.self c.in_ok-mark.ensures.answered c.try_equate.new.below (Err c.in-Err.fault) c.in-Err.ensures.tried in
    unrefused c.back.result (λ e h. back_taken (kind_of g.S.System.HEADS g.S.System.CLASSES) _ _ _ _ _ n ((laws g).told _ _ _ _ (rw h at c.back.ensures.answered)))

pub returns-in-Ok : goal.returns-in-Ok
returns-in-Ok g c =
    let it = tried_done (laws g) c.args.self.now c.requires c.args.a.0 c.args.b.0 (g.S.System.depth c.in_ok-mark.mark) c.mark.new.self c.in_ok-mark.ensures.answered c.try_equate.new.below c.keep.new.self c.in-Ok.table c.try_equate.ensures.ok c.in-Ok.ensures.tried (rw c.unwrap.ensures at c.keep.ensures.answered) in
    record { fine = it.1; answered = it }

pub returns-in-Err : goal.returns-in-Err
returns-in-Err g c =
    let it = tried_denied (laws g) c.args.self.now c.requires c.args.a.0 c.args.b.0 (g.S.System.depth c.in_ok-mark.mark) c.mark.new.self c.in_ok-mark.ensures.answered c.try_equate.new.below c.back.new.self c.in-Err.fault c.try_equate.ensures.ok c.in-Err.ensures.tried (rw c.unwrap-in-Err.ensures at c.back.ensures.answered) in
    record { fine = it.1; answered = it }
