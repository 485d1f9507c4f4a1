use Rattle.std.proofs.Common.{◌≡◌, ◌<◌, length, vec_items, ◌∙◌, arith, rules}
use Rattle.std.proofs.lemmas.List.{length-reverse}
use Rattle.classes.proofs.Laws.{Laws}
use Rattle.classes.proofs.Marking.{popped, mark_full, mark_denied, mark_done}
use Rattle.classes.proofs.as_system.LayerSystem.mark.Given.{Over}
use Rattle.classes.proofs.as_system.LayerSystem.mark.Goals as goal

laws : (g : Over) → Laws g.S.System
laws g = record { told = g.met.S.System.told; fine = g.met.S.System.fine; sound = g.met.S.System.sound; looked = g.met.S.System.looked }

pub returns-then-len-eq-MOST_MARKS : goal.returns-then-len-eq-MOST_MARKS
returns-then-len-eq-MOST_MARKS g c =
    let s = c.args.self.now in
    let l : length (vec_items s.saved) ≡ 7 = search rules in
    let it = mark_full (laws g) s c.requires s.below (length-reverse (vec_items s.saved) ∙ l) in
    record { fine = it.1; answered = it }

pub returns-in_err-mark : goal.returns-in_err-mark
returns-in_err-mark g c = absurd (mark_denied (laws g) c.args.self.now c.requires c.mark.new.self _ _ c.requires.few c.in_err-mark.ensures.answered)

pub returns : goal.returns
returns g c =
    let s = c.args.self.now in
    let ts = vec_items s.saved in
    let b : length ts < 7 = search rules in
    let it = mark_done (laws g) s c.requires c.mark.new.self _ (omega (arith, b, length-reverse ts)) c.in_ok-mark.ensures.answered in
    rw (popped c.push_reserved.new.self.items ts s.table c.push_reserved.ensures.items) (record { fine = it.1; answered = it })
