use Rattle.std.proofs.Common.{◌≡◌, length, vec_items, vec_len, arith, rules}
use Rattle.std.proofs.lemmas.List.{length-reverse}
use Rattle.std.proofs.lemmas.Result.{err_from_is_err_and}
use Rattle.classes.proofs.Laws.{Laws}
use Rattle.classes.proofs.Serving.{handed, untouched}
use Rattle.classes.proofs.Marking.{back_denied, back_some, back_done, newest}
use Rattle.classes.proofs.as_system.LayerSystem.back.Given.{Over}
use Rattle.classes.proofs.as_system.LayerSystem.back.Goals as goal

laws : (g : Over) → Laws g.S.System
laws g = record { told = g.met.S.System.told; fine = g.met.S.System.fine; sound = g.met.S.System.sound; looked = g.met.S.System.looked }

pub returns-in_err-map_err : goal.returns-in_err-map_err
returns-in_err-map_err g c =
    let x = handed c.back.result c.map_err.result c.in_err-map_err.field-0.0 (search rules) c.in_err-map_err.was in
    let p = err_from_is_err_and c.from_residual.result c.from_residual.ensures.1 in
    let it = back_denied (laws g) c.args.self.now c.requires c.back.new.self _ _ _ (rw x.1 at c.back.ensures.answered) in
    rw (p.1, p.2, x.2) (record { fine = it.1; answered = it; returned = rw x.1 at c.back.ensures.returned })

pub overflow_sub-newest : goal.overflow_sub-newest
overflow_sub-newest g c =
    let ts = vec_items c.args.self.now.saved in
    let done = untouched c.back.result c.map_err.result (search rules) c.in_ok-map_err.was in
    let some = back_some (laws g) c.args.self.now c.requires c.back.new.self _ (rw done at c.back.ensures.answered) in
    let l : c.len-newest.result ≡ length ts = search rules in
    omega (arith, some, l, length-reverse ts)

pub index-requires : goal.index-requires
index-requires g c =
    let ts = vec_items c.args.self.now.saved in
    let done = untouched c.back.result c.map_err.result (search rules) c.in_ok-map_err.was in
    let some = back_some (laws g) c.args.self.now c.requires c.back.new.self _ (rw done at c.back.ensures.answered) in
    let v : vec_len c.args.self.now.saved ≡ length ts = search rules in
    omega (arith, some, v, c.len-newest.ensures, length-reverse ts)

pub returns : goal.returns
returns g c =
    let ts = vec_items c.args.self.now.saved in
    let done = untouched c.back.result c.map_err.result (search rules) c.in_ok-map_err.was in
    let some = back_some (laws g) c.args.self.now c.requires c.back.new.self _ (rw done at c.back.ensures.answered) in
    let l : c.len-newest.result ≡ length ts = search rules in
    let x = newest ts c.truncate.new.self.items c.len-newest.result c.index.result.now c.index.result.now some l c.index.ensures c.truncate.ensures.items in
    let it = back_done (laws g) c.args.self.now c.requires c.back.new.self _ _ _ x (rw done at c.back.ensures.answered) in
    record { fine = it.1; answered = it; returned = tt }
