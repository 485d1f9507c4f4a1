use Rattle.std.proofs.lemmas.Result.{err_from_is_err_and}
use Rattle.classes.proofs.Laws.{Laws}
use Rattle.classes.proofs.Serving.{build_denied, build_ready, build_done}
use Rattle.classes.proofs.as_system.LayerSystem.build.Given.{Over}
use Rattle.classes.proofs.as_system.LayerSystem.build.Goals as goal

laws : (g : Over) → Laws g.S.System
laws g = record { told = g.met.S.System.told; fine = g.met.S.System.fine; sound = g.met.S.System.sound; looked = g.met.S.System.looked }

pub returns-in_err-code : goal.returns-in_err-code
returns-in_err-code g c =
    let p = err_from_is_err_and c.from_residual.result c.from_residual.ensures.1 in
    let it = build_denied (laws g) c.args.self.now c.requires c.build.new.self _ _ _ _ _ _ _ c.in_err-code.ensures.answered in
    rw (p.1, p.2) (record { fine = it.1; answered = it })

pub refollow-requires : goal.refollow-requires
refollow-requires g c =
    let q = build_ready (laws g) c.args.self.now c.requires c.build.new.self _ _ _ _ _ _ c.in_ok-code.ensures.answered in
    record { ok = c.build.ensures.fine; entries = q.0; met = q.1 }

pub returns : goal.returns
returns g c =
    let v = c.refollow.new.self in
    let it = build_done (laws g) c.args.self.now c.requires c.build.new.self _ _ _ _ _ _ v.table c.in_ok-code.ensures.answered c.refollow.ensures.table in
    rw (c.refollow.ensures.below, c.refollow.ensures.saved) (record { fine = it.1; answered = it })
