use Rattle.std.proofs.Common.{◌≡◌, ◌≤◌, arith}
use Rattle.std.proofs.lemmas.Result.{err_from_is_err_and}
use Rattle.ground.specs.ClassNumbers.{number}
use Rattle.ground.specs.declared.class.Class.{Class}
use Rattle.ground.specs.declared.class.Class.TheVariants.{Num, Ord, Eq, Steady}
use Rattle.classes.specs.Entries.{single}
use Rattle.classes.proofs.Laws.{Laws}
use Rattle.classes.proofs.Demanding.{demand_unknown, demand_bad, demand_untyped, demand_taken}
use Rattle.classes.proofs.Viewing.{known_view}
use Rattle.classes.proofs.as_system.LayerSystem.demand.Given.{Over}
use Rattle.classes.proofs.as_system.LayerSystem.demand.Goals as goal

laws : (g : Over) → Laws g.S.System
laws g = record { told = g.met.S.System.told; fine = g.met.S.System.fine; sound = g.met.S.System.sound; looked = g.met.S.System.looked }

at_most_three : (k : Class) → number k ≤ 3
at_most_three Num = omega arith
at_most_three Ord = omega arith
at_most_three Eq = omega arith
at_most_three Steady = omega arith

pub returns-in_err-look : goal.returns-in_err-look
returns-in_err-look g c =
    let q = c.in_err-look.ensures in
    let p = err_from_is_err_and c.from_residual.result c.from_residual.ensures.1 in
    let it = demand_unknown (laws g) c.args.self.now c.requires c.args.class c.args.code.0 q.0 in
    rw (p.1, p.2, q.1, q.2) (record { fine = it.1; answered = it })

pub returns-in_default : goal.returns-in_default
returns-in_default g c =
    let k = known_view g.S.Fault.Refusal.number g.S.Fault.Refusal.layer (g.S.System.rank c.args.self.now.below) (g.S.System.meaning c.args.self.now.below) c.args.code.0 _ c.in_ok-look.ensures in
    let it = demand_bad (laws g) c.args.self.now c.requires c.args.class c.args.code.0 k c.in_default.ensures in
    record { fine = it.1; answered = it }

pub returns-in_err-check_type : goal.returns-in_err-check_type
returns-in_err-check_type g c =
    let q = c.in_err-check_type.ensures.answer in
    let p = err_from_is_err_and c.from_residual-in_err-check_type.result c.from_residual-in_err-check_type.ensures.1 in
    let it = rw c.in-Ok.ensures at (demand_untyped (laws g) c.args.self.now c.requires (number c.in-Ok.class) c.args.code.0 c.check_type.new.below c.check_type.ensures.ok c.check_type.ensures.same (at_most_three c.in-Ok.class) q.0) in
    rw (p.1, p.2, q.1, q.2) (record { fine = it.1; answered = it })

pub returns : goal.returns
returns g c =
    let e : c.only.result ≡ single (number c.in-Ok.class) = c.only.ensures in
    let it = rw c.in-Ok.ensures at (demand_taken (laws g) c.args.self.now c.requires (number c.in-Ok.class) c.args.code.0 c.check_type.new.below c.check_type.ensures.ok c.check_type.ensures.same (at_most_three c.in-Ok.class) c.in_ok-check_type.ensures.answer c.take_up.ensures.few c.judge-verdict.result c.take_up.result c.own.result c.take_up.new.self c.judge-verdict.ensures (rw e at c.take_up.ensures.answer) (rw e at c.take_up.ensures.entries) c.own.ensures) in
    record { fine = it.1; answered = it }
