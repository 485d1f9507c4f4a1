use Rattle.std.proofs.Common.{◌≡◌, Err, vec_items, rules}
use Rattle.system.specs.Requests.{back}
use Rattle.model.proofs.Following.{unspent, back_answer, back_refused}
use Rattle.model.proofs.as_system.ModelSystem.back.Goals as goal

pub returns-in_err-size-clause-answered : goal.returns-in_err-size-clause-answered
returns-in_err-size-clause-answered c =
    let s = c.args.self.now in
    let e : c.from_residual.result ≡ Err c.in_err-size.field-0.0 = search rules in
    unspent s.codes (vec_items s.saved) c.requires c.args.mark (back c.args.mark.depth) c.in_err-size.field-0.0 c.from_residual.result (vec_items c.close.new.saved) c.in_err-size.ensures.closed e
    (back_refused s.codes.limit s.codes.cells s.codes.binds (vec_items s.saved) c.requires c.args.mark.depth)

pub returns : goal.returns
returns c =
    let s = c.args.self.now in
    let it = back_answer s.codes (vec_items s.saved) c.requires c.args.mark c.in_ok-size.size c.back_to.new.self (vec_items c.close.new.saved) c.in_ok-size.ensures.closed c.back_to.ensures in
    record { fine = it.1; answered = it; returned = tt }
