use Rattle.std.proofs.Common.{◌≡◌, Err, vec_items, rules}
use Rattle.system.specs.Requests.{keep}
use Rattle.model.proofs.Following.{unspent, keep_answer, keep_refused}
use Rattle.model.proofs.as_system.ModelSystem.keep.Goals as goal

pub returns-in_err-close-clause-answered : goal.returns-in_err-close-clause-answered
returns-in_err-close-clause-answered c =
    let s = c.args.self.now in
    let e : c.from_residual.result ≡ Err c.in_err-close.field-0.0 = search rules in
    unspent s.codes (vec_items s.saved) c.requires c.args.mark (keep c.args.mark.depth) c.in_err-close.field-0.0 c.from_residual.result (vec_items c.close.new.saved) c.in_err-close.ensures.closed e
    (keep_refused s.codes.limit s.codes.cells s.codes.binds (vec_items s.saved) c.requires c.args.mark.depth)

pub returns-clause-answered : goal.returns-clause-answered
returns-clause-answered c =
    let s = c.args.self.now in
    let w = c.in_ok-close.ensures.closed in
    keep_answer s.codes (vec_items s.saved) c.requires c.args.mark _ _ (w.0, w.1, search rules)

pub returns-clause-fine : goal.returns-clause-fine
returns-clause-fine c =
    let s = c.args.self.now in
    let w = c.in_ok-close.ensures.closed in
    (keep_answer s.codes (vec_items s.saved) c.requires c.args.mark _ _ (w.0, w.1, search rules)).1
