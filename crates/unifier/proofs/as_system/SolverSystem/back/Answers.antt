use Rattle.std.proofs.Common.{◌≡◌, ℕ, ◌-◌, length, get_or, take, vec_items, sym, refl, ap, ◌∙◌, subst, arith, rules}
use Rattle.system.specs.Requests.{Reply, back, done, fault}
use Rattle.system.specs.Replies.{taken}
use Rattle.system.specs.Faults.{system_number, system_layer}
use Rattle.unifier.specs.declared.saved.Saved.{Saved}
use Rattle.unifier.specs.States.{cells_at, trail_at}
use Rattle.unifier.proofs.Answering.{Marks, stale, moved}
use Rattle.unifier.proofs.FollowingMarks.{back_done}
use Rattle.unifier.proofs.as_system.SolverSystem.back.Goals as goal

pub returns-in_err-saved-clause-answered : goal.returns-in_err-saved-clause-answered
returns-in_err-saved-clause-answered g c =
    let s = c.args.self.now in
    let k = c.in_err-saved.ensures.closed in
    let S = vec_items c.close.new.saved in
    let e : taken system_number system_layer c.from_residual.result ≡ fault 21 4 = search rules in
    let a = subst (λ (r : Reply). Marks g.row.HEADS s (back c.args.mark.depth) r S) (sym e) (stale g.row.HEADS s c.requires (back c.args.mark.depth) c.args.mark.depth refl refl S k.0 k.3) in
    a

pub returns-clause-answered : goal.returns-clause-answered
returns-clause-answered g c =
    let s = c.args.self.now in
    let cs = vec_items s.store.cells in
    let tr = vec_items s.store.trail in
    let ss = vec_items s.saved in
    let d = c.args.mark.depth in
    let x = c.in_ok-saved.saved in
    let b = c.back_to.new.self in
    let k = c.in_ok-saved.ensures.closed in
    let n : d ≡ length ss - 1 = omega (arith, k.0) in
    let last = get_or ss (length ss - 1) x in
    let l : x ≡ last = k.1 ∙ ap (λ (i : ℕ). get_or ss i x) n in
    let a = moved g.row.HEADS s (back d) done last.calls (cells_at cs tr last) (trail_at tr last) (take (length ss - 1) ss)
    b.limit x.calls (vec_items b.cells) (vec_items b.trail) (vec_items c.close.new.saved)
    (back_done g.row.HEADS (s.store.limit - 1) s.calls cs tr ss c.requires d x (omega (arith, k.0)))
    c.back_to.ensures.limit (ap (λ (i : Saved). i.calls) l) (c.back_to.ensures.cells ∙ ap (cells_at cs tr) l) (c.back_to.ensures.trail ∙ ap (trail_at tr) l) (k.2 ∙ ap (λ (i : ℕ). take i ss) n) in
    a
