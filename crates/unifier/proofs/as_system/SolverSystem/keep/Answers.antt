use Rattle.std.proofs.Common.{◌≡◌, ℕ, ◌-◌, List, length, take, vec_items, sym, refl, ap, ◌∙◌, subst, arith, rules, take_all, length-append}
use Rattle.std.proofs.lemmas.List.{take-append-le}
use Rattle.system.specs.Requests.{Reply, keep, done, fault}
use Rattle.system.specs.Replies.{taken}
use Rattle.system.specs.Faults.{system_number, system_layer}
use Rattle.unifier.specs.declared.saved.Saved.{Saved}
use Rattle.unifier.proofs.Answering.{Marks, stale}
use Rattle.unifier.proofs.FollowingMarks.{keep_done}
use Rattle.unifier.proofs.as_system.SolverSystem.keep.Goals as goal

pub returns-in_err-close-clause-answered : goal.returns-in_err-close-clause-answered
returns-in_err-close-clause-answered g c =
    let s = c.args.self.now in
    let k = c.in_err-close.ensures.closed in
    let S = vec_items c.close.new.saved in
    let e : taken system_number system_layer c.from_residual.result ≡ fault 21 4 = search rules in
    let a = subst (λ (r : Reply). Marks g.row.HEADS s (keep c.args.mark.depth) r S) (sym e) (stale g.row.HEADS s c.requires (keep c.args.mark.depth) c.args.mark.depth refl refl S k.0 k.3) in
    a

pub returns : goal.returns
returns g c =
    let s = c.args.self.now in
    let ss = vec_items s.saved in
    let d = c.args.mark.depth in
    let k = c.in_ok-close.ensures.closed in
    let e : vec_items c.close.new.saved ≡ take (length ss - 1) ss = k.2 ∙ ap (λ (n : ℕ). take n ss) (omega (arith, k.0)) in
    let it = keep_done g.row.HEADS (s.store.limit - 1) s.calls (vec_items s.store.cells) (vec_items s.store.trail) ss c.requires d (record { cells = 0; trail = 0; calls = 0 }) (omega (arith, k.0)) in
    let a : (S : List Saved) → S ≡ take (length ss - 1) ss → Marks g.row.HEADS s (keep d) done S = λ S q. subst (λ (i : List Saved). Marks g.row.HEADS s (keep d) done i) (sym q) it in
    record { fine = (a _ (grind (arith, take-append-le, take_all, length-append, e))).1; answered = a _ (grind (arith, take-append-le, take_all, length-append, e)); returned = tt }
