use Rattle.std.proofs.Common.{◌≡◌, ℕ, suc, ◌+◌, Result, vec_items, sym, subst, arith, rules}
use Rattle.std.proofs.lemmas.Result.{err_from_is_err_and}
use Rattle.unifier.specs.Sides.{Covered, Wide}
use Rattle.unifier.specs.declared.misfit.NoRoom.{NoRoom}
use Rattle.unifier.proofs.Keeping.{later_none, later_more}
use Rattle.unifier.proofs.Sharing.{widens_none, widens_more}
use Rattle.unifier.proofs.store.Store.widen.Goals as goal

pub loop-label-init : goal.loop-label-init
loop-label-init c =
    let s = c.args.self.now in
    (widens_none (vec_items s.cells) c.args.a.now c.args.b.now c.requires.facing, (λ k kl. absurd (let z : ⊥ = omega (arith, kl) in z)), later_none s)

pub returns-in_err-share : goal.returns-in_err-share
returns-in_err-share c =
    let s = c.args.self.now in
    let l = c.loop-label.self in
    let v = c.loop-label.invariant in
    let n = c.share.new in
    let h = c.in_err-share.ensures.shared in
    let p = err_from_is_err_and c.from_residual.result c.from_residual.ensures.1 in
    record {
      wide = subst (λ (r : Result (Unit {0}) NoRoom). Wide s.limit (vec_items s.cells) c.args.a.now c.args.b.now r (vec_items n.self.cells) n.a n.b) (sym p.1)
          (omega (arith, h.0, v.0.wide.paid, v.2.limit), omega (arith, h.1, v.2.limit));
      later = later_more s l n.self v.2 c.share.ensures.later;
    }

pub loop-label-preserved : goal.loop-label-preserved
loop-label-preserved c =
    let s = c.args.self.now in
    let l = c.loop-label.self in
    let v = c.loop-label.invariant in
    let n = c.share.new in
    let h = c.in_ok-share.ensures.shared in
    let ds = vec_items n.self.cells in (
      widens_more (vec_items s.cells) c.args.a.now c.args.b.now (vec_items l.cells) c.loop-label.a c.loop-label.b ds n.a n.b c.requires.facing v.0 h.0,
      subst (λ (k : ℕ). Covered ds n.a n.b k) (let z : suc c.loop-label.label ≡ c.loop-label.label + 1 = omega arith in z) (h.1 v.1),
      later_more s l n.self v.2 c.share.ensures.later,
    )

pub returns : goal.returns
returns c =
    let v = c.loop-label.invariant in
    let e : c.loop-label.label ≡ 24 = search rules in
    record { wide = (v.0, subst (λ (n : ℕ). Covered (vec_items c.loop-label.self.cells) c.loop-label.a c.loop-label.b n) e v.1); later = v.2 }
