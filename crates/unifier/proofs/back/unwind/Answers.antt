use Rattle.std.proofs.Common.{ℕ, ◌≡◌, List, length, drop, vec_items, vec_len, sym, ap, ◌∙◌, arith, rules}
use Rattle.std.proofs.lemmas.List.{set_past}
use Rattle.cells.specs.declared.Cell.{Cell}
use Rattle.unifier.specs.Trails.{rewound}
use Rattle.unifier.proofs.Trailing.{undo_step}
use Rattle.unifier.proofs.back.unwind.Goals as goal

pub loop-trail-preserved-then-at-len : goal.loop-trail-preserved-then-at-len
loop-trail-preserved-then-at-len c =
    let n : vec_len c.loop-trail.trail ≡ length (vec_items c.loop-trail.trail) = search rules in
    let m : vec_len c.pop.new.self ≡ length (vec_items c.pop.new.self) = search rules in
    let s = undo_step (vec_items c.loop-trail.cells) (vec_items c.loop-trail.trail) (vec_items c.pop.new.self) c.in-Some.e c.args.m c.in-Some.ensures.items (omega (arith, n, c.loop-trail-test.true, c.len.ensures)) in
    (omega (arith, m, s.0), s.1 ∙ c.loop-trail.invariant.1, s.2 ∙ c.loop-trail.invariant.2, c.loop-trail.invariant.3, c.pop.ensures.capacity ∙ c.loop-trail.invariant.4)

pub loop-trail-preserved-else-at-len : goal.loop-trail-preserved-else-at-len
loop-trail-preserved-else-at-len c =
    let cs = vec_items c.loop-trail.cells in
    let e = c.in-Some.e in
    let k : vec_len c.loop-trail.cells ≡ length (vec_items c.loop-trail.cells) = search rules in
    let n : vec_len c.loop-trail.trail ≡ length (vec_items c.loop-trail.trail) = search rules in
    let m : vec_len c.pop.new.self ≡ length (vec_items c.pop.new.self) = search rules in
    let s = undo_step cs (vec_items c.loop-trail.trail) (vec_items c.pop.new.self) e c.args.m c.in-Some.ensures.items (omega (arith, n, c.loop-trail-test.true, c.len.ensures)) in
    let p = set_past cs e.at e.was (omega (arith, k, c.if-at-len.false, c.len-in-Some.ensures)) in
    (omega (arith, m, s.0), ap (λ (l : List (Cell ℕ)). rewound l (drop c.args.m (vec_items c.pop.new.self))) (sym p) ∙ s.1 ∙ c.loop-trail.invariant.1, s.2 ∙ c.loop-trail.invariant.2, c.loop-trail.invariant.3, c.pop.ensures.capacity ∙ c.loop-trail.invariant.4)
