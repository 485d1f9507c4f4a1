use Rattle.std.proofs.Common.{Result, ◌≡◌, ◌+◌, ◌<◌, ◌≤◌, length, set, vec_items, sym, ◌∙◌, subst, arith, rules}
use Rattle.std.proofs.lemmas.List.{get_or_read}
use Rattle.std.proofs.lemmas.Result.{err_from_is_err_and}
use Rattle.unifier.specs.declared.cycle.Cycle.{Cycle}
use Rattle.unifier.specs.Marks.{at, Walked}
use Rattle.unifier.proofs.Marked.{over_child, over_left, over_right, timed_none, timed_enter, went_walkable, again, enter_closed, enter_left, enter_tops, leave, leave_done}
use Rattle.unifier.proofs.seen.Seen.+below_visit.Goals as goal

pub below-visit-requires-in-Link : goal.below-visit-requires-in-Link
below-visit-requires-in-Link t c =
    let ms = vec_items c.args.self.now.marks in
    let o = over_child c.args.cells.now c.args.base ms ms c.args.c c.requires.walkable.fine c.requires.known c.requires.tops (λ j u. u) c.in-Link.x c.in-Link.is in
    (search rules, (c.requires.walkable, o))

pub below-visit-requires : goal.below-visit-requires
below-visit-requires t c =
    let ms = vec_items c.args.self.now.marks in
    let o = over_left c.args.cells.now c.args.base ms ms c.args.c c.requires.walkable.fine c.requires.known c.requires.tops (λ j u. u) c.in-Two.x c.in-Two.y c.in-Two.is in
    (search rules, (c.requires.walkable, o))

pub below-visit-requires-in-Two : goal.below-visit-requires-in-Two
below-visit-requires-in-Two t c =
    let ms = vec_items c.args.self.now.marks in
    let ns = vec_items c.visit.new.self.marks in
    let w = c.in_ok-visit-in-Two.ensures.0 in
    let o = over_right c.args.cells.now c.args.base ms ns c.args.c c.requires.walkable.fine c.requires.known c.requires.tops w.under_was c.in-Two.x c.in-Two.y c.in-Two.is in
    (search rules, (went_walkable c.args.cells.now c.args.base ms ns c.args.self.now.clock c.visit.new.self.clock c.requires.walkable w, o))

pub visit-returns-then-m-base-2 : goal.visit-returns-then-m-base-2
visit-returns-then-m-base-2 t c =
    let cs = c.args.cells.now in
    let s = c.args.self.now in
    let ms = vec_items s.marks in
    let b = c.args.base in
    let lt : c.args.c < length (vec_items s.marks) = omega (arith, c.requires.walkable.sized, c.requires.known) in
    let e = get_or_read (vec_items s.marks) c.args.c c.index-m.result.now lt c.index-m.ensures 0 in
    (again cs b ms c.args.c c.requires.over (sym e ∙ c.if-m-base-2.true), timed_none cs b ms s.clock c.requires.walkable.closed)

pub visit-below-requires : goal.visit-below-requires
visit-below-requires t c =
    let cs = c.args.cells.now in
    let s = c.args.self.now in
    let ms = vec_items s.marks in
    let b = c.args.base in
    let lt : c.args.c < length (vec_items s.marks) = omega (arith, c.requires.walkable.sized, c.requires.known) in
    let e = get_or_read (vec_items s.marks) c.args.c c.index-m.result.now lt c.index-m.ensures 0 in
    let white : at (vec_items s.marks) c.args.c ≤ c.args.base = omega (arith, e, c.if-m-base.false, c.if-m-base-2.false) in
    let left = enter_left cs b ms s.clock c.args.c lt c.requires.walkable.closed white in
    let same : length (set ms c.args.c (b + 1)) ≡ length ms = lib.ListN.length-set ms c.args.c (b + 1) in
    let k = c.requires.walkable in (
      search rules,
      (
        record { fine = k.fine; sized = omega (arith, same, k.sized); closed = enter_closed cs b ms s.clock c.args.c lt k.closed white; fits = omega (arith, left, k.fits) },
        (c.requires.known, enter_tops cs b ms s.clock c.args.c lt k.closed white c.requires.over),
      ),
    )

pub visit-overflow_add-self : goal.visit-overflow_add-self
visit-overflow_add-self t c =
    let cs = c.args.cells.now in
    let s = c.args.self.now in
    let ms = vec_items s.marks in
    let b = c.args.base in
    let lt : c.args.c < length (vec_items s.marks) = omega (arith, c.requires.walkable.sized, c.requires.known) in
    let e = get_or_read (vec_items s.marks) c.args.c c.index-m.result.now lt c.index-m.ensures 0 in
    let white : at (vec_items s.marks) c.args.c ≤ c.args.base = omega (arith, e, c.if-m-base.false, c.if-m-base-2.false) in
    let n = c.below.new.self in
    let w = c.in_ok-below.ensures in
    let left = enter_left cs b ms s.clock c.args.c lt c.requires.walkable.closed white in
    let u : n.clock < 9223372036854775808 = omega (arith, left, w.0.clock, c.requires.walkable.fits) in
    search rules

pub visit-returns : goal.visit-returns
visit-returns t c =
    let cs = c.args.cells.now in
    let s = c.args.self.now in
    let ms = vec_items s.marks in
    let b = c.args.base in
    let lt : c.args.c < length (vec_items s.marks) = omega (arith, c.requires.walkable.sized, c.requires.known) in
    let e = get_or_read (vec_items s.marks) c.args.c c.index-m.result.now lt c.index-m.ensures 0 in
    let white : at (vec_items s.marks) c.args.c ≤ c.args.base = omega (arith, e, c.if-m-base.false, c.if-m-base-2.false) in
    let n = c.below.new.self in
    let w = c.in_ok-below.ensures in (
      leave cs b ms s.clock c.args.c lt c.requires.walkable.closed white (vec_items n.marks) n.clock w.0 w.1,
      leave_done cs b ms s.clock c.args.c lt c.requires.walkable.closed white (vec_items n.marks) n.clock w.0 w.1,
    )

pub visit-returns-in_err-below : goal.visit-returns-in_err-below
visit-returns-in_err-below t c =
    let cs = c.args.cells.now in
    let s = c.args.self.now in
    let ms = vec_items s.marks in
    let b = c.args.base in
    let lt : c.args.c < length (vec_items s.marks) = omega (arith, c.requires.walkable.sized, c.requires.known) in
    let e = get_or_read (vec_items s.marks) c.args.c c.index-m.result.now lt c.index-m.ensures 0 in
    let white : at (vec_items s.marks) c.args.c ≤ c.args.base = omega (arith, e, c.if-m-base.false, c.if-m-base-2.false) in
    let n = c.below.new.self in
    let w = c.in_err-below.ensures in
    let p = err_from_is_err_and c.from_residual.result c.from_residual.ensures.1 in
    subst (λ (r : Result (Unit {0}) Cycle). Walked cs b ms s.clock c.args.c r (vec_items n.marks) n.clock) (sym p.1)
    (w.0, timed_enter b ms (vec_items n.marks) s.clock n.clock c.args.c (enter_left cs b ms s.clock c.args.c lt c.requires.walkable.closed white) w.1)
