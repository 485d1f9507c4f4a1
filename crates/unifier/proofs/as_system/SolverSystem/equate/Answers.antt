use Rattle.std.proofs.Common.{◌≡◌, ℕ, ◌≤◌, Bool, true, false, List, length, vec_items, vec_len, sym, refl, ap, ◌∙◌, arith, rules}
use Rattle.system.specs.Requests.{alike, equate}
use Rattle.cells.specs.declared.Cell.{Cell}
use Rattle.unifier.specs.States.{sort_in}
use Rattle.unifier.proofs.Answering.{refuses, equated, took}
use Rattle.unifier.proofs.as_system.SolverSystem.equate.Goals as goal

alike_is : (cs ds : List (Cell ℕ)) (a b : ℕ) (u t : Bool) → ds ≡ cs → t ≡ alike (sort_in ds a) (sort_in ds b) → t ≡ u → alike (sort_in cs a) (sort_in cs b) ≡ u
alike_is cs ds a b u t e p q = ap (λ (x : List (Cell ℕ)). alike (sort_in x a) (sort_in x b)) (sym e) ∙ sym p ∙ q

pub returns-then-not-are_alike-clause-answered : goal.returns-then-not-are_alike-clause-answered
returns-then-not-are_alike-clause-answered g c =
    let s = c.args.self.now in
    refuses g.row.HEADS s c.requires (equate c.args.a.0 c.args.b.0) (alike_is (vec_items s.store.cells) c.as_slice.result.now c.args.a.0 c.args.b.0 false c.are_alike.result c.as_slice.ensures.value c.are_alike.ensures c.if-not-are_alike.true) refl

pub returns : goal.returns
returns g c =
    let s = c.args.self.now in
    let t = c.equate.new.self in
    let a = c.args.a.0 in
    let b = c.args.b.0 in
    let fit = alike_is (vec_items s.store.cells) c.as_slice.result.now c.args.a.0 c.args.b.0 true c.are_alike.result c.as_slice.ensures.value c.are_alike.ensures c.if-not-are_alike.false in
    let v : vec_len t.cells ≡ length (vec_items t.cells) = search rules in
    let room : length (vec_items t.cells) ≤ t.limit = omega (arith, v, t.within) in
    let it = equated g.row.HEADS s c.requires a b fit (vec_items t.cells) (vec_items t.trail) t.limit c.equate.ensures.limit room c.equate.result c.equate.ensures.equated c.equate.ensures.means in
    let k = took g.row.HEADS s c.requires a b fit (vec_items t.cells) (vec_items t.trail) t.limit c.equate.ensures.limit room c.equate.result c.equate.ensures.equated c.equate.ensures.means in
    record { answered = it; took = k }
