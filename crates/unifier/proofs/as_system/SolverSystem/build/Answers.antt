use Rattle.std.proofs.Common.{ℕ, ◌≡◌, ◌-◌, Bool, true, false, ◌&&◌, ltb, List, vec_items, sym, refl, ap, ◌∙◌, subst₂, arith, le-ltb, lt-ltb}
use Rattle.std.proofs.Math.Bool.{and-false}
use Rattle.ground.specs.Heads.{gives}
use Rattle.ground.specs.declared.head.Head.{Head}
use Rattle.ground.specs.declared.sort.Labels.{Labels}
use Rattle.ground.specs.declared.sort.Sort.{Sort}
use Rattle.system.specs.Requests.{build, head_number, takes}
use Rattle.system.proofs.Takes.{both_of}
use Rattle.cells.specs.declared.What.{What}
use Rattle.cells.specs.declared.Cell.{Cell}
use Rattle.unifier.specs.States.{state_of}
use Rattle.unifier.specs.Solvers.{Grown}
use Rattle.unifier.specs.Views.{contents}
use Rattle.unifier.proofs.Answering.{refuses, grown_answer}
use Rattle.unifier.proofs.Following.{build_done, build_full}
use Rattle.unifier.proofs.as_system.SolverSystem.build.Goals as goal
use Rattle.unifier.proofs.as_system.SolverSystem.build.Goals.{then-number-via-then-number, then-number-via-else-number+then-not-suits}

takes_is : (cs ds : List (Cell ℕ)) (h : Head) (x y l : ℕ) (m : Labels) (u t : Bool) → ds ≡ cs → t ≡ takes (state_of 0 ds) h x y l m → t ≡ u → takes (state_of 0 cs) h x y l m ≡ u
takes_is cs ds h x y l m u t e p q = ap (λ (i : List (Cell ℕ)). takes (state_of 0 i) h x y l m) (sym e) ∙ sym p ∙ q

pub returns-then-number-clause-answered : goal.returns-then-number-clause-answered
returns-then-number-clause-answered g c =
    let s = c.args.self.now in
    let a = c.args in
    let n = ltb (head_number a.head) g.row.HEADS in
    let p = takes (state_of 0 (vec_items s.store.cells)) a.head a.first.0 a.second.0 a.label a.lacked in
    let unfit : (n && p) ≡ false =
    elim c.then-number.branch [
      | then-number-via-then-number w ↦ ap (λ (t : Bool). t && p) (le-ltb (head_number a.head) g.row.HEADS (omega (arith, w.if-number.true, c.number.ensures)))
      | then-number-via-else-number+then-not-suits w ↦
          ap (λ (t : Bool). n && t) (takes_is (vec_items s.store.cells) w.as_slice.result.now a.head a.first.0 a.second.0 a.label a.lacked false w.suits.result w.as_slice.ensures.value w.suits.ensures w.if-not-suits.true) ∙ and-false n
    ] in
    refuses g.row.HEADS s c.requires (build a.head a.first.0 a.second.0 a.label a.lacked) unfit refl

pub returns-clause-answered : goal.returns-clause-answered
returns-clause-answered g c =
    let s = c.args.self.now in
    let a = c.args in
    let k = takes_is (vec_items s.store.cells) c.as_slice.result.now a.head a.first.0 a.second.0 a.label a.lacked true c.suits.result c.as_slice.ensures.value c.suits.ensures c.if-not-suits.false in
    let f = both_of (ltb (head_number a.head) g.row.HEADS) (takes (state_of 0 (vec_items s.store.cells)) a.head a.first.0 a.second.0 a.label a.lacked)
    (lt-ltb (head_number a.head) g.row.HEADS (omega (arith, c.if-number.false, c.number.ensures))) k in
    grown_answer g.row.HEADS s c.grow.new.self c.requires (build a.head a.first.0 a.second.0 a.label a.lacked) (contents a.head a.first.0 a.second.0 a.label) (gives a.head a.lacked a.label)
    (build_done g.row.HEADS (s.store.limit - 1) s.calls (vec_items s.store.cells) (vec_items s.store.trail) (vec_items s.saved) c.requires a.head a.first.0 a.second.0 a.label a.lacked f)
    (build_full g.row.HEADS (s.store.limit - 1) s.calls (vec_items s.store.cells) (vec_items s.store.trail) (vec_items s.saved) c.requires a.head a.first.0 a.second.0 a.label a.lacked f)
    c.grow.result
    (subst₂ (λ (w : What ℕ) (o : Sort). Grown g.row.HEADS s w o c.grow.result c.grow.new.self) c.contents.ensures c.sort.ensures c.grow.ensures)
