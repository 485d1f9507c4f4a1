use Rattle.std.proofs.Common.{◌≡◌, ℕ, ◌-◌, Bool, true, false, cond, ◌&&◌, leb, List, vec_items, sym, refl, ap, ◌∙◌, ap₂, arith, le-leb}
use Rattle.std.proofs.Math.Bool.{and-false}
use borrow.Author.Tests.{lt-leb}
use Rattle.ground.specs.declared.sort.Sort.TheVariants.{«Type» as OfType}
use Rattle.system.specs.Requests.{demand, is_of, is_known}
use Rattle.cells.specs.declared.Cell.{Cell}
use Rattle.unifier.specs.States.{sort_in}
use Rattle.unifier.proofs.Answering.{refuses}
use Rattle.unifier.proofs.FollowingMarks.{demand_none}
use Rattle.unifier.proofs.solver.Solver.refuse_demand.Goals as goal
use Rattle.unifier.proofs.solver.Solver.refuse_demand.Goals.{then-class-gt3-via-then-class-gt3, then-class-gt3-via-else-class-gt3+then-not-is_code_of}

four : (t u : Bool) → ◌≡◌ {A = ℕ} (cond t (cond u 4 4) 4) 4
four true true = refl
four true false = refl
four false u = refl

type_is : (cs ds : List (Cell ℕ)) (c : ℕ) (u t : Bool) → ds ≡ cs → t ≡ is_of (sort_in ds c) OfType → t ≡ u → is_of (sort_in cs c) OfType ≡ u
type_is cs ds c u t e p q = ap (λ (x : List (Cell ℕ)). is_of (sort_in x c) OfType) (sym e) ∙ sym p ∙ q

pub returns-then-class-gt3 : goal.returns-then-class-gt3
returns-then-class-gt3 g c =
    let s = c.args.self.now in
    let k = c.args.class in
    let known = sort_in (vec_items s.store.cells) c.args.code.0 in
    let unfit : (leb k 3 && is_of known OfType) ≡ false =
    elim c.then-class-gt3.branch [
      | then-class-gt3-via-then-class-gt3 w ↦ ap (λ (t : Bool). t && is_of known OfType) (lt-leb k 3 (omega (arith, w.if-class-gt3.true)))
      | then-class-gt3-via-else-class-gt3+then-not-is_code_of w ↦
          ap (λ (t : Bool). leb k 3 && t) (type_is (vec_items s.store.cells) w.as_slice.result.now c.args.code.0 false w.is_code_of.result w.as_slice.ensures.value w.is_code_of.ensures w.if-not-is_code_of.true) ∙ and-false (leb k 3)
    ] in
    refuses g.row.HEADS s c.requires (demand k c.args.code.0) unfit (four (is_known known) (leb k 3))

pub returns : goal.returns
returns g c =
    let s = c.args.self.now in
    let fit = type_is (vec_items s.store.cells) c.as_slice.result.now c.args.code.0 true c.is_code_of.result c.as_slice.ensures.value c.is_code_of.ensures c.if-not-is_code_of.false in
    let it = demand_none g.row.HEADS (s.store.limit - 1) s.calls (vec_items s.store.cells) (vec_items s.store.trail) (vec_items s.saved) c.requires c.args.class c.args.code.0
    (ap₂ (λ (t u : Bool). t && u) (le-leb c.args.class 3 (omega (arith, c.if-class-gt3.false))) fit) in
    it
