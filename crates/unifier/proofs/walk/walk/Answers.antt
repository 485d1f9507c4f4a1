use Rattle.std.proofs.Common.{ℕ, [], ◌∷◌, ◌++◌, Some, refl, ◌∙◌, subst, arith, length-set}
use Rattle.cells.specs.declared.What.{What}
use Rattle.cells.specs.Cells.{Refers, stay}
use Rattle.cells.specs.Rows.{ends}
use Rattle.unifier.specs.Fine.{Proper}
use Rattle.unifier.proofs.Walking.{chain_lead, chain_show, table_more, label_new, nones_at, far_tail}
use Rattle.unifier.proofs.walk.walk.Goals as goal

pub loop-p-init : goal.loop-p-init
loop-p-init c = (c.requires.known, refl, ([], ends stay, λ k kl. nones_at 24 k))

pub loop-p-preserved-in-Link : goal.loop-p-preserved-in-Link
loop-p-preserved-in-Link c =
    let cs = c.args.cells.now in
    let i = c.loop-p.i in
    let r = subst (λ (w : What ℕ). Refers cs i w) c.in-Link.is (c.requires.fine.formed.refers i c.loop-p.invariant.0) in
    (r.0, c.loop-p.invariant.1, (c.loop-p.invariant.2.0, chain_lead cs c.loop-p.invariant.2.1 c.in-Link.is, c.loop-p.invariant.2.2))

pub loop-p-smaller : goal.loop-p-smaller
loop-p-smaller c = far_tail c.args.cells.now c.loop-p.i c.in-Row.label c.in-Row.field c.in-Row.tail c.requires.fine c.in-Row.is

pub loop-p-preserved : goal.loop-p-preserved
loop-p-preserved c =
    let cs = c.args.cells.now in
    let i = c.loop-p.i in
    let l = c.in-Row.label in
    let x = c.in-Row.field in
    let fs = c.loop-p.invariant.2.0 in
    let ch = c.loop-p.invariant.2.1 in
    let r = subst (λ (w : What ℕ). Refers cs i w) c.in-Row.is (c.requires.fine.formed.refers i c.loop-p.invariant.0) in
    let s = subst (λ (w : What ℕ). Proper w) c.in-Row.is (c.requires.fine.proper i c.loop-p.invariant.0) in (
      r.1,
      length-set c.loop-p.fields l (Some x) ∙ c.loop-p.invariant.1,
      (
        fs ++ record { label = l; field = x } ∷ [],
        chain_show cs ch c.in-Row.is,
        table_more fs c.loop-p.fields l x (label_new cs c.args.c i l x c.in-Row.tail fs c.requires.fine.formed c.requires.row ch c.in-Row.is) (omega (arith, c.loop-p.invariant.1, s.0)) c.loop-p.invariant.2.2,
      ),
    )
