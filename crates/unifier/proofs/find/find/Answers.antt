use Rattle.std.proofs.Common.{ℕ, subst}
use Rattle.cells.specs.declared.What.{What}
use Rattle.cells.specs.Cells.{Refers, stay, on}
use Rattle.unifier.proofs.find.find.Goals as goal

pub loop-i-init : goal.loop-i-init
loop-i-init c = (c.requires.known, stay)

pub loop-i-preserved : goal.loop-i-preserved
loop-i-preserved c =
    let cs = c.args.cells.now in
    let i = c.loop-i.i in
    let r = subst (λ (w : What ℕ). Refers cs i w) c.in-Link.is (c.requires.formed.refers i c.loop-i.invariant.0) in
    (r.0, on c.loop-i.invariant.1 c.in-Link.is)
