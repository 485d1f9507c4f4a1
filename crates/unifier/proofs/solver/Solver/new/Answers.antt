use Rattle.std.proofs.Common.{◌≡◌, ◌≤◌, [], vec_items, rules}
use Rattle.unifier.proofs.NewSolver.{new_made}
use Rattle.unifier.proofs.solver.Solver.new.Goals as goal

pub returns : goal.returns
returns g c known =
    let s = c.in_ok-store.store in
    let k = c.in_ok-store.ensures in
    let lo : 16 ≤ c.args.capacity = search rules in
    let hi : c.args.capacity ≤ 4096 = search rules in
    let es : vec_items c.in_ok-saved.saved ≡ [] = search rules in
    new_made g.row.HEADS c.args.capacity s.limit (vec_items s.cells) (vec_items s.trail) (vec_items c.in_ok-saved.saved) known lo hi k.made.2 k.made.0 k.made.1 es k.fine
