use Rattle.std.proofs.Common.{ℕ, List, [], ◌∷◌, ◌++◌, vec_items, sym, subst}
use Rattle.cells.specs.declared.Cell.{Cell}
use Rattle.unifier.specs.Fine.{cell_of}
use Rattle.unifier.specs.Trails.{Roomy}
use Rattle.unifier.proofs.Trailing.{since_fresh, since_room}
use Rattle.unifier.proofs.store.Store.push.Goals as goal

pub invariant_of-self-clause-roomy : goal.invariant_of-self-clause-roomy
invariant_of-self-clause-roomy c =
    let s = c.args.self.now in
    let cs = vec_items s.cells in
    let tr = vec_items s.trail in
    let k = cell_of c.args.what c.args.sort in
    subst (λ (x : List (Cell ℕ)). Roomy x tr) (sym c.push_reserved.ensures.items) (since_room cs (cs ++ k ∷ []) tr tr (since_fresh cs tr k) s.roomy)
