use Rattle.std.proofs.Common.{vec_items}
use Rattle.unifier.specs.Sides.{Widens, Covered}
use Rattle.unifier.specs.Stores.{Later}
use Rattle.unifier.proofs.store.Store.widen.Given as goal

abbrev pub invariant-loop-label : goal.invariant-loop-label
invariant-loop-label l =
    Widens (vec_items l.initial.self.cells) l.initial.a l.initial.b (vec_items l.self.cells) l.a l.b
    × Covered (vec_items l.self.cells) l.a l.b l.label
    × Later l.initial.self l.self
