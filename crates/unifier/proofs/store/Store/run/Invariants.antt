use Rattle.std.proofs.Common.{◌+◌, ◌≤◌, ◌++◌, length, vec_items}
use Rattle.stack.specs.Stacks.{held, room}
use Rattle.cells.specs.Rooms.{left}
use Rattle.unifier.specs.Stores.{Later, Lasts}
use Rattle.unifier.specs.Turns.{Fieldly, Left, trees}
use Rattle.unifier.proofs.store.Store.run.Given as goal

abbrev pub invariant-loop-p : goal.invariant-loop-p
invariant-loop-p l =
    Left 0 (vec_items l.initial.self.cells) (held l.initial.waiting.fields ++ held l.initial.waiting.pending) (vec_items l.self.cells) (held l.waiting.fields ++ held l.waiting.pending)
    × Later l.initial.self l.self
    × Lasts l.initial.waiting l.waiting
    × Fieldly (vec_items l.self.cells) (held l.waiting.fields)
    × (length (held l.waiting.pending) + 1 + trees l.initial.self.limit (vec_items l.self.cells) ≤ room l.initial.waiting.pending)

abbrev pub decreases-loop-p : goal.decreases-loop-p
decreases-loop-p l = left l.self.limit (length (held l.waiting.fields ++ held l.waiting.pending)) (vec_items l.self.cells)
