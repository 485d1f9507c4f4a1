use Rattle.std.proofs.Common.{◌≡◌, ◌++◌}
use Rattle.stack.specs.Stacks.{held, room}
use Rattle.unifier.specs.Notes.{field_pairs}
use Rattle.unifier.proofs.note.note_fields.Given as goal

abbrev pub invariant-loop-label : goal.invariant-loop-label
invariant-loop-label l =
    (held l.pending ≡ field_pairs l.a l.b l.label ++ held l.initial.pending)
    × (room l.pending ≡ room l.initial.pending)
    × (l.pending.slots.ghost_name ≡ l.initial.pending.slots.ghost_name)
