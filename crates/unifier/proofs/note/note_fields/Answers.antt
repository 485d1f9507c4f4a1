use Rattle.std.proofs.Common.{length, ap, arith, length-append}
use Rattle.stack.specs.Stacks.{held}
use Rattle.unifier.specs.Notes.{field_pairs}
use Rattle.unifier.proofs.Noting.{field_pairs_length}
use Rattle.unifier.proofs.note.note_fields.Goals as goal

pub note_field-requires : goal.note_field-requires
note_field-requires c =
    let a = c.args.a.now in
    let b = c.args.b.now in
    let l = c.loop-label.label in
    omega (arith, c.requires, c.loop-label-test.true, c.loop-label.invariant.1, ap length c.loop-label.invariant.0, length-append (field_pairs a b l) (held c.args.pending.now), field_pairs_length a b l)
