use Rattle.std.proofs.Common.{reverse, vec_items, sym, ◌∙◌}
use Rattle.classes.specs.Lifting.{layered_length}
use Rattle.classes.proofs.as_system.LayerSystem.tally.Goals as goal

pub returns : goal.returns
returns g c =
    let s = c.args.self.now in
    record {
      calls = c.tally.ensures.calls;
      capacity = c.tally.ensures.capacity;
      marks = c.tally.ensures.marks ∙ sym (layered_length (g.S.System.meaning s.below).marks (reverse (vec_items s.saved)) c.requires.marks);
    }
