use Rattle.std.proofs.Common.{◌≡◌, reverse, length, vec_items, sym, ◌∙◌, rules}
use lib.ListN.{length-reverse}
use Rattle.model.proofs.Marking.{states_length}
use Rattle.model.proofs.as_system.ModelSystem.tally.Goals as goal

pub returns : goal.returns
returns c =
    let s = c.args.self.now in
    let n : c.len.result ≡ length (vec_items s.saved) = search rules in
    record {
      calls = search rules;
      capacity = c.limit.ensures.limit;
      marks = n ∙ sym (length-reverse (vec_items s.saved)) ∙ sym (states_length s.codes.cells s.codes.binds (reverse (vec_items s.saved)));
    }
