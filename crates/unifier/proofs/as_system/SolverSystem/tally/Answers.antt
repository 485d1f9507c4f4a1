use Rattle.std.proofs.Common.{◌≡◌, length, vec_items, sym, refl, ◌∙◌, rules}
use Rattle.unifier.proofs.Marking.{marks_told}
use Rattle.unifier.proofs.as_system.SolverSystem.tally.Goals as goal

pub returns : goal.returns
returns g c =
    let s = c.args.self.now in
    let n : c.len.result ≡ length (vec_items s.saved) = search rules in
    record {
      calls = refl;
      capacity = refl;
      marks = n ∙ sym (marks_told (vec_items s.store.cells) (vec_items s.store.trail) (vec_items s.saved));
    }
