use Rattle.std.proofs.Common.{◌≡◌, ◌++◌, length, vec_items, vec_len, sym, ◌∙◌, subst, arith, rules}
use Rattle.stack.specs.Stacks.{held, room}
use Rattle.cells.specs.Steps.{pair}
use Rattle.unifier.specs.Turns.{Alike, Fieldly}
use Rattle.unifier.proofs.Trailing.{since_trail}
use Rattle.unifier.proofs.Settling.{undone, undone_room, first, first_slots, settled_done, settled_err}
use Rattle.unifier.proofs.store.Store.settle.Goals as goal

pub returns-in-Err : goal.returns-in-Err
returns-in-Err c =
    let s = c.args.self.now in
    let cs = vec_items s.cells in
    let tr = vec_items s.trail in
    let e = c.run.new.self in
    let b = c.back_to in
    let k : vec_len s.cells ≡ length (vec_items s.cells) = search rules in
    let l : vec_len s.trail ≡ length (vec_items s.trail) = search rules in
    let u = undone cs (vec_items e.cells) (vec_items b.new.self.cells) tr (vec_items e.trail) (vec_items b.new.self.trail) c.len-cells.result c.len-trail.result c.run.ensures.later.since
    (c.len-cells.ensures ∙ k) (c.len-trail.ensures ∙ l) b.ensures.cells b.ensures.trail in
    record {
      settled = settled_err s.limit cs (vec_items e.cells) (vec_items b.new.self.cells) tr (vec_items e.trail) (vec_items b.new.self.trail) c.args.a c.args.b c.in-Err.misfit (held c.over.result ++ held c.note.new.pending)
          (first (held c.over.result) (held c.over-2.result) (held c.note.new.pending) (pair c.args.a c.args.b) c.over.ensures.held c.over-2.ensures.held c.note.ensures.held) c.in-Err.ensures.ran c.run.ensures.later.since u;
      limit = b.ensures.limit ∙ c.run.ensures.later.limit;
      slots = search rules;
    }
