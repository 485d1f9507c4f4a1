use Rattle.std.proofs.Common.{◌≡◌, ℕ, Ok, Err, Result, ap, ◌+◌, ◌<◌, ◌≤◌, List, ◌++◌, length, vec_items, vec_len, sym, ◌∙◌, subst, arith, rules}
use Rattle.stack.specs.Stacks.{held, room}
use Rattle.cells.specs.declared.Pair.{Pair}
use Rattle.cells.specs.Cells.{sort_at}
use Rattle.cells.specs.Rooms.{left}
use Rattle.unifier.specs.Turns.{Alike, Left, Spent, Came, Ran}
use Rattle.unifier.specs.declared.misfit.Misfit.{Misfit}
use Rattle.std.proofs.lemmas.Result.{err_from_is_err_and}
use Rattle.unifier.specs.Stores.{waits}
use Rattle.unifier.proofs.Keeping.{later_none, later_more, lasts_none, lasts_more}
use Rattle.unifier.proofs.Turning.{turned_none}
use Rattle.unifier.proofs.Running.{next_all, next_none, next_fieldly, next_free, slots, slots_next, run_err, run_turn, run_nearer}
use Rattle.unifier.proofs.store.Store.run.Goals as goal

pub loop-p-init : goal.loop-p-init
loop-p-init c =
    let s = c.args.self.now in
    let w = c.args.waiting.now in
    let q = c.requires.queued in
    (record { turned = turned_none (vec_items s.cells) (waits w); fine = q.fine; alike = q.alike }, later_none s, lasts_none w, q.fields, c.requires.slots)

pub loop-p-preserved : goal.loop-p-preserved
loop-p-preserved c =
    let s = c.args.self.now in
    let l = c.loop-p.self in
    let cs = vec_items s.cells in
    let es = vec_items l.cells in
    let ps = held c.args.waiting.now.fields ++ held c.args.waiting.now.pending in
    let fs = held c.loop-p.waiting.fields in
    let hs = held c.loop-p.waiting.pending in
    let x = c.next in
    let gs = held x.new.self.fields in
    let qs = held x.new.self.pending in
    let p = c.in-Some.p in
    let n = c.in-Some.ensures.next in
    let e = next_all fs hs gs qs p n in
    let v = c.loop-p.invariant in
    let t = c.step in
    let ds = vec_items t.new.self.cells in
    let ks = held t.new.waiting.fields in
    let rs = held t.new.waiting.pending in
    let m = c.in_ok-step.ensures.came in
    let k = subst (λ (j : ℕ). Spent j (sort_at es p.left) es qs (Ok tt) ds ks rs) v.1.limit c.in_ok-step.ensures.spent in (
      record { turned = run_turn cs ps es (fs ++ hs) p (gs ++ qs) e v.0.turned ds (ks ++ rs) m; fine = m.fine; alike = m.alike },
      later_more s l t.new.self v.1 t.ensures.later,
      lasts_more c.args.waiting.now c.loop-p.waiting t.new.waiting v.2 (lasts_more c.loop-p.waiting x.new.self t.new.waiting x.ensures.lasts t.ensures.lasts),
      k.0,
      slots_next s.limit es ds fs hs gs qs ks rs p (room c.args.waiting.now.pending) n v.3 v.4 k,
    )

pub returns-in_err-step : goal.returns-in_err-step
returns-in_err-step c =
    let s = c.args.self.now in
    let l = c.loop-p.self in
    let cs = vec_items s.cells in
    let es = vec_items l.cells in
    let ps = held c.args.waiting.now.fields ++ held c.args.waiting.now.pending in
    let fs = held c.loop-p.waiting.fields in
    let hs = held c.loop-p.waiting.pending in
    let x = c.next in
    let gs = held x.new.self.fields in
    let qs = held x.new.self.pending in
    let p = c.in-Some.p in
    let n = c.in-Some.ensures.next in
    let e = next_all fs hs gs qs p n in
    let v = c.loop-p.invariant in
    let t = c.step in
    let ds = vec_items t.new.self.cells in
    let f = err_from_is_err_and c.from_residual.result c.from_residual.ensures.1 in
    record {
      ran = subst (λ (r : Result (Unit {0}) Misfit). Ran s.limit cs ps r ds) (sym (f.1 ∙ ap Err f.2))
          (run_err cs ps es (fs ++ hs) p (gs ++ qs) e v.0.turned s.limit c.in_err-step.field-0.0 ds (held t.new.waiting.fields ++ held t.new.waiting.pending) (subst (λ (m : ℕ). Came m es p.left p.right (gs ++ qs) (Err c.in_err-step.field-0.0) ds (held t.new.waiting.fields ++ held t.new.waiting.pending)) v.1.limit c.in_err-step.ensures.came));
      later = later_more s l t.new.self v.1 t.ensures.later;
      lasts = lasts_more c.args.waiting.now c.loop-p.waiting t.new.waiting v.2 (lasts_more c.loop-p.waiting x.new.self t.new.waiting x.ensures.lasts t.ensures.lasts);
    }
