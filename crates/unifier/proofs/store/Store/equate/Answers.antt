use Rattle.std.proofs.Common.{◌≡◌, length, Ok, Err, Result, vec_items, vec_len, sym, ap, ◌∙◌, subst, arith, rules}
use Rattle.unifier.specs.Fine.{Fine}
use Rattle.unifier.specs.Marks.{Cyclic}
use Rattle.unifier.proofs.Trailing.{since_trail}
use Rattle.unifier.proofs.Settling.{undone, undone_room}
use Rattle.system.specs.declared.fault.SystemFault.{SystemFault}
use Rattle.system.specs.declared.fault.SystemFault.TheVariants.{Cyclic as PartOfItself}
use Rattle.unifier.specs.Misfits.{misfit_fault}
use Rattle.std.proofs.lemmas.Result.{err_from_is_err_and}
use Rattle.unifier.specs.Equated.{Equated}
use Rattle.unifier.proofs.Meaning.{meaning}
use Rattle.unifier.proofs.Equating.{known_cells, known_trail, within, fall, misfitted}
use Rattle.unifier.proofs.store.Store.equate.Goals as goal

pub acyclic-requires : goal.acyclic-requires
acyclic-requires c =
    let s = c.args.self.now in
    let d = c.settle.new.self in
    let g = c.in_ok-settle.ensures.settled in
    let k : vec_len s.cells ≡ length (vec_items s.cells) = search rules in
    let l : vec_len s.trail ≡ length (vec_items s.trail) = search rules in
    let v : vec_len d.cells ≡ length (vec_items d.cells) = search rules in
    let ex = c.as_slice.ensures.value in
    let ey = c.as_slice-2.ensures.value in
    record {
      fine = subst Fine (sym ex) g.0.fine;
      cells = known_cells (vec_items s.cells) (vec_items d.cells) _ (vec_items s.trail) (vec_items d.trail) _ c.len-cells.result c.len-trail.result ex ey (c.len-cells.ensures ∙ k) (c.len-trail.ensures ∙ l) g.1;
      trail = known_trail (vec_items s.cells) (vec_items d.cells) _ (vec_items s.trail) (vec_items d.trail) _ c.len-cells.result c.len-trail.result ex ey (c.len-cells.ensures ∙ k) (c.len-trail.ensures ∙ l) g.1;
      within = within (vec_items s.cells) (vec_items d.cells) _ (vec_items s.trail) (vec_items d.trail) _ c.len-cells.result c.len-trail.result ex ey (c.len-cells.ensures ∙ k) (c.len-trail.ensures ∙ l) g.1;
      sized = omega (arith, ap length ex, v, d.within, c.settle.ensures.limit, c.rewind.ensures.sized, c.requires.sized);
      fits = omega (arith, c.rewind.ensures.clock, c.rewind.ensures.sized, c.requires.sized, s.small);
    }

pub returns : goal.returns
returns c =
    let s = c.args.self.now in
    let d = c.settle.new.self in
    let g = c.in_ok-settle.ensures.settled in
    let k : vec_len s.cells ≡ length (vec_items s.cells) = search rules in
    let l : vec_len s.trail ≡ length (vec_items s.trail) = search rules in
    let w = c.in_default.ensures in
    let a = c.acyclic.new.self in
    let e : Equated s.limit (vec_items s.cells) (vec_items s.trail) c.args.a c.args.b (Ok tt) (vec_items d.cells) (vec_items d.trail) = (
      g.0,
      g.1,
      fall (vec_items s.cells) (vec_items d.cells) _ (vec_items s.trail) (vec_items d.trail) _ c.len-cells.result c.len-trail.result c.as_slice.ensures.value c.as_slice-2.ensures.value (c.len-cells.ensures ∙ k) (c.len-trail.ensures ∙ l) g.1
          c.rewind.new.self.clock a.clock (vec_items a.marks) w.0 w.1 w.2,
    ) in
    record {
      equated = e;
      means = meaning s.limit (vec_items s.cells) (vec_items s.trail) c.args.a c.args.b c.requires.fine c.requires.peers.left c.requires.peers.right c.requires.peers.sorts (Ok tt) (vec_items d.cells) (vec_items d.trail) e;
      limit = c.settle.ensures.limit;
      sized = w.3.same ∙ c.rewind.ensures.sized ∙ c.requires.sized;
    }

pub returns-in-Err : goal.returns-in-Err
returns-in-Err c =
    let s = c.args.self.now in
    let d = c.settle.new.self in
    let g = c.in_ok-settle.ensures.settled in
    let k : vec_len s.cells ≡ length (vec_items s.cells) = search rules in
    let l : vec_len s.trail ≡ length (vec_items s.trail) = search rules in
    let w = c.in-Err.ensures in
    let b = c.back_to in
    let u = undone (vec_items s.cells) (vec_items d.cells) (vec_items b.new.self.cells) (vec_items s.trail) (vec_items d.trail) (vec_items b.new.self.trail) c.len-cells.result c.len-trail.result g.1
    (c.len-cells.ensures ∙ k) (c.len-trail.ensures ∙ l) b.ensures.cells b.ensures.trail in
    let e : Equated s.limit (vec_items s.cells) (vec_items s.trail) c.args.a c.args.b (Err PartOfItself) (vec_items b.new.self.cells) (vec_items b.new.self.trail) =
    ((vec_items d.cells, g.0, subst Cyclic c.as_slice.ensures.value w.0), u.0, u.1) in
    record {
      equated = e;
      means = meaning s.limit (vec_items s.cells) (vec_items s.trail) c.args.a c.args.b c.requires.fine c.requires.peers.left c.requires.peers.right c.requires.peers.sorts (Err PartOfItself) (vec_items b.new.self.cells) (vec_items b.new.self.trail) e;
      limit = b.ensures.limit ∙ c.settle.ensures.limit;
      sized = w.1.same ∙ c.rewind.ensures.sized ∙ c.requires.sized;
    }

pub returns-in_err-settle : goal.returns-in_err-settle
returns-in_err-settle c =
    let s = c.args.self.now in
    let d = c.settle.new.self in
    let f = err_from_is_err_and c.from_residual.result c.from_residual.ensures.1 in
    let q : c.from_residual.result ≡ Err (misfit_fault c.in_err-settle.field-0.0) = f.1 ∙ ap Err f.2 in
    let e : Equated s.limit (vec_items s.cells) (vec_items s.trail) c.args.a c.args.b c.from_residual.result (vec_items d.cells) (vec_items d.trail) =
    subst (λ (r : Result (Unit {0}) SystemFault). Equated s.limit (vec_items s.cells) (vec_items s.trail) c.args.a c.args.b r (vec_items d.cells) (vec_items d.trail)) (sym q)
    (misfitted s.limit (vec_items s.cells) (vec_items d.cells) (vec_items s.trail) (vec_items d.trail) c.args.a c.args.b c.in_err-settle.field-0.0 c.in_err-settle.ensures.settled) in
    record {
      equated = e;
      means = meaning s.limit (vec_items s.cells) (vec_items s.trail) c.args.a c.args.b c.requires.fine c.requires.peers.left c.requires.peers.right c.requires.peers.sorts c.from_residual.result (vec_items d.cells) (vec_items d.trail) e;
      limit = c.settle.ensures.limit;
      sized = c.requires.sized;
    }
