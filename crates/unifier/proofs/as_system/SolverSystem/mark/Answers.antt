use Rattle.std.proofs.Common.{◌≡◌, ℕ, ◌-◌, List, [], ◌∷◌, ◌++◌, length, Ok, Err, Result, vec_items, sym, ◌∙◌, subst, ap, arith, rules}
use Rattle.system.specs.Faults.{system_number, system_layer}
use Rattle.system.specs.Marks.{Opened}
use Rattle.system.specs.Replies.{marked}
use Rattle.system.specs.Requests.{mark, token, fault}
use Rattle.system.specs.declared.fault.SystemFault.{SystemFault}
use Rattle.system.specs.declared.mark.Mark.{Mark}
use Rattle.unifier.specs.Solvers.{sure}
use Rattle.unifier.specs.declared.saved.Saved.{Saved}
use Rattle.unifier.specs.declared.solver.Solver.{Solver}
use Rattle.unifier.proofs.Answering.{Marks}
use Rattle.unifier.proofs.FollowingMarks.{mark_made, mark_full}
use Rattle.unifier.proofs.as_system.SolverSystem.mark.Goals as goal

-- a mark is opened where fewer than eight are open
opened : (h : ℕ) (s : Solver h) → sure h s → (n : ℕ) (o : Saved) (r : Result (Mark Saved) SystemFault) (ts : List Saved) → n ≡ 8 → Opened n (vec_items s.saved) o r ts
    → o ≡ record { cells = length (vec_items s.store.cells); trail = length (vec_items s.store.trail); calls = s.calls } → Marks h s mark (marked (λ m. m.depth) system_number system_layer r) ts
opened h s good n o (Ok m) ts w (l, e, t) p =
    let ss = vec_items s.saved in
    subst (λ (d : ℕ). Marks h s mark (token d) ts) (sym e)
    (subst (λ (i : List Saved). Marks h s mark (token (length ss)) i) (sym (t ∙ ap (λ (x : Saved). ss ++ (x ∷ [])) p))
    (mark_made h (s.store.limit - 1) s.calls (vec_items s.store.cells) (vec_items s.store.trail) ss good (omega (arith, l, w))))
opened h s good n o (Err f) ts w (l, e, t) p =
    subst (λ (i : SystemFault). Marks h s mark (fault (system_number i) (system_layer i)) ts) (sym e)
    (subst (λ (i : List Saved). Marks h s mark (fault 23 4) i) (sym t)
    (mark_full h (s.store.limit - 1) s.calls (vec_items s.store.cells) (vec_items s.store.trail) (vec_items s.saved) good (omega (arith, l, w))))

pub returns : goal.returns
returns g c =
    let s = c.args.self.now in
    let it = opened g.row.HEADS s c.requires _ _ c.open.result (vec_items c.open.new.saved) (omega (arith, s.saved_room)) c.open.ensures.opened (search rules) in
    record { fine = it.1; answered = it }
