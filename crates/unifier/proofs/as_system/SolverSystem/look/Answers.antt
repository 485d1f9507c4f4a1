use Rattle.std.proofs.Common.{◌≡◌, ℕ, suc, ◌-◌, ◌<◌, List, length, Ok, vec_items, vec_len, sym, refl, ap, ◌∙◌, subst, arith, rules}
use Rattle.std.proofs.lemmas.List.{get_or_read}
use Rattle.system.specs.Faults.{system_number, system_layer}
use Rattle.system.specs.Replies.{Looked}
use Rattle.system.specs.declared.fault.SystemFault.{SystemFault}
use Rattle.system.specs.declared.view.View.{View}
use Rattle.cells.specs.declared.Cell.{Cell}
use Rattle.cells.specs.Cells.{none, what_at, Root, Leads}
use Rattle.unifier.specs.Solvers.{means, height}
use Rattle.unifier.specs.LookAnswer.{look_answer}
use Rattle.unifier.proofs.as_system.SolverSystem.look.Goals as goal

pub returns : goal.returns
returns g c =
    let s = c.args.self.now in
    let cs = vec_items s.store.cells in
    let k = c.args.code.0 in
    let r = c.find-root.result in
    let f = c.find-root.ensures in
    let ex = c.as_slice.ensures.value in
    let v : vec_len s.store.cells ≡ length (vec_items s.store.cells) = search rules in
    let cp : 0 < c.args.code.0 = search rules in
    let cl : c.args.code.0 < length (vec_items s.store.cells) = search rules in
    let rl : r < length cs = subst (λ (x : List (Cell ℕ)). r < length x) ex f.known in
    let e : c.index.result.now.what ≡ what_at cs r = ap (λ (x : Cell ℕ). x.what) (get_or_read cs r c.index.result.now rl c.index.ensures none) in
    let a = look_answer g.row.HEADS (s.store.limit - 1) s.calls cs (vec_items s.store.trail) (vec_items s.saved) c.requires k r cp cl rl (subst (λ (x : List (Cell ℕ)). Leads x k r) ex f.leads) (what_at cs r) refl (subst (λ (x : List (Cell ℕ)). Root (what_at x r)) ex f.root) in
    let one : suc (s.store.limit - 1) ≡ s.store.limit = omega (arith, c.requires.least) in
    let b = subst (λ (m : ℕ). Looked {F = SystemFault} (λ f. system_number f) (λ f. system_layer f) (height cs m) (means g.row.HEADS s) k (Ok (Rattle.unifier.specs.Views.viewed r (what_at cs r)))) one a in
    subst (λ (w : View). Looked {F = SystemFault} (λ f. system_number f) (λ f. system_layer f) (height cs s.store.limit) (means g.row.HEADS s) k (Ok w)) (sym (c.view_of.ensures ∙ ap (Rattle.unifier.specs.Views.viewed r) e)) b
