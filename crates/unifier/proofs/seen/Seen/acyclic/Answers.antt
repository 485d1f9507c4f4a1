use Rattle.std.proofs.Common.{◌≡◌, ℕ, ◌+◌, ◌-◌, ◌^◌, ◌<◌, ◌≤◌, List, length, take, drop, get_or, vec_items, subst, ⊎_elim, arith, rules, get_or-take, get_or-drop}
use Rattle.std.proofs.lemmas.Bool.{cases_lt}
use Rattle.cells.specs.declared.Cell.{Cell}
use Rattle.unifier.specs.Fine.{Fine}
use Rattle.unifier.specs.Marks.{at, Done, Walkable}
use Rattle.unifier.specs.Swept.{named, AllDone}
use Rattle.unifier.specs.declared.undo.Undo.{Undo}
use Rattle.cells.specs.Cells.{none}
use Rattle.unifier.proofs.Marked.{went_more, went_walkable}
use Rattle.unifier.proofs.Clearing.{unseens_le, start_closed}
use Rattle.unifier.proofs.seen.Seen.acyclic.Goals as goal

-- as the walk begins, nothing is seen
begun : (cs : List (Cell ℕ)) (ms : List ℕ) (k : ℕ) → Fine cs → length cs ≤ length ms → ((i : ℕ) → at ms i ≤ k) → k + 1 + length ms < 2 ^ 63 → Walkable cs k ms (k + 1)
begun cs ms k f s h t = record { fine = f; sized = s; closed = start_closed cs ms k h; fits = omega (arith, t, unseens_le k ms) }

-- the entry at a place of the slice that is walked
entry : (tr : List Undo) (n i : ℕ) (d : Undo) → i < length tr - n → get_or (take (length tr - n) (drop n tr)) i d ≡ get_or tr (n + i) d
entry tr n i d h = rw (get_or-take, get_or-drop)

next_done : (b : ℕ) (ns os : List ℕ) (tr : List Undo) (n i : ℕ) → AllDone b ns tr n (n + i) → ((j : ℕ) → Done b ns j → at os j ≡ at ns j) → Done b os (named tr (n + i)) → AllDone b os tr n (n + (i + 1))
next_done b ns os tr n i a w d j l h =
    ⊎_elim (λ (q : j < n + i). omega (arith, w (named tr j) (a j l q), a j l q))
    (λ (q : n + i ≤ j). subst (λ (k : ℕ). Done b os (named tr k)) (let z : n + i ≡ j = omega (arith, q, h) in z) d)
    (cases_lt j (n + i))

pub visit-requires-clause-walkable : goal.visit-requires-clause-walkable
visit-requires-clause-walkable c =
    let cs = c.args.cells.now in
    let s = c.args.self.now in
    let l = c.loop-e.self in
    went_walkable cs s.clock (vec_items s.marks) (vec_items l.marks) (s.clock + 1) l.clock (begun cs (vec_items s.marks) s.clock c.requires.fine c.requires.sized s.past c.requires.fits) c.loop-e.invariant.0

pub loop-e-preserved : goal.loop-e-preserved
loop-e-preserved c =
    let cs = c.args.cells.now in
    let s = c.args.self.now in
    let l = c.loop-e.self in
    let n = c.visit.new.self in
    let v = c.loop-e.invariant in
    let w = c.in_ok-visit.ensures in
    let t = c.args.trail.now in
    let i = c.loop-e.e-index in
    let d : Done s.clock (vec_items n.marks) (named t (c.args.from + i)) =
    subst (λ (e : Undo). Done s.clock (vec_items n.marks) e.at) (entry t c.args.from i (record { at = 0; was = none }) (let z : i < length t - c.args.from = search rules in z)) w.1 in
    (went_more cs s.clock (vec_items s.marks) (vec_items l.marks) (vec_items n.marks) (s.clock + 1) l.clock n.clock v.0 w.0, next_done s.clock (vec_items l.marks) (vec_items n.marks) t c.args.from i v.1 w.0.done d)

pub visit-requires-in-loop-c-clause-walkable : goal.visit-requires-in-loop-c-clause-walkable
visit-requires-in-loop-c-clause-walkable c =
    let cs = c.args.cells.now in
    let s = c.args.self.now in
    let l = c.loop-e.self in
    let m = c.loop-c.self in
    let a = went_walkable cs s.clock (vec_items s.marks) (vec_items l.marks) (s.clock + 1) l.clock (begun cs (vec_items s.marks) s.clock c.requires.fine c.requires.sized s.past c.requires.fits) c.loop-e.invariant.0 in
    went_walkable cs s.clock (vec_items l.marks) (vec_items m.marks) l.clock m.clock a c.loop-c.invariant.0
