-- What equate means for the solutions, by what holds at every depth.
use Rattle.std.proofs.Common.{◌≡◌, ℕ, ◌<◌, List, [], ◌∷◌, length, Ok, Err, Result, sym, ◌∙◌, subst, arith}
use Rattle.system.specs.declared.fault.SystemFault.{SystemFault}
use Rattle.system.specs.declared.fault.SystemFault.TheVariants.{NoClasses, Clash, Cyclic, NoCells, Unknown, TooManyMarks}
use Rattle.cells.specs.declared.Cell.{Cell}
use Rattle.cells.specs.Steps.{pair}
use Rattle.cells.proofs.Ends.{holds_cut, kept_onto, kept_from}
use Rattle.unifier.specs.declared.undo.Undo.{Undo}
use Rattle.unifier.specs.Turns.{Left}
use Rattle.unifier.specs.Equated.{Refused, Equated}
use Rattle.unifier.specs.Solutions.{Kept, Unequal, Apart, Near, Denies, Means}
use Rattle.unifier.specs.Settled.{FullAfter}
use Rattle.cells.specs.Rooms.{used}
use Rattle.ground.proofs.Agreeing.{agreeing}
use Rattle.ground.specs.Sorts.{Of}
use Rattle.ground.specs.declared.sort.Sort.{Sort}
use Rattle.cells.specs.Cells.{sort_at}
use Rattle.cells.specs.Weights.{Falls}
use Rattle.cells.proofs.Cyclic.{plain, plain_of, cutoff, meets}
use Rattle.cells.proofs.Approaching.{approached}
use Rattle.cells.proofs.Depths.{twice, agree_seen, seen_agrees}
use Rattle.unifier.specs.Fine.{Fine}
use Rattle.unifier.specs.Labels.{labels_few}

kept : (cs ds : List (Cell ℕ)) (a b : ℕ) → Left 0 cs (pair a b ∷ []) ds [] → Kept cs a b ds
kept cs ds a b l =
    let g = l.turned.led in
    let k = l.turned.turns in
    record {
      onto = λ v h e. let o = kept_onto k cs ds (pair a b ∷ []) g v h (e, tt) in (g.grow v, o.0, o.1);
      from = λ v h. let o = kept_from k cs ds (pair a b ∷ []) g v h in (o.0, o.1.0);
      fixed = λ v w p q e. g.fixed v w (λ d. (holds_cut d ds v p, tt)) (λ d. (holds_cut d ds w q, tt)) e;
    }

-- 13: the cells that are left, cut at a depth, come near a solution
near : (cs es : List (Cell ℕ)) (a b : ℕ) → Fine cs → a < length cs → b < length cs → Left 0 cs (pair a b ∷ []) es [] → (k : ℕ → ℕ) → Falls cs k → Near cs a b
near cs es a b f al bl l k falls d =
    let e = l.fine in
    let c = cutoff (λ i. plain (sort_at es i)) es e.formed (λ i. plain_of (sort_at es i)) (labels_few es e) (twice d) in
    let m = meets (λ i. plain (sort_at es i)) es e.formed (λ i. plain_of (sort_at es i)) (labels_few es e) (twice d) in
    let o = l.turned.led.up (twice d) c m tt in
    let x = approached cs k falls f.formed (labels_few cs f) (twice d) c o.0 in
    (x.0, x.1, seen_agrees d (x.0 a) (x.0 b) (x.2 a al ∙ o.1.0 ∙ sym (x.2 b bl)))

denies : (limit : ℕ) (cs : List (Cell ℕ)) (tr : List Undo) (a b : ℕ) → Fine cs → a < length cs → b < length cs → sort_at cs a ≡ sort_at cs b → (f : SystemFault) → Refused limit cs tr a b f → Denies limit cs a b f
denies limit cs tr a b fine al bl ss NoClasses r = r
denies limit cs tr a b fine al bl ss Clash r = (
  r.0,
  λ v h e. r.1 v (holds_cut r.0 cs v h) (agree_seen r.0 (sort_at cs a) (v a) (v b) (h a al).1 (subst (λ (s : Sort). Of s (v b)) (sym ss) (h b bl).1) e, tt),
)
denies limit cs tr a b fine al bl ss Cyclic r = (λ v h e. let o = (kept cs r.0 a b r.1).onto v h e in r.2 o.0 o.2, near cs r.0 a b fine al bl r.1)
denies limit cs tr a b fine al bl ss NoCells r = λ n u. omega (arith, r.3.0, u)
denies limit cs tr a b fine al bl ss Unknown r = r
denies limit cs tr a b fine al bl ss TooManyMarks r = r

pub meaning : (limit : ℕ) (cs : List (Cell ℕ)) (tr : List Undo) (a b : ℕ) → Fine cs → a < length cs → b < length cs → sort_at cs a ≡ sort_at cs b → (r : Result (Unit {0}) SystemFault) (ds : List (Cell ℕ)) (ts : List Undo) → Equated limit cs tr a b r ds ts → Means limit cs a b r ds
meaning limit cs tr a b fine al bl ss (Ok u) ds ts e = kept cs ds a b e.0
meaning limit cs tr a b fine al bl ss (Err f) ds ts e = denies limit cs tr a b fine al bl ss f e.0

-- so a clash leaves no solution with both equal, and want of room is told only where the cells used and those that extensions may use pass the limit
pub apart_unequal : (cs : List (Cell ℕ)) (a b : ℕ) → Apart cs a b → Unequal cs a b
apart_unequal cs a b p v s e = p.1 v s ((agreeing (v a) (v b)).1 e p.0)

pub full_used : (limit : ℕ) (cs : List (Cell ℕ)) (tr : List Undo) → FullAfter limit cs tr → limit < used cs
full_used limit cs tr h = h.3.0
