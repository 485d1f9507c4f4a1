-- A walk for cycles begins at a time when nothing is under way.
use Rattle.std.proofs.Common.{ℕ, ◌+◌, ◌≤◌, Bool, true, false, cond, leb, List, [], ◌∷◌, length, arith}
use Rattle.cells.specs.declared.Cell.{Cell}
use Rattle.unifier.specs.Marks.{at, unseens, Closed}

unseen_le : (t : Bool) → cond t 1 0 ≤ 1
unseen_le true = omega arith
unseen_le false = omega arith

pub unseens_le : (b : ℕ) (ms : List ℕ) → unseens b ms ≤ length ms
unseens_le b [] = omega arith
unseens_le b (m ∷ ms) = omega (arith, unseen_le (leb m b), unseens_le b ms)

pub start_closed : (cs : List (Cell ℕ)) (ms : List ℕ) (k : ℕ) → ((i : ℕ) → at ms i ≤ k) → Closed cs k ms (k + 1)
start_closed cs ms k h = record {
  past = λ i d. let p = h i in omega (arith, p);
  before = λ i l d. absurd (let p = h i in let z : ⊥ = omega (arith, p, d) in z);
  least = omega arith;
}
