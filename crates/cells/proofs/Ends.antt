-- What is left at the end: the solutions in which all pairs are equal; or at some depth none.
use Rattle.std.proofs.Common.{ℕ, zero, suc, ◌+◌, List, [], ◌∷◌, length, ap}
use Rattle.cells.specs.declared.What.{What}
use Rattle.cells.specs.declared.What.TheVariants.{Open, Link, Leaf, One, Two, Row as RowAt}
use Rattle.cells.specs.declared.Cell.{Cell}
use Rattle.cells.specs.declared.Pair.{Pair}
use Rattle.cells.specs.Cuts.{cut}
use Rattle.cells.specs.Cells.{leaf, one, two, row_of, what_at, Says, Holds, Valuation, Agree}
use Rattle.cells.specs.Steps.{pair, Paired, Led}
use Rattle.cells.proofs.Cutting.{all_same}
pub use Rattle.cells.specs.Steps.{Never, Denied}
pub use Rattle.cells.specs.Weights.{same}

says_cut : (d : ℕ) (v : Valuation) (i : ℕ) (w : What ℕ) → Says same v i w → Says (cut d) v i w
says_cut d v i Open h = tt
says_cut d v i (Link p) h = ap (cut d) h
says_cut d v i (Leaf k) h = ap (cut d) h
says_cut d v i (One k x) h = ap (cut d) h
says_cut d v i (Two x y) h = ap (cut d) h
says_cut d v i (RowAt l x y) h = ap (cut d) h

says_all : (v : Valuation) (i : ℕ) (w : What ℕ) → ((d : ℕ) → Says (cut d) v i w) → Says same v i w
says_all v i Open h = tt
says_all v i (Link p) h = all_same (v i) (v p) h
says_all v i (Leaf k) h = all_same (v i) (leaf k) h
says_all v i (One k x) h = all_same (v i) (one k (v x)) h
says_all v i (Two x y) h = all_same (v i) (two (v x) (v y)) h
says_all v i (RowAt l x y) h = all_same (v i) (row_of l (v x) (v y)) h

pub holds_cut : (d : ℕ) (cs : List (Cell ℕ)) (v : Valuation) → Holds same cs v → Holds (cut d) cs v
holds_cut d cs v h i il = (says_cut d v i (what_at cs i) (h i il).0, (h i il).1)

-- a solution is what holds to every depth
pub holds_all : (cs : List (Cell ℕ)) (v : Valuation) → ((d : ℕ) → Holds (cut d) cs v) → Holds same cs v
holds_all cs v h i il = (says_all v i (what_at cs i) (λ d. (h d i il).0), (h zero i il).1)

pub paired_cut : (d : ℕ) (ps : List (Pair ℕ)) (v : Valuation) → Paired same ps v → Paired (cut d) ps v
paired_cut d [] v h = tt
paired_cut d (p ∷ ps) v h = (ap (cut d) h.0, paired_cut d ps v h.1)

pub paired_all : (ps : List (Pair ℕ)) (v : Valuation) → ((d : ℕ) → Paired (cut d) ps v) → Paired same ps v
paired_all [] v h = tt
paired_all (p ∷ ps) v h = (all_same (v p.left) (v p.right) (λ d. (h d).0), paired_all ps v (λ d. (h d).1))

-- every solution with the pairs equal goes on to one that has the same values at the old codes
pub kept_onto : (k : ℕ) (cs ds : List (Cell ℕ)) (ps : List (Pair ℕ)) (g : Led k cs ps ds []) (v : Valuation) → Holds same cs v → Paired same ps v → Agree (length cs) v (g.grow v) × Holds same ds (g.grow v)
kept_onto k cs ds ps g v h p = (g.agree v, holds_all ds (g.grow v) (λ d. (g.down d v (holds_cut (k + d) cs v h) (paired_cut (k + d) ps v p)).0))

-- and every solution of the new cells is one of the old, with the pairs equal
pub kept_from : (k : ℕ) (cs ds : List (Cell ℕ)) (ps : List (Pair ℕ)) → Led k cs ps ds [] → (v : Valuation) → Holds same ds v → Holds same cs v × Paired same ps v
kept_from k cs ds ps g v h = (
  holds_all cs v (λ d. (g.up d v (holds_cut d ds v h) tt).0),
  paired_all ps v (λ d. (g.up d v (holds_cut d ds v h) tt).1),
)

-- 13: what holds of the new cells to a depth held of the old
pub agree_at : (k : ℕ) (cs ds : List (Cell ℕ)) (ps : List (Pair ℕ)) → Led k cs ps ds [] → (d : ℕ) (v : Valuation) → Holds (cut d) ds v → Holds (cut d) cs v × Paired (cut d) ps v
agree_at k cs ds ps g d v h = g.up d v h tt

-- 12: a clash after k turns denies at the depth k + 1
pub never : (k : ℕ) (cs ds : List (Cell ℕ)) (ps rest : List (Pair ℕ)) (a b : ℕ) → Led k cs ps ds (pair a b ∷ rest) → Denied ds a b → Never cs ps
never k cs ds ps rest a b g n = (k + suc zero, λ v h p. let x = g.down (suc zero) v h p in n (g.grow v) x.0 x.1.0)
