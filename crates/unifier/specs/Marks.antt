-- The marks of the walk for cycles: at most b not seen, b + 1 under way, above that done, by the clock.
use Rattle.std.specs.Prelude.{◌≡◌, ℕ, suc, ◌+◌, ◌^◌, ◌<◌, ◌≤◌, cond, List, [], ◌∷◌, length, nat_le, slice_index, Ok, Err, Result}
use Rattle.cells.specs.declared.What.{What}
use Rattle.cells.specs.declared.What.TheVariants.{Open, Link, Leaf, One, Two, Row as RowAt}
use Rattle.cells.specs.declared.Cell.{Cell}
use Rattle.cells.specs.Cells.{Valuation, what_at, Holds}
use Rattle.cells.specs.Weights.{same, weight}
use Rattle.unifier.specs.declared.cycle.Cycle.{Cycle}
use Rattle.unifier.specs.Fine.{Fine}

abbrev pub at : List ℕ → ℕ → ℕ
at ms i = slice_index ms i

abbrev pub unseen : ℕ → ℕ → ℕ
unseen b m = cond (nat_le m b) 1 0

abbrev pub unseens : ℕ → List ℕ → ℕ
unseens b [] = 0
unseens b (m ∷ ms) = unseen b m + unseens b ms

abbrev pub Done : ℕ → List ℕ → ℕ → Type 0
Done b ms i = b + 1 < at ms i

abbrev pub Under : ℕ → List ℕ → ℕ → Type 0
Under b ms i = at ms i ≡ b + 1

-- what is referred to is done, before m
abbrev pub Before : ℕ → List ℕ → ℕ → What ℕ → Type 0
Before b ms m Open = Unit {0}
Before b ms m (Link p) = Done b ms p × (at ms p < m)
Before b ms m (Leaf h) = Unit {0}
Before b ms m (One h x) = Done b ms x × (at ms x < m)
Before b ms m (Two x y) = (Done b ms x × (at ms x < m)) × (Done b ms y × (at ms y < m))
Before b ms m (RowAt l x y) = (Done b ms x × (at ms x < m)) × (Done b ms y × (at ms y < m))

pub record Closed (cs : List (Cell ℕ)) (b : ℕ) (ms : List ℕ) (k : ℕ) : Type 0 where
  pub past : (i : ℕ) → Done b ms i → at ms i ≤ k
  pub before : (i : ℕ) → i < length cs → Done b ms i → Before b ms (at ms i) (what_at cs i)
  pub least : b + 1 ≤ k

-- a walk can go on: the cells are in order, each has a mark, and the clock has time for all that is not seen
pub record Walkable (cs : List (Cell ℕ)) (b : ℕ) (ms : List ℕ) (k : ℕ) : Type 0 where
  pub fine : Fine cs
  pub sized : length cs ≤ length ms
  pub closed : Closed cs b ms k
  pub fits : k + unseens b ms < 2 ^ 63

-- from marks and clock to later ones
pub record Went (cs : List (Cell ℕ)) (b : ℕ) (ms : List ℕ) (k : ℕ) (ns : List ℕ) (l : ℕ) : Type 0 where
  pub same : length ns ≡ length ms
  pub closed : Closed cs b ns l
  pub under : (i : ℕ) → Under b ms i → Under b ns i
  pub under_was : (i : ℕ) → Under b ns i → Under b ms i
  pub done : (i : ℕ) → Done b ms i → at ns i ≡ at ms i
  pub left : unseens b ns ≤ unseens b ms
  pub clock : l + unseens b ns ≤ k + unseens b ms
  pub later : k ≤ l

-- whatever is answered: no mark is later than the clock, and what was seen pays for the time
pub record Timed (b : ℕ) (ms : List ℕ) (k : ℕ) (ns : List ℕ) (l : ℕ) : Type 0 where
  pub same : length ns ≡ length ms
  pub past : (i : ℕ) → at ns i ≤ l
  pub later : k ≤ l
  pub clock : l + unseens b ns ≤ k + unseens b ms

-- nothing solves the cells
abbrev pub Cyclic : List (Cell ℕ) → Type 0
Cyclic cs = (v : Valuation) → Holds same cs v → ⊥

-- every cell under way is heavier than c, or c
abbrev pub Over : List (Cell ℕ) → ℕ → List ℕ → ℕ → Type 0
Over cs b ms c = (v : Valuation) → Holds same cs v → (i : ℕ) → Under b ms i → weight cs v c < weight cs v i

abbrev pub Tops : List (Cell ℕ) → ℕ → List ℕ → ℕ → Type 0
Tops cs b ms c = (v : Valuation) → Holds same cs v → (i : ℕ) → Under b ms i → weight cs v c ≤ weight cs v i

-- what the walk from c answers
abbrev pub Walked : List (Cell ℕ) → ℕ → List ℕ → ℕ → ℕ → Result (Unit {0}) Cycle → List ℕ → ℕ → Type 0
Walked cs b ms k c (Ok u) ns l = Went cs b ms k ns l × Done b ns c
Walked cs b ms k c (Err e) ns l = Cyclic cs × Timed b ms k ns l

-- and the walk from what c refers to
abbrev pub WalkedBelow : List (Cell ℕ) → ℕ → List ℕ → ℕ → ℕ → Result (Unit {0}) Cycle → List ℕ → ℕ → Type 0
WalkedBelow cs b ms k c (Ok u) ns l = Went cs b ms k ns l × Before b ns (suc l) (what_at cs c)
WalkedBelow cs b ms k c (Err e) ns l = Cyclic cs × Timed b ms k ns l
