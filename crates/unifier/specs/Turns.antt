-- Turns of the loop over the pending pairs.
use Rattle.std.specs.Prelude.{◌≡◌, ℕ, ◌+◌, ◌-◌, ◌<◌, ◌≤◌, ◌⊎◌, List, [], ◌∷◌, length, Some, Option, Ok, Err, Result}
use Rattle.stack.specs.Stacks.{top, under}
use Rattle.ground.specs.declared.sort.Sort.{Sort}
use Rattle.ground.specs.declared.sort.Sort.TheVariants.{«Type» as OfType, Field as OfField, Row as OfRow}
use Rattle.cells.specs.declared.What.{What}
use Rattle.cells.specs.declared.What.TheVariants.{Open, Link, Leaf, One, Two, Row as RowAt}
use Rattle.cells.specs.declared.Cell.{Cell}
use Rattle.cells.specs.declared.Pair.{Pair}
use Rattle.cells.specs.Cells.{what_at, sort_at, roots}
use Rattle.cells.specs.Rooms.{used, left, Short}
use Rattle.cells.specs.Steps.{pair, Led, Denied, Never}
use Rattle.unifier.specs.Fine.{Fine, Rowly}
use Rattle.unifier.specs.declared.misfit.Misfit.{Misfit}
use Rattle.unifier.specs.declared.misfit.Misfit.TheVariants.{Clash, Full}
use Rattle.cells.specs.declared.Bare.TheVariants.{Empty}

-- pairs of known cells, each of one sort
abbrev pub Alike : List (Cell ℕ) → List (Pair ℕ) → Type 0
Alike cs [] = Unit {0}
Alike cs (p ∷ ps) = (p.left < length cs) × (p.right < length cs) × (sort_at cs p.left ≡ sort_at cs p.right) × Alike cs ps

-- pairs of fields
abbrev pub Fieldly : List (Cell ℕ) → List (Pair ℕ) → Type 0
Fieldly cs [] = Unit {0}
Fieldly cs (p ∷ ps) = (sort_at cs p.left ≡ OfField) × Fieldly cs ps

-- the next pair of two stacks, and what they are left with: those of fields first
abbrev pub Next : List (Pair ℕ) → List (Pair ℕ) → Option (Pair ℕ) → List (Pair ℕ) → List (Pair ℕ) → Type 0
Next [] hs r gs qs = (r ≡ top hs) × (gs ≡ []) × (qs ≡ under hs)
Next (f ∷ fs) hs r gs qs = (r ≡ Some f) × (gs ≡ fs) × (qs ≡ hs)

-- from cells and pairs to others that say the same, nearer to the end by n
pub record Turned (n : ℕ) (cs : List (Cell ℕ)) (ps : List (Pair ℕ)) (ds : List (Cell ℕ)) (qs : List (Pair ℕ)) : Type 0 where
  pub turns : ℕ
  pub led : Led turns cs ps ds qs
  pub paid : used ds ≤ used cs
  pub nearer : (C : ℕ) → length ds ≤ C → left C (length qs) ds + n ≤ left C (length ps) cs

-- what a turn leaves for the next
pub record Left (n : ℕ) (cs : List (Cell ℕ)) (ps : List (Pair ℕ)) (ds : List (Cell ℕ)) (qs : List (Pair ℕ)) : Type 0 where
  pub turned : Turned n cs ps ds qs
  pub fine : Fine ds
  pub alike : Alike ds qs

abbrev pub Rowed : What ℕ → Type 0
Rowed Open = ⊥
Rowed (Link p) = ⊥
Rowed (Leaf h) = ⊥
Rowed (One h x) = ⊥
Rowed (Two x y) = ⊥
Rowed (RowAt l x y) = Unit {0}

-- the tails of two rows that became one
pub record Tails (cs : List (Cell ℕ)) (a b : ℕ) : Type 0 where
  pub left_known : a < length cs
  pub right_known : b < length cs
  pub left : (what_at cs a ≡ Open) ⊎ (what_at cs a ≡ Leaf Empty)
  pub right : (what_at cs b ≡ Open) ⊎ (what_at cs b ≡ Leaf Empty)
  pub left_row : Rowly (sort_at cs a)
  pub right_row : Rowly (sort_at cs b)
  pub same : what_at cs a ≡ Open → what_at cs b ≡ Open → sort_at cs a ≡ sort_at cs b

-- how a turn with the pair of a and b ends, with these other pairs
abbrev pub Came : ℕ → List (Cell ℕ) → ℕ → ℕ → List (Pair ℕ) → Result (Unit {0}) Misfit → List (Cell ℕ) → List (Pair ℕ) → Type 0
Came limit cs a b hs (Ok u) ds qs = Left 1 cs (pair a b ∷ hs) ds qs
Came limit cs a b hs (Err Clash) ds qs = Denied cs a b
Came limit cs a b hs (Err Full) ds qs = Short limit cs ds

-- the roots there are, and the cells that may still come
abbrev pub trees : ℕ → List (Cell ℕ) → ℕ
trees limit cs = roots cs + (limit - length cs)

-- the pairs that a turn with a pair of this sort may leave beyond the roots that it takes
abbrev pub price : Sort → ℕ
price OfType = 1
price OfField = 0
price (OfRow m) = 0

-- so each pair left by a turn with hs pending is paid for by a root or a cell, but for those of fields, which wait apart
abbrev pub Spent : ℕ → Sort → List (Cell ℕ) → List (Pair ℕ) → Result (Unit {0}) Misfit → List (Cell ℕ) → List (Pair ℕ) → List (Pair ℕ) → Type 0
Spent limit o cs hs (Ok u) ds gs qs = Fieldly ds gs × (length qs + trees limit ds ≤ length hs + price o + trees limit cs)
Spent limit o cs hs (Err m) ds gs qs = Unit {0}

-- how all turns end: no pair is left; at some depth nothing meets them; or cells do not suffice
abbrev pub Ran : ℕ → List (Cell ℕ) → List (Pair ℕ) → Result (Unit {0}) Misfit → List (Cell ℕ) → Type 0
Ran limit cs ps (Ok u) ds = Left 0 cs ps ds []
Ran limit cs ps (Err Clash) ds = Never cs ps
Ran limit cs ps (Err Full) ds = Short limit cs ds
