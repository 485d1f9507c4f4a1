-- What the cells mean as a constraint system.
use Rattle.std.specs.Prelude.{◌≡◌, ℕ, zero, suc, ◌+◌, ◌*◌, ◌<◌, ◌≤◌, true, cond, ◌⊎◌, List, [], ◌∷◌, reverse, length, take, drop, nat_lt}
use Rattle.std.proofs.Math.Option.{Option, some, none}
use Rattle.ground.specs.Values.{absent, of_field}
use Rattle.ground.specs.declared.sort.Sort.{Sort}
use Rattle.ground.specs.declared.classes.Classes.{Classes}
use Rattle.system.specs.Meaning.{Valuation, State, Meaning, knows_sort}
use Rattle.system.specs.Replies.{kind_of}
use Rattle.cells.specs.declared.What.{What}
use Rattle.cells.specs.declared.What.TheVariants.{Open, Link, Leaf, One, Two, Row as RowAt}
use Rattle.cells.specs.declared.Cell.{Cell}
use Rattle.cells.specs.Cells.{what_at, sort_at, Holds}
use Rattle.cells.specs.Rooms.{used}
use Rattle.cells.specs.Weights.{same, Falls}
use Rattle.unifier.specs.declared.undo.Undo.{Undo}
use Rattle.unifier.specs.declared.saved.Saved.{Saved}
use Rattle.unifier.specs.Fine.{Fine}
use Rattle.unifier.specs.Trails.{rewound, Roomy, Since}

-- The owned cell, 0, is no code. It is the absent field, whatever a valuation says of 0.
abbrev pub seated : Valuation → Valuation
seated v zero = of_field absent
seated v (suc c) = v (suc c)

-- The codes are the numbers of the other cells.
abbrev pub sort_in : List (Cell ℕ) → ℕ → Option Sort
sort_in cs zero = none
sort_in cs (suc c) = cond (nat_lt (suc c) (length cs)) (some (sort_at cs (suc c))) none

-- The empty class set.
abbrev pub unclassed : Classes
unclassed = record { 0 = 0 }

-- The list with c, where it is open.
abbrev pub with_open : ℕ → What ℕ → List (ℕ × Classes) → List (ℕ × Classes)
with_open c Open os = (c, unclassed) ∷ os
with_open c (Link p) os = os
with_open c (Leaf h) os = os
with_open c (One h x) os = os
with_open c (Two x y) os = os
with_open c (RowAt l x y) os = os

-- The open ones of the first n cells.
abbrev pub opens : List (Cell ℕ) → ℕ → List (ℕ × Classes)
opens cs zero = []
opens cs (suc c) = with_open c (what_at cs c) (opens cs c)

-- What the cells mean after n calls: a solution makes each cell's equation true and each value is of its sort.
abbrev pub state_of : ℕ → List (Cell ℕ) → State
state_of n cs = record { count = n; sort_of = sort_in cs; solves = λ v. Holds same cs (seated v); opens = opens cs (length cs) }

-- The cells and the trail as they were at a mark.
abbrev pub cells_at : List (Cell ℕ) → List Undo → Saved → List (Cell ℕ)
cells_at cs tr s = take s.cells (rewound cs (drop s.trail tr))

abbrev pub trail_at : List Undo → Saved → List Undo
trail_at tr s = take s.trail tr

-- The states at the marks, the newest first.
abbrev pub states_at : List (Cell ℕ) → List Undo → List Saved → List State
states_at cs tr [] = []
states_at cs tr (s ∷ ss) = state_of s.calls (cells_at cs tr s) ∷ states_at (cells_at cs tr s) (trail_at tr s) ss

-- What a solver of capacity z means; its marks stand in a list with the oldest first.
abbrev pub meaning_of : ℕ → ℕ → List (Cell ℕ) → List Undo → List Saved → Meaning
meaning_of z n cs tr ss = record { capacity = z; state = state_of n cs; marks = states_at cs tr (reverse ss) }

-- The cells are in order after n calls, with h heads known: they are as the solver keeps them; there is room on the trail; each is of a known sort;
-- no reference goes round in a circle; each call has paid for its cells and for those that extensions may use.
pub record Sane (h n : ℕ) (cs : List (Cell ℕ)) (tr : List Undo) : Type 0 where
  pub fine : Fine cs
  pub roomy : Roomy cs tr
  pub sorts : (i : ℕ) → 0 < i → i < length cs → knows_sort (kind_of h 0) (sort_at cs i) ≡ true
  pub order : ℕ → ℕ
  pub falls : Falls cs order
  pub worth : used cs ≤ 1 + 49 * n
  pub each : n + 1 ≤ length cs

-- The marks, the newest first: cells and trail came of those at the mark, which were in order.
abbrev pub Nested : ℕ → List (Cell ℕ) → List Undo → List Saved → Type 0
Nested h cs tr [] = Unit {0}
Nested h cs tr (s ∷ ss) =
    Since (cells_at cs tr s) (trail_at tr s) cs tr × (length (cells_at cs tr s) ≡ s.cells) × (length (trail_at tr s) ≡ s.trail)
    × Sane h s.calls (cells_at cs tr s) (trail_at tr s) × Nested h (cells_at cs tr s) (trail_at tr s) ss

-- What holds between calls of a solver of capacity z.
pub record Good (h z n : ℕ) (cs : List (Cell ℕ)) (tr : List Undo) (ss : List Saved) : Type 0 where
  pub heads : (h ≡ 5) ⊎ (h ≡ 10)
  pub least : 16 ≤ z
  pub most : z ≤ 4096
  pub cells : length cs ≤ z + 1
  pub sane : Sane h n cs tr
  pub marks : Nested h cs tr (reverse ss)
  pub few : length ss ≤ 8
