-- What cells, binds and marks mean, and when they are in order.
use Rattle.std.specs.Prelude.{◌≡◌, ℕ, zero, suc, ◌+◌, ◌<◌, ◌≤◌, max, true, cond, List, [], ◌∷◌, reverse, length, take, nat_lt}
use Rattle.std.proofs.Math.Option.{some, none}
use Rattle.ground.specs.Sorts.{Of}
use Rattle.ground.specs.Heads.{Builds, has_first, has_second}
use Rattle.ground.specs.declared.sort.Sort.TheVariants.{«Type» as OfType}
use Rattle.ground.specs.declared.classes.Classes.{Classes}
use Rattle.system.specs.Meaning.{Valuation, State, Meaning}
use Rattle.system.specs.Requests.{head_number}
use Rattle.model.specs.declared.cell.Cell.{Cell}
use Rattle.model.specs.declared.cell.Bind.{Bind}
use Rattle.model.specs.declared.cell.Saved.{Saved}
use Rattle.model.specs.declared.cell.Cell.TheVariants.{Open, Link, Built}
use Rattle.model.specs.Cells.{view}

-- What the shape of c says of its value.
abbrev pub Says : Valuation → ℕ → Cell → Type 0
Says v c Open = Unit {0}
Says v c (Link p) = v c ≡ v p
Says v c (Built h x y) = Builds h 0 (v x) (v y) (v c)

-- Each of the n codes has a type for its value, as its shape says.
abbrev pub Holds : ℕ → (ℕ → Cell) → Valuation → Type 0
Holds n w v = (c : ℕ) → c < n → Of OfType (v c) × Says v c (w c)

-- The empty class set.
abbrev pub unclassed : Classes
unclassed = record { 0 = 0 }

-- The list with c, where it is open.
abbrev pub with_open : ℕ → Cell → List (ℕ × Classes) → List (ℕ × Classes)
with_open c Open os = (c, unclassed) ∷ os
with_open c (Link p) os = os
with_open c (Built h x y) os = os

-- The open ones of the first n codes.
abbrev pub opens : ℕ → (ℕ → Cell) → List (ℕ × Classes)
opens zero w = []
opens (suc c) w = with_open c (w c) (opens c w)

-- The codes are the numbers of the cells, all types.
abbrev pub state_of : List Cell → List Bind → State
state_of cs bs = record {
  count = length cs;
  sort_of = λ c. cond (nat_lt c (length cs)) (some OfType) none;
  solves = Holds (length cs) (view cs bs);
  opens = opens (length cs) (view cs bs);
}

-- The states at the marks: as many cells and binds as there were.
abbrev pub states_at : List Cell → List Bind → List Saved → List State
states_at cs bs [] = []
states_at cs bs (s ∷ ss) = state_of (take s.cells cs) (take s.binds bs) ∷ states_at cs bs ss

-- What a model of capacity z means; its marks stand in a list with the oldest first.
abbrev pub meaning_of : ℕ → List Cell → List Bind → List Saved → Meaning
meaning_of z cs bs ss = record { capacity = z; state = state_of cs bs; marks = states_at cs bs (reverse ss) }

-- How many heads and links can follow one another from a code of this shape, by what can from the others.
abbrev pub taller : (ℕ → ℕ) → Cell → ℕ
taller f Open = 0
taller f (Link p) = suc (f p)
taller f (Built h x y) = suc (max (cond (has_first h) (f x) 0) (cond (has_second h) (f y) 0))

-- The same, by so many steps.
abbrev pub height : (ℕ → Cell) → ℕ → ℕ → ℕ
height w zero c = 0
height w (suc m) c = taller (height w m) (w c)

-- The number k falls from c to what its shape refers to.
abbrev pub Lower : (ℕ → ℕ) → ℕ → Cell → Type 0
Lower k c Open = Unit {0}
Lower k c (Link p) = k p < k c
Lower k c (Built h x y) = (has_first h ≡ true → k x < k c) × (has_second h ≡ true → k y < k c)

-- It falls along every reference.
abbrev pub Falls : (ℕ → Cell) → (ℕ → ℕ) → Type 0
Falls w k = (c : ℕ) → Lower k c (w c)

-- The shape is one of the first five heads, and refers to the first n codes.
abbrev pub Refers : ℕ → Cell → Type 0
Refers n Open = Unit {0}
Refers n (Link p) = p < n
Refers n (Built h x y) = (head_number h < 5) × (has_first h ≡ true → x < n) × (has_second h ≡ true → y < n)

-- The cells and binds are in order: references go to codes that there are, none goes round in a circle, and no more is bound than was open.
pub record Fine (cs : List Cell) (bs : List Bind) : Type 0 where
  pub refers : (c : ℕ) → c < length cs → Refers (length cs) (view cs bs c)
  pub beyond : (c : ℕ) → length cs ≤ c → view cs bs c ≡ Open
  pub order : ℕ → ℕ
  pub falls : Falls (view cs bs) order
  pub room : length bs + length (opens (length cs) (view cs bs)) ≤ length cs

-- The marks, the newest first: each has no more cells and binds than the next newer, and they were in order.
abbrev pub Nested : List Cell → List Bind → ℕ → ℕ → List Saved → Type 0
Nested cs bs m n [] = Unit {0}
Nested cs bs m n (s ∷ ss) = (s.cells ≤ m) × (s.binds ≤ n) × Fine (take s.cells cs) (take s.binds bs) × Nested cs bs s.cells s.binds ss

-- What holds of a model between calls.
pub record Good (z : ℕ) (cs : List Cell) (bs : List Bind) (ss : List Saved) : Type 0 where
  pub least : 16 ≤ z
  pub most : z ≤ 4096
  pub cells : length cs ≤ z
  pub fine : Fine cs bs
  pub marks : Nested cs bs (length cs) (length bs) (reverse ss)
  pub few : length ss ≤ 8
