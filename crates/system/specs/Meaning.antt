-- What a constraint system means.
use Rattle.std.specs.Prelude.{◌≡◌, ℕ, ◌^◌, ◌≤◌, Bool, true, ◌&&◌, ◌⊎◌, List, [], ◌∷◌, length, nat_le, nat_lt}
use Rattle.std.proofs.Math.Option.{Option, some, none}
use Rattle.ground.specs.Values.{Value}
use Rattle.ground.specs.Sorts.{Of}
use Rattle.ground.specs.Classes.{Allowed}
use Rattle.ground.specs.declared.sort.Sort.{Sort}
use Rattle.ground.specs.declared.sort.Sort.TheVariants.{«Type» as OfType, Field as OfField, Row as OfRow}
use Rattle.ground.specs.declared.sort.Labels.{Labels}
use Rattle.ground.specs.declared.classes.Classes.{Classes}

-- How many heads a system knows, the first five or all ten, and how many classes, none or all four.
pub record Kind : Type 0 where
  pub heads : ℕ
  pub classes : ℕ

-- A valuation gives each code a ground value; what it gives to codes that are not known plays no part.
abbrev pub Valuation : Type 0
Valuation = ℕ → Value

-- The meaning but for its capacity and its marks: how many fresh and build calls stand, the known codes with their sorts, the solutions, and the
-- open codes with their class sets.
pub record State : Type 1 where
  pub count : ℕ
  pub sort_of : ℕ → Option Sort
  pub solves : Valuation → Type 0
  pub opens : List (ℕ × Classes)

-- What a system means: its capacity, its state, and for each open mark the state at its making, the newest first. The marks below one are those that
-- were open when it was made, and the capacity never changes, so this is for each mark the whole meaning at its making.
pub record Meaning : Type 1 where
  pub capacity : ℕ
  pub state : State
  pub marks : List State

-- The set has labels from 0 to 23 alone.
abbrev pub small : Labels → Bool
small m = nat_lt m.0 (2 ^ 24)

-- The sorts that a system of this kind knows: with five heads that of types alone.
abbrev pub knows_sort : Kind → Sort → Bool
knows_sort K OfType = true
knows_sort K OfField = nat_le 10 K.heads
knows_sort K (OfRow m) = nat_le 10 K.heads && small m

-- The code c is listed, with the class set k.
abbrev pub Listed : List (ℕ × Classes) → ℕ → Classes → Type 0
Listed [] c k = ⊥
Listed (o ∷ os) c k = ((o.0 ≡ c) × (o.1 ≡ k)) ⊎ Listed os c k

-- No code is listed twice.
abbrev pub Once : List (ℕ × Classes) → Type 0
Once [] = Unit {0}
Once (o ∷ os) = ((k : Classes) → Listed os o.0 k → ⊥) × Once os

-- The code c is known.
abbrev pub Known : State → ℕ → Type 0
Known s c = (k : Sort) × (s.sort_of c ≡ some k)

-- Both valuations give each known code the same value.
abbrev pub Agree : State → Valuation → Valuation → Type 0
Agree s v w = (c : ℕ) → Known s c → v c ≡ w c

-- The values of the open codes are of their sorts and within their class sets.
abbrev pub Fitting : State → Valuation → Type 0
Fitting s a = (c : ℕ) (k : Classes) (o : Sort) → Listed s.opens c k → s.sort_of c ≡ some o → Of o (a c) × Allowed k (a c)

-- Both valuations give each open code the same value.
abbrev pub Chosen : State → Valuation → Valuation → Type 0
Chosen s v w = (c : ℕ) (k : Classes) → Listed s.opens c k → v c ≡ w c

-- What holds of the meaning of every system of the kind.
pub record Sound (K : Kind) (m : Meaning) : Type 0 where
  -- it knows five heads or ten, no class or four, and codes of the sorts that it knows
  pub heads : (K.heads ≡ 5) ⊎ (K.heads ≡ 10)
  pub classes : (K.classes ≡ 0) ⊎ (K.classes ≡ 4)
  pub sorts : (c : ℕ) (o : Sort) → m.state.sort_of c ≡ some o → knows_sort K o ≡ true
  -- the capacity is from 16 to 4,096, and neither the calls that stand nor the open codes exceed it
  pub least : 16 ≤ m.capacity
  pub most : m.capacity ≤ 4096
  pub counted : m.state.count ≤ m.capacity
  pub opened : length m.state.opens ≤ m.capacity
  -- open codes are known, each with one class set, which is empty where no class is known
  pub once : Once m.state.opens
  pub known : (c : ℕ) (k : Classes) → Listed m.state.opens c k → Known m.state c
  pub classless : K.classes ≡ 0 → (c : ℕ) (k : Classes) → Listed m.state.opens c k → k.0 ≡ 0
  -- a solution is about the known codes; it has each in its sort, and the open ones within their class sets
  pub blind : (v w : Valuation) → m.state.solves v → Agree m.state v w → m.state.solves w
  pub sorted : (v : Valuation) → m.state.solves v → (c : ℕ) (o : Sort) → m.state.sort_of c ≡ some o → Of o (v c)
  pub fitting : (v : Valuation) → m.state.solves v → Fitting m.state v
  -- any values of the open codes within sorts and class sets give exactly one solution, and there are such values
  pub free : (a : Valuation) → Fitting m.state a → (v : Valuation) × m.state.solves v × Chosen m.state v a
  pub one : (v w : Valuation) → m.state.solves v → m.state.solves w → Chosen m.state v w → Agree m.state v w
  pub some : (v : Valuation) × m.state.solves v

-- Two states are the same: as many calls, the same known codes and sorts, the same solutions, the same open codes and class sets.
pub record SameState (s t : State) : Type 0 where
  pub count : s.count ≡ t.count
  pub sorts : (c : ℕ) → s.sort_of c ≡ t.sort_of c
  pub onward : (v : Valuation) → s.solves v → t.solves v
  pub backward : (v : Valuation) → t.solves v → s.solves v
  pub opens : (c : ℕ) (k : Classes) → (Listed s.opens c k → Listed t.opens c k) × (Listed t.opens c k → Listed s.opens c k)

-- One list is as long as the other, and R holds of each state of one and that of the other.
abbrev pub Each : (State → State → Type 0) → List State → List State → Type 0
Each R [] [] = Unit {0}
Each R [] (t ∷ ts) = ⊥
Each R (s ∷ ss) [] = ⊥
Each R (s ∷ ss) (t ∷ ts) = R s t × Each R ss ts

-- As many marks, each with the same state.
abbrev pub SameMarks : List State → List State → Type 0
SameMarks = Each SameState

-- Two meanings are the same.
pub record Same (m n : Meaning) : Type 0 where
  pub capacity : m.capacity ≡ n.capacity
  pub state : SameState m.state n.state
  pub marks : SameMarks m.marks n.marks

-- The meaning of a new system of capacity C: no code, so that there is one solution, and no mark.
pub record New (C : ℕ) (m : Meaning) : Type 0 where
  pub capacity : m.capacity ≡ C
  pub count : m.state.count ≡ 0
  pub codes : (c : ℕ) → m.state.sort_of c ≡ none
  pub solution : (v : Valuation) → m.state.solves v
  pub opens : length m.state.opens ≡ 0
  pub marks : length m.marks ≡ 0
