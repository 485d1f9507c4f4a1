-- What the class layer means, by what the system below means and the entries.
use Rattle.std.specs.Prelude.{◌≡◌, ℕ, ◌<◌, ◌≤◌, true, false, List, [], ◌∷◌, length}
use Rattle.std.proofs.Math.Option.{some}
use Rattle.ground.specs.Classes.{Allowed}
use Rattle.ground.specs.Members.{compatible}
use Rattle.ground.specs.declared.sort.Sort.TheVariants.{«Type» as OfType}
use Rattle.ground.specs.declared.classes.Classes.{Classes}
use Rattle.system.specs.Meaning.{Valuation, State, Meaning, Listed}
use Rattle.classes.specs.declared.entry.Entry.{Entry}
use Rattle.classes.specs.Entries.{has, classed}

-- The values meet the entries: that of each code is in each class demanded of it.
abbrev pub Meets : List Entry → Valuation → Type 0
Meets [] v = Unit {0}
Meets (e ∷ es) v = Allowed e.set (v e.code.0) × Meets es v

-- The open codes below, each with the classes demanded of it.
abbrev pub opens_with : List Entry → List (ℕ × Classes) → List (ℕ × Classes)
opens_with es [] = []
opens_with es (o ∷ os) = (o.0, classed es o.0) ∷ opens_with es os

-- The state below with the entries: calls, codes and sorts are those below, the solutions those below that meet the entries.
abbrev pub layered_state : State → List Entry → State
layered_state s es = record {
  count = s.count;
  sort_of = s.sort_of;
  solves = λ v. s.solves v × Meets es v;
  opens = opens_with es s.opens;
}

-- The states at the marks: those below, each with the entries at its making; the newest first.
abbrev pub layered_marks : List State → List (List Entry) → List State
layered_marks [] ts = []
layered_marks (s ∷ ss) [] = []
layered_marks (s ∷ ss) (t ∷ ts) = layered_state s t ∷ layered_marks ss ts

-- What the layer means.
abbrev pub layered : Meaning → List Entry → List (List Entry) → Meaning
layered m es ts = record { capacity = m.capacity; state = layered_state m.state es; marks = layered_marks m.marks ts }

-- The entry can be followed in the state: its code is known and a type, and its set is one of the four classes, not empty, and has a member.
pub record Followable (s : State) (e : Entry) : Type 0 where
  pub sort : s.sort_of e.code.0 ≡ some OfType
  pub four : e.set.0 < 16
  pub some_class : 0 < e.set.0
  pub member : compatible e.set ≡ true

-- Each entry can be followed.
abbrev pub Followables : State → List Entry → Type 0
Followables s [] = Unit {0}
Followables s (e ∷ es) = Followable s e × Followables s es

-- The code is open.
abbrev pub Open : State → ℕ → Type 0
Open s c = (k : Classes) × Listed s.opens c k

-- The entries are in order over the state: each is of an open code and can be followed, and no code has two.
abbrev pub InOrder : State → List Entry → Type 0
InOrder s [] = Unit {0}
InOrder s (e ∷ es) = Open s e.code.0 × Followable s e × (has es e.code.0 ≡ false) × InOrder s es

-- For each mark there are entries, in order over the state at its making.
abbrev pub MarksInOrder : List State → List (List Entry) → Type 0
MarksInOrder [] [] = Unit {0}
MarksInOrder [] (t ∷ ts) = ⊥
MarksInOrder (s ∷ ss) [] = ⊥
MarksInOrder (s ∷ ss) (t ∷ ts) = InOrder s t × MarksInOrder ss ts

-- What holds of the layer between calls: what holds below, where no class is known, and tables in order.
pub record Standing (ok : Type 0) (classes : ℕ) (m : Meaning) (es : List Entry) (ts : List (List Entry)) : Type 0 where
  pub below : ok
  pub classless : classes ≡ 0
  pub order : InOrder m.state es
  pub marks : MarksInOrder m.marks ts
  pub few : length ts ≤ 7

-- Some solution below meets the entries.
abbrev pub Met : Meaning → List Entry → Type 0
Met m es = (v : Valuation) × m.state.solves v × Meets es v
