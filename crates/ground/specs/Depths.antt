-- Values that agree to a depth.
use Rattle.std.specs.Prelude.{◌≡◌, ℕ, zero, suc, true, ◌↔◌}
use Rattle.ground.specs.Values.{at, Value, of_type, of_field, of_row}
use Rattle.ground.specs.Heads.{Builds, has_first, has_second}
use Rattle.ground.specs.declared.head.Head.{Head}

-- One head builds both values, and the children that it takes agree by A.
abbrev pub SameHead : (Value → Value → Type 0) → Value → Value → Type 0
SameHead A v w = (h : Head) × (l : ℕ) × (x : Value) × (y : Value) × (z : Value) × (u : Value) × Builds h l x y v × Builds h l z u w
    × (has_first h ≡ true → A x z) × (has_second h ≡ true → A y u)

-- All values agree to depth 0. To depth d + 1 types agree, and fields, that one head builds of children that agree to depth d;
-- and rows whose fields agree so at every label.
abbrev pub Agree : ℕ → Value → Value → Type 0
Agree zero v w = Unit {0}
Agree (suc d) (of_type t) w = SameHead (Agree d) (of_type t) w
Agree (suc d) (of_field f) w = SameHead (Agree d) (of_field f) w
Agree (suc d) (of_row q) (of_type t) = ⊥
Agree (suc d) (of_row q) (of_field f) = ⊥
Agree (suc d) (of_row q) (of_row r) = (l : ℕ) → SameHead (Agree d) (of_field (at q l)) (of_field (at r l))

-- Values agree to every depth exactly when they are equal.
abbrev pub AgreementIsEquality : Type 0
AgreementIsEquality = (v w : Value) → (((d : ℕ) → Agree d v w) ↔ (v ≡ w))
