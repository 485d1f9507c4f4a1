-- Parts of a value.
use Rattle.std.specs.Prelude.{◌≡◌, ℕ, true, ◌⊎◌}
use Rattle.ground.specs.Values.{Ty, Row, at, Field, Value, of_type, of_field, of_row}
use Rattle.ground.specs.Heads.{Builds, Suits, has_first, has_second}
use Rattle.ground.specs.declared.sort.Labels.{Labels}
use Rattle.ground.specs.declared.head.Head.{Head}

-- The value x is a child of v: some head builds v of children that suit it, and x is one that it takes.
abbrev pub Child : Value → Value → Type 0
Child x v = (h : Head) × (m : Labels) × (l : ℕ) × (y : Value) × (z : Value) × Suits h m l y z × Builds h l y z v
    × (((has_first h ≡ true) × (x ≡ y)) ⊎ ((has_second h ≡ true) × (x ≡ z)))

-- The value x is a part of v: a child, or a child of a part.
pub data Part : Value → Value → Type 0 where
  child : {x v : Value} → Child x v → Part x v
  deeper : {x y v : Value} → Child x y → Part y v → Part x v

-- No type is a part of itself.
abbrev pub NoTypeInItself : Type 0
NoTypeInItself = (t : Ty) → Part (of_type t) (of_type t) → ⊥

-- No field is a part of itself.
abbrev pub NoFieldInItself : Type 0
NoFieldInItself = (f : Field) → Part (of_field f) (of_field f) → ⊥

-- A row and an absent field may build that same row, so of rows only this holds: none is a part of one of its own fields.
abbrev pub NoRowInItsFields : Type 0
NoRowInItsFields = (r : Row) (l : ℕ) → Part (of_row r) (of_field (at r l)) → ⊥
