-- The four classes, and which types are in them.
use Rattle.std.specs.Prelude.{◌≡◌, ℕ, zero, suc, ◌/◌, ◌%◌, ◌^◌}
use Rattle.ground.specs.declared.classes.Classes.{Classes}
use Rattle.ground.specs.Values.{Ty, whole, tenth, flag, to, list, record_of, Value, of_type, of_field, of_row}

-- Num has whole and tenth.
abbrev pub Num : Ty → Type 0
Num whole = Unit {0}
Num tenth = Unit {0}
Num flag = ⊥
Num (to a b) = ⊥
Num (list a) = ⊥
Num (record_of r) = ⊥

-- Ord has whole and tenth, and the lists of what it has.
abbrev pub Ord : Ty → Type 0
Ord whole = Unit {0}
Ord tenth = Unit {0}
Ord flag = ⊥
Ord (to a b) = ⊥
Ord (list a) = Ord a
Ord (record_of r) = ⊥

-- Eq has whole, tenth and flag, and the lists of what it has.
abbrev pub Eq : Ty → Type 0
Eq whole = Unit {0}
Eq tenth = Unit {0}
Eq flag = Unit {0}
Eq (to a b) = ⊥
Eq (list a) = Eq a
Eq (record_of r) = ⊥

-- Steady has flag, and the lists of what it has.
abbrev pub Steady : Ty → Type 0
Steady whole = ⊥
Steady tenth = ⊥
Steady flag = Unit {0}
Steady (to a b) = ⊥
Steady (list a) = Steady a
Steady (record_of r) = ⊥

-- The type is in the class of this number; there are four classes.
abbrev pub InClass : ℕ → Ty → Type 0
InClass zero t = Num t
InClass (suc zero) t = Ord t
InClass (suc (suc zero)) t = Eq t
InClass (suc (suc (suc zero))) t = Steady t
InClass (suc (suc (suc (suc k)))) t = ⊥

-- The class k is in the set s: bit k is set.
abbrev pub Asked : ℕ → Classes → Type 0
Asked k s = (s.0 / 2 ^ k) % 2 ≡ 1

-- The value is in each class of the set. Fields and rows are in none.
abbrev pub Allowed : Classes → Value → Type 0
Allowed s (of_type t) = (k : ℕ) → Asked k s → InClass k t
Allowed s (of_field f) = (k : ℕ) → Asked k s → ⊥
Allowed s (of_row r) = (k : ℕ) → Asked k s → ⊥
