-- Which sets of classes have a member.
use Rattle.std.specs.Prelude.{◌≡◌, ℕ, ◌/◌, ◌%◌, ◌^◌, ◌<◌, Bool, true, not, ◌&&◌, ◌||◌, ◌≢◌, ◌↔◌, ◌==◌}
use Rattle.ground.specs.Values.{Ty, of_type}
use Rattle.ground.specs.Classes.{Allowed}
use Rattle.ground.specs.declared.classes.Classes.{Classes}

-- The class k is in the set, as a test.
abbrev pub asks : ℕ → Classes → Bool
asks k s = (s.0 / 2 ^ k) % 2 == 1

-- The set does not have steady together with num or with ord.
abbrev pub compatible : Classes → Bool
compatible s = not (asks 3 s && (asks 0 s || asks 1 s))

-- Some type is in each class of the set.
abbrev pub HasMember : Classes → Type 0
HasMember s = (t : Ty) × Allowed s (of_type t)

-- Of the sets of the four classes exactly these have a member.
abbrev pub CompatibleSetsHaveMembers : Type 0
CompatibleSetsHaveMembers = (s : Classes) → s.0 < 16 → (HasMember s ↔ (compatible s ≡ true))

-- A set that has a member has another.
abbrev pub NoMemberAlone : Type 0
NoMemberAlone = (s : Classes) (t : Ty) → Allowed s (of_type t) → (u : Ty) × Allowed s (of_type u) × (t ≢ u)
