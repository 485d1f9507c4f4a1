-- The pairs of two rows' fields.
use Rattle.std.specs.Prelude.{ℕ, zero, suc, List, [], ◌∷◌, Some, None, Option, slice_index_or}
use Rattle.cells.specs.declared.Pair.{Pair}
use Rattle.cells.specs.Steps.{pair}
use Rattle.unifier.specs.declared.side.Side.{Side}

abbrev pub noted : Option ℕ → Option ℕ → List (Pair ℕ) → List (Pair ℕ)
noted (Some x) (Some y) ps = pair x y ∷ ps
noted (Some x) None ps = pair x 0 ∷ ps
noted None (Some y) ps = pair 0 y ∷ ps
noted None None ps = ps

-- at the labels below n
abbrev pub field_pairs : Side → Side → ℕ → List (Pair ℕ)
field_pairs a b zero = []
field_pairs a b (suc n) = noted (slice_index_or a.fields n None) (slice_index_or b.fields n None) (field_pairs a b n)
