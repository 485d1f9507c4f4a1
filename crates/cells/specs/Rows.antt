-- The chain of a row: the labels that it shows with their fields, and its tail.
use Rattle.std.specs.Prelude.{◌≡◌, ℕ, Bool, true, false, cond, ◌⊎◌, List, [], ◌∷◌, ◌==◌}
use Rattle.ground.specs.Values.{Row, Field, at}
use Rattle.ground.specs.Sorts.{In}
use Rattle.ground.specs.declared.sort.Labels.{Labels}
use Rattle.cells.specs.declared.What.TheVariants.{Row as RowAt}
use Rattle.cells.specs.declared.Cell.{Cell}
use Rattle.cells.specs.Cuts.{cut_field}
use Rattle.cells.specs.Cells.{as_field, as_row, Valuation, what_at, Leads}

pub record Shown : Type 0 where
  pub label : ℕ
  pub field : ℕ

pub data Chain (cs : List (Cell ℕ)) : ℕ → List Shown → ℕ → Type 0 where
  ends : {c t : ℕ} → Leads cs c t → Chain cs c [] t
  shows : {c z l x y t : ℕ} {fs : List Shown} → Leads cs c z → what_at cs z ≡ RowAt l x y → Chain cs y fs t → Chain cs c (record { label = l; field = x } ∷ fs) t

-- the label k is shown; its field, or else z; what the row has at k, over the row r of the tail
abbrev pub shown : List Shown → ℕ → Bool
shown [] k = false
shown (s ∷ fs) k = cond (k == s.label) true (shown fs k)

abbrev pub lookup : List Shown → ℕ → ℕ → ℕ
lookup [] k z = z
lookup (s ∷ fs) k z = cond (k == s.label) s.field (lookup fs k z)

abbrev pub shown_at : Valuation → List Shown → Row → ℕ → Field
shown_at v [] r k = at r k
shown_at v (s ∷ fs) r k = cond (k == s.label) (as_field (v s.field)) (shown_at v fs r k)

-- the row R has, to the depth d, what the chain shows, and elsewhere what its tail has
abbrev pub Reads : ℕ → Valuation → List Shown → ℕ → Row → Type 0
Reads d v fs t R = (k : ℕ) → cut_field d (at R k) ≡ cut_field d (shown_at v fs (as_row (v t)) k)

-- n is m with the labels of the chain, none of which m has
pub record Tail (fs : List Shown) (m n : Labels) : Type 0 where
  pub here : (k : ℕ) → shown fs k ≡ true → In k n
  pub old : (k : ℕ) → In k m → In k n
  pub only : (k : ℕ) → In k n → (shown fs k ≡ true) ⊎ In k m
  pub new : (k : ℕ) → shown fs k ≡ true → In k m → ⊥

-- the chain of a root: a row over a chain, or no label shown
pub data Rooted (cs : List (Cell ℕ)) : ℕ → List Shown → ℕ → Type 0 where
  bare : {b : ℕ} → Rooted cs b [] b
  over : {b l x y t : ℕ} {fs : List Shown} → what_at cs b ≡ RowAt l x y → Chain cs y fs t → Rooted cs b (record { label = l; field = x } ∷ fs) t
