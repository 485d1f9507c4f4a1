-- A turn of the pair loop, with new cells.
use Rattle.std.specs.Prelude.{◌≡◌, ℕ, zero, suc, ◌+◌, ◌*◌, ◌<◌, ◌≤◌, ◌⊎◌, List, [], ◌∷◌, length, ◌≢◌}
use Rattle.ground.specs.Values.{Value}
use Rattle.cells.specs.declared.Cell.{Cell}
use Rattle.cells.specs.declared.Pair.{Pair}
use Rattle.cells.specs.Cuts.{cut}
use Rattle.cells.specs.Cells.{Valuation, Agree, Holds, Formed}
use Rattle.cells.specs.Rooms.{used, left}
use Rattle.cells.specs.Rows.{Shown, lookup}

abbrev pub pair : ℕ → ℕ → Pair ℕ
pair x y = record { left = x; right = y }

abbrev pub Paired : (Value → Value) → List (Pair ℕ) → Valuation → Type 0
Paired f [] v = Unit {0}
Paired f (p ∷ ps) v = (f (v p.left) ≡ f (v p.right)) × Paired f ps v

abbrev pub Among : ℕ → List (Pair ℕ) → Type 0
Among n [] = Unit {0}
Among n (p ∷ ps) = (p.left < n) × (p.right < n) × Among n ps

-- the fields at each of these labels, z where none is shown
abbrev pub pairs_at : List Shown → List Shown → ℕ → List ℕ → List (Pair ℕ)
pairs_at fs gs z [] = []
pairs_at fs gs z (k ∷ ks) = pair (lookup fs k z) (lookup gs k z) ∷ pairs_at fs gs z ks

abbrev pub Mem : ℕ → List ℕ → Type 0
Mem k [] = ⊥
Mem k (j ∷ ks) = (k ≡ j) ⊎ Mem k ks

-- the cells and the pairs hold to every depth
abbrev pub Meets : List (Cell ℕ) → List (Pair ℕ) → Valuation → Type 0
Meets cs ps v = (d : ℕ) → Holds (cut d) cs v × Paired (cut d) ps v

-- from the cells cs, with a and b made equal, to the cells ds with these pairs still to be made equal; new cells come in twos
pub record Stepped (cs : List (Cell ℕ)) (a b : ℕ) (ps : List (Pair ℕ)) (ds : List (Cell ℕ)) : Type 0 where
  pub formed : Formed ds
  pub more : length cs ≤ length ds
  pub even : (n : ℕ) × (length ds ≡ length cs + 2 * n)
  pub known : Among (length ds) ps
  pub paid : used ds ≤ used cs
  pub nearer : (C p : ℕ) → length ds ≤ C → left C (length ps + p) ds < left C (suc p) cs
  -- values for the new cells, the same for every depth
  pub grow : Valuation → Valuation
  pub agree : (v : Valuation) → Agree (length cs) v (grow v)
  pub down : (d : ℕ) (v : Valuation) → Holds (cut (suc d)) cs v → cut (suc d) (v a) ≡ cut (suc d) (v b) → Holds (cut d) ds (grow v) × Paired (cut d) ps (grow v)
  pub up : (d : ℕ) (v : Valuation) → Holds (cut d) ds v → Paired (cut d) ps v → Holds (cut d) cs v × (cut d (v a) ≡ cut d (v b))
  -- the values of the old cells fix those of the new ones
  pub fixed : (v w : Valuation) → Meets ds ps v → Meets ds ps w → Agree (length cs) v w → Agree (length ds) v w

-- after k turns
pub record Led (k : ℕ) (cs : List (Cell ℕ)) (ps : List (Pair ℕ)) (ds : List (Cell ℕ)) (qs : List (Pair ℕ)) : Type 0 where
  pub more : length cs ≤ length ds
  pub even : (n : ℕ) × (length ds ≡ length cs + 2 * n)
  pub grow : Valuation → Valuation
  pub agree : (v : Valuation) → Agree (length cs) v (grow v)
  pub down : (d : ℕ) (v : Valuation) → Holds (cut (k + d)) cs v → Paired (cut (k + d)) ps v → Holds (cut d) ds (grow v) × Paired (cut d) qs (grow v)
  pub up : (d : ℕ) (v : Valuation) → Holds (cut d) ds v → Paired (cut d) qs v → Holds (cut d) cs v × Paired (cut d) ps v
  pub fixed : (v w : Valuation) → Meets ds qs v → Meets ds qs w → Agree (length cs) v w → Agree (length ds) v w

-- at some depth nothing meets them all
abbrev pub Never : List (Cell ℕ) → List (Pair ℕ) → Type 0
Never cs ps = (d : ℕ) × ((v : Valuation) → Holds (cut d) cs v → Paired (cut d) ps v → ⊥)

-- at the depth 1 nothing makes them equal
abbrev pub Denied : List (Cell ℕ) → ℕ → ℕ → Type 0
Denied cs a b = (v : Valuation) → Holds (cut (suc zero)) cs v → cut (suc zero) (v a) ≢ cut (suc zero) (v b)
