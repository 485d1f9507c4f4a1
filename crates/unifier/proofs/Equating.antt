-- What the two walks of equate say together.
use Rattle.std.proofs.Common.{Err, ◌≡◌, ℕ, ◌<◌, ◌≤◌, List, length, sym, ap, subst, subst₂, arith}
use Rattle.cells.specs.declared.Cell.{Cell}
use Rattle.cells.specs.Weights.{Falls}
use Rattle.unifier.specs.declared.undo.Undo.{Undo}
use Rattle.unifier.specs.Trails.{Since}
use Rattle.unifier.specs.Marks.{Closed}
use Rattle.unifier.specs.Swept.{named, AllDone, NewDone}
use Rattle.unifier.specs.declared.misfit.Misfit.{Misfit}
use Rattle.unifier.specs.declared.misfit.Misfit.TheVariants.{Clash, Full}
use Rattle.unifier.specs.Misfits.{misfit_fault}
use Rattle.unifier.specs.Settled.{Settled}
use Rattle.unifier.specs.Equated.{Equated}
use Rattle.unifier.proofs.Trailing.{since_length, since_trail}
use Rattle.unifier.proofs.Falling.{since_within, since_falls}

-- the cells and the trail as slices, with their lengths at the start
module _ (cs ds x : List (Cell ℕ)) (tr ts y : List Undo) (n m : ℕ) (ex : x ≡ ds) (ey : y ≡ ts) (en : n ≡ length cs) (em : m ≡ length tr) (s : Since cs tr ds ts) where
  pub known_cells : n ≤ length x
  known_cells = omega (arith, en, ap length ex, since_length cs ds tr ts s)

  pub known_trail : m ≤ length y
  known_trail = omega (arith, em, ap length ey, since_trail cs ds tr ts s)

  pub within : (j : ℕ) → m ≤ j → j < length y → named y j < length x
  within j a b =
      subst₂ (λ (u : List (Cell ℕ)) (w : List Undo). named w j < length u) (sym ex) (sym ey) (since_within cs ds tr ts s j (omega (arith, em, a)) (omega (arith, b, ap length ey)))

  pub fall : (k l : ℕ) (ns : List ℕ) → Closed x k ns l → AllDone k ns y m (length y) → NewDone k ns n (length x) → (r : ℕ → ℕ) → Falls cs r → (q : ℕ → ℕ) × Falls ds q
  fall k l ns c w d =
      since_falls cs ds tr ts s k ns l
      (subst (λ (u : List (Cell ℕ)). Closed u k ns l) ex c)
      (subst₂ (λ (u : List Undo) (i : ℕ). AllDone k ns u i (length u)) ey em w)
      (subst₂ (λ (u : List (Cell ℕ)) (i : ℕ). NewDone k ns i (length u)) ex en d)

-- a settlement that cannot be is answered as the fault that it is
pub misfitted : (limit : ℕ) (cs ds : List (Cell ℕ)) (tr ts : List Undo) (a b : ℕ) (m : Misfit) → Settled limit cs tr a b (Err m) ds ts → Equated limit cs tr a b (Err (misfit_fault m)) ds ts
misfitted limit cs ds tr ts a b Clash h = h
misfitted limit cs ds tr ts a b Full h = h
