-- Values of the open cells, of their sorts, give one solution and no more, where a number falls along references.
use Rattle.std.proofs.Common.{◌≡◌, ℕ, zero, suc, ◌<◌, List, length, sym, refl, ap, ◌∙◌, ap₂, arith}
use Rattle.ground.specs.Sorts.{Of}
use Rattle.cells.specs.declared.What.{What}
use Rattle.cells.specs.declared.What.TheVariants.{Open, Link, Leaf, One, Two, Row as RowAt}
use Rattle.cells.specs.declared.Cell.{Cell}
use Rattle.cells.specs.Cells.{one, two, row_of, what_at, sort_at, Says, Holds, Valuation, Formed, Refers}
use Rattle.cells.proofs.Ends.{same}
use Rattle.cells.proofs.Cyclic.{shape, grown, grown_of}
pub use Rattle.cells.specs.Weights.{Lower, Falls}

module _ (a : Valuation) (cs : List (Cell ℕ)) (k : ℕ → ℕ) (falls : Falls cs k) (formed : Formed cs) (fits : (i : ℕ) → Of (sort_at cs i) (a i)) (small : (i l x y : ℕ) → what_at cs i ≡ RowAt l x y → l < 24) where
  shape_same : (i : ℕ) (r s : Valuation) → ((j : ℕ) → k j < k i → r j ≡ s j) → (w : What ℕ) → Lower k i w → shape a i r w ≡ shape a i s w
  shape_same i r s ih Open lo = refl
  shape_same i r s ih (Link p) lo = ih p lo
  shape_same i r s ih (Leaf h) lo = refl
  shape_same i r s ih (One h x) lo = ap (one h) (ih x lo)
  shape_same i r s ih (Two x y) lo = ap₂ two (ih x lo.0) (ih y lo.1)
  shape_same i r s ih (RowAt l x y) lo = ap₂ (row_of l) (ih x lo.0) (ih y lo.1)

  pub stable : (m n i : ℕ) → k i < m → k i < n → grown a cs m i ≡ grown a cs n i
  stable zero n i p q = absurd (let z : ⊥ = omega arith in z)
  stable (suc m) zero i p q = absurd (let z : ⊥ = omega arith in z)
  stable (suc m) (suc n) i p q =
      shape_same i (grown a cs m) (grown a cs n) (λ j lt. stable m n j (omega arith) (omega arith)) (what_at cs i) (falls i)

  abbrev pub solved : Valuation
  solved i = grown a cs (suc (k i)) i

  says : (i : ℕ) (w : What ℕ) → solved i ≡ shape a i (grown a cs (k i)) w → Lower k i w → Says same solved i w
  says i Open e lo = tt
  says i (Link p) e lo = e ∙ stable (k i) (suc (k p)) p lo (omega arith)
  says i (Leaf h) e lo = e
  says i (One h x) e lo = e ∙ ap (one h) (stable (k i) (suc (k x)) x lo (omega arith))
  says i (Two x y) e lo = e ∙ ap₂ two (stable (k i) (suc (k x)) x lo.0 (omega arith)) (stable (k i) (suc (k y)) y lo.1 (omega arith))
  says i (RowAt l x y) e lo = e ∙ ap₂ (row_of l) (stable (k i) (suc (k x)) x lo.0 (omega arith)) (stable (k i) (suc (k y)) y lo.1 (omega arith))

  pub solves : Holds same cs solved
  solves i lt = (says i (what_at cs i) refl (falls i), grown_of a cs formed fits small (suc (k i)) i lt)

  pub solves_open : (i : ℕ) → what_at cs i ≡ Open → solved i ≡ a i
  solves_open i e = ap (shape a i (grown a cs (k i))) e

module _ (cs : List (Cell ℕ)) (k : ℕ → ℕ) (falls : Falls cs k) (formed : Formed cs) (v w : Valuation) (hv : Holds same cs v) (hw : Holds same cs w) (opens : (i : ℕ) → i < length cs → what_at cs i ≡ Open → v i ≡ w i) where
  one_by : (i : ℕ) → ((j : ℕ) → j < length cs → k j < k i → v j ≡ w j) → i < length cs → (u : What ℕ) → what_at cs i ≡ u → Says same v i u → Says same w i u → Lower k i u → Refers cs i u → v i ≡ w i
  one_by i ih lt Open e sv sw lo r = opens i lt e
  one_by i ih lt (Link p) e sv sw lo r = sv ∙ ih p r.0 lo ∙ sym sw
  one_by i ih lt (Leaf h) e sv sw lo r = sv ∙ sym sw
  one_by i ih lt (One h x) e sv sw lo r = sv ∙ ap (one h) (ih x r.0 lo) ∙ sym sw
  one_by i ih lt (Two x y) e sv sw lo r = sv ∙ ap₂ two (ih x r.0 lo.0) (ih y r.1 lo.1) ∙ sym sw
  one_by i ih lt (RowAt l x y) e sv sw lo r = sv ∙ ap₂ (row_of l) (ih x r.0 lo.0) (ih y r.1 lo.1) ∙ sym sw

  one_for : (m i : ℕ) → k i < m → i < length cs → v i ≡ w i
  one_for zero i p lt = absurd (let z : ⊥ = omega arith in z)
  one_for (suc m) i p lt = one_by i (λ j l q. one_for m j (omega arith) l) lt (what_at cs i) refl (hv i lt).0 (hw i lt).0 (falls i) (formed.refers i lt)

  pub only : (i : ℕ) → i < length cs → v i ≡ w i
  only i lt = one_for (suc (k i)) i (omega arith) lt
