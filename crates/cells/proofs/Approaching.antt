-- What meets cells to a depth is near a solution of them, where a number falls along references.
use Rattle.std.proofs.Common.{◌≡◌, ℕ, zero, suc, ◌<◌, Bool, true, false, cond, ltb, List, length, sym, refl, ap, ◌∙◌, arith}
use Rattle.std.proofs.lemmas.Bool.{lt-ltb, ltb-true}
use Rattle.ground.specs.Values.{Value}
use Rattle.ground.specs.Sorts.{Of}
use Rattle.cells.specs.declared.What.{What}
use Rattle.cells.specs.declared.What.TheVariants.{Open, Link, Leaf, One, Two, Row as RowAt}
use Rattle.cells.specs.declared.Cell.{Cell}
use Rattle.cells.specs.Cuts.{cut}
use Rattle.cells.specs.Cells.{one, two, row_of, what_at, sort_at, Says, Holds, Valuation, Formed, Refers}
use Rattle.cells.specs.Weights.{same, Lower, Falls}
use Rattle.cells.proofs.Cutting.{less}
use Rattle.cells.proofs.Building.{cong_one, cong_two, cong_row}
use Rattle.cells.proofs.Cyclic.{plain, plain_of}
use Rattle.cells.proofs.Freely.{solved, solves, solves_open}

module _ (cs : List (Cell ℕ)) (k : ℕ → ℕ) (falls : Falls cs k) (formed : Formed cs) (small : (i l x y : ℕ) → what_at cs i ≡ RowAt l x y → l < 24) (d : ℕ) (v : Valuation) (h : Holds (cut d) cs v) where
  -- the values of v at the cells, and some value of its sort elsewhere
  abbrev within : Valuation
  within i = cond (ltb i (length cs)) (v i) (plain (sort_at cs i))

  within_of : (i : ℕ) → Of (sort_at cs i) (within i)
  within_of i = go (ltb i (length cs)) refl
    where
      go : (t : Bool) → ltb i (length cs) ≡ t → Of (sort_at cs i) (cond t (v i) (plain (sort_at cs i)))
      go true e = (h i (ltb-true i (length cs) e)).1
      go false e = plain_of (sort_at cs i)

  abbrev exact : Valuation
  exact = solved within cs k falls formed within_of small

  exact_holds : Holds same cs exact
  exact_holds = solves within cs k falls formed within_of small

  -- what is built of near values is near
  near_by : (i : ℕ) → i < length cs → ((j : ℕ) → j < length cs → k j < k i → cut d (exact j) ≡ cut d (v j)) → (w : What ℕ) → what_at cs i ≡ w → Refers cs i w → Lower k i w → Says same exact i w → Says (cut d) v i w → cut d (exact i) ≡ cut d (v i)
  near_by i l ih Open q r lo s t = ap (cut d) (solves_open within cs k falls formed within_of small i q ∙ ap (λ (b : Bool). cond b (v i) (plain (sort_at cs i))) (lt-ltb i (length cs) l))
  near_by i l ih (Link p) q r lo s t = ap (cut d) s ∙ ih p r.0 lo ∙ sym t
  near_by i l ih (Leaf a) q r lo s t = ap (cut d) s ∙ sym t
  near_by i l ih (One a x) q r lo s t = ap (cut d) s ∙ less d (one a (exact x)) (one a (v x)) (cong_one d a (exact x) (v x) (ih x r.0 lo)) ∙ sym t
  near_by i l ih (Two x y) q r lo s t = ap (cut d) s ∙ less d (two (exact x) (exact y)) (two (v x) (v y)) (cong_two d (exact x) (exact y) (v x) (v y) (ih x r.0 lo.0) (ih y r.1 lo.1)) ∙ sym t
  near_by i l ih (RowAt a x y) q r lo s t = ap (cut d) s ∙ row_same d a (exact x) (exact y) (v x) (v y) (ih x r.0 lo.0) (ih y r.1 lo.1) ∙ sym t
    where
      row_same : (d l : ℕ) (u v x y : Value) → cut d u ≡ cut d x → cut d v ≡ cut d y → cut d (row_of l u v) ≡ cut d (row_of l x y)
      row_same zero l u v x y e g = refl
      row_same (suc d) l u v x y e g = cong_row d l u v x y (less d u x e) g

  near_for : (m i : ℕ) → k i < m → i < length cs → cut d (exact i) ≡ cut d (v i)
  near_for zero i p l = absurd (let z : ⊥ = omega arith in z)
  near_for (suc m) i p l = near_by i l (λ j jl q. near_for m j (omega arith) jl) (what_at cs i) refl (formed.refers i l) (falls i) (exact_holds i l).0 (h i l).0

  pub approached : (w : Valuation) × Holds same cs w × ((i : ℕ) → i < length cs → cut d (w i) ≡ cut d (v i))
  approached = (exact, exact_holds, λ i l. near_for (suc (k i)) i (omega arith) l)
