-- A graph of cells, cyclic or not, cut at a depth: at every depth something meets the cells.
use Rattle.std.proofs.Common.{◌≡◌, ℕ, zero, suc, ◌+◌, ◌-◌, ◌*◌, ◌<◌, ◌≤◌, List, length, sym, refl, ap, ◌∙◌, subst, arith}
use Rattle.ground.specs.Values.{whole, end, absent, Value, of_type, of_field, of_row}
use Rattle.ground.specs.Sorts.{Of, In}
use Rattle.ground.specs.declared.sort.Sort.{Sort}
use Rattle.ground.specs.declared.sort.Sort.TheVariants.{«Type» as OfType, Field as OfField, Row as OfRow}
use Rattle.ground.proofs.Rows.{at_end, at_other}
use Rattle.cells.specs.declared.What.{What}
use Rattle.cells.specs.declared.What.TheVariants.{Open, Link, Leaf, One, Two, Row as RowAt}
use Rattle.cells.specs.declared.Cell.{Cell}
use Rattle.cells.specs.Cuts.{cut}
use Rattle.cells.specs.Cells.{as_field, as_row, leaf, one, two, row_of, what_at, rank_at, sort_at, Says, Holds, Valuation, Formed, Refers, Over, one_gives}
use Rattle.cells.specs.Rooms.{spare_sort}
use Rattle.cells.proofs.Building.{cong_one, cong_two, cong_row, row_lacks}
use Rattle.cells.proofs.Spending.{spare_adds, spare_sort_le}
use Rattle.cells.proofs.Weighing.{steps, steps_lt, steps_24}
use Rattle.cells.specs.declared.Wrap.{Wrap}
use Rattle.cells.specs.declared.Wrap.TheVariants.{List as ListOf, Record as RecordOf, Has as HasOf}

abbrev pub plain : Sort → Value
plain OfType = of_type whole
plain OfField = of_field absent
plain (OfRow m) = of_row end

pub plain_of : (s : Sort) → Of s (plain s)
plain_of OfType = tt
plain_of OfField = tt
plain_of (OfRow m) = λ l i. at_end l

-- at depth 0 values of one sort are alike
zero_same : (s : Sort) (u v : Value) → Of s u → Of s v → cut zero u ≡ cut zero v
zero_same OfType (of_type t) (of_type u) p q = refl
zero_same OfType (of_type t) (of_field u) p q = absurd q
zero_same OfType (of_type t) (of_row u) p q = absurd q
zero_same OfType (of_field t) v p q = absurd p
zero_same OfType (of_row t) v p q = absurd p
zero_same OfField (of_type t) v p q = absurd p
zero_same OfField (of_field t) (of_type u) p q = absurd q
zero_same OfField (of_field t) (of_field u) p q = refl
zero_same OfField (of_field t) (of_row u) p q = absurd q
zero_same OfField (of_row t) v p q = absurd p
zero_same (OfRow m) (of_type t) v p q = absurd p
zero_same (OfRow m) (of_field t) v p q = absurd p
zero_same (OfRow m) (of_row t) (of_type u) p q = absurd q
zero_same (OfRow m) (of_row t) (of_field u) p q = absurd q
zero_same (OfRow m) (of_row t) (of_row u) p q = refl

one_of : (h : Wrap) (u : Value) → Of (one_gives h) (one h u)
one_of ListOf u = tt
one_of RecordOf u = tt
one_of HasOf u = tt

row_of_holds : (s t : Sort) (l : ℕ) (u v : Value) → Over s l t → Of t v → Of s (row_of l u v)
row_of_holds OfType t l u v o p = absurd o
row_of_holds OfField t l u v o p = absurd o
row_of_holds (OfRow m) OfType l u v o p = absurd o
row_of_holds (OfRow m) OfField l u v o p = absurd o
row_of_holds (OfRow m) (OfRow n) l u v o p = λ k i. at_other (as_row v) l k (as_field u) (λ e. o.new (subst (λ (j : ℕ). In j m) e i)) ∙ row_lacks n v p k (o.old k i)

pub over_spare : (s t : Sort) (l : ℕ) → l < 24 → Over s l t → spare_sort t < spare_sort s
over_spare OfType t l h o = absurd o
over_spare OfField t l h o = absurd o
over_spare (OfRow m) OfType l h o = absurd o
over_spare (OfRow m) OfField l h o = absurd o
over_spare (OfRow m) (OfRow n) l h o = omega (arith, spare_adds m n l o h)

abbrev pub shape : Valuation → ℕ → Valuation → What ℕ → Value
shape a i r Open = a i
shape a i r (Link p) = r p
shape a i r (Leaf h) = leaf h
shape a i r (One h x) = one h (r x)
shape a i r (Two x y) = two (r x) (r y)
shape a i r (RowAt l x y) = row_of l (r x) (r y)

abbrev pub grown : Valuation → List (Cell ℕ) → ℕ → Valuation
grown a cs zero i = plain (sort_at cs i)
grown a cs (suc m) i = shape a i (grown a cs m) (what_at cs i)

module _ (a : Valuation) (cs : List (Cell ℕ)) (formed : Formed cs) (fits : (i : ℕ) → Of (sort_at cs i) (a i)) (small : (i l x y : ℕ) → what_at cs i ≡ RowAt l x y → l < 24) where
  shape_of : (i : ℕ) (r : Valuation) → ((j : ℕ) → j < length cs → Of (sort_at cs j) (r j)) → (w : What ℕ) → Refers cs i w → Of (sort_at cs i) (shape a i r w)
  shape_of i r ih Open e = fits i
  shape_of i r ih (Link p) e = subst (λ (s : Sort). Of s (r p)) (sym e.2) (ih p e.0)
  shape_of i r ih (Leaf h) e = e
  shape_of i r ih (One h x) e = subst (λ (s : Sort). Of s (one h (r x))) (sym e.2) (one_of h (r x))
  shape_of i r ih (Two x y) e = subst (λ (s : Sort). Of s (two (r x) (r y))) (sym e.4) tt
  shape_of i r ih (RowAt l x y) e = row_of_holds (sort_at cs i) (sort_at cs y) l (r x) (r y) e.3 (ih y e.1)

  pub grown_of : (m i : ℕ) → i < length cs → Of (sort_at cs i) (grown a cs m i)
  grown_of zero i il = plain_of (sort_at cs i)
  grown_of (suc m) i il = shape_of i (grown a cs m) (λ j jl. grown_of m j jl) (what_at cs i) (formed.refers i il)

  -- links and tails use steps without depth: by rank, and by labels that may still come
  abbrev pub far : ℕ → ℕ → ℕ
  far d i = steps (25 * suc (length cs)) d + (steps (suc (length cs)) (spare_sort (sort_at cs i)) + (length cs - rank_at cs i))

  far_child : (d i j : ℕ) → far d j < far (suc d) i
  far_child d i j = go (steps (25 * suc (length cs)) d) (steps (suc (length cs)) (spare_sort (sort_at cs j))) (steps (suc (length cs)) (spare_sort (sort_at cs i))) (length cs) (rank_at cs j) (rank_at cs i) (steps_24 (suc (length cs)) (spare_sort (sort_at cs j)) (spare_sort_le (sort_at cs j)))
    where
      go : (p c e n x y : ℕ) → c ≤ 24 * suc n → p + (c + (n - x)) < (25 * suc n + p) + (e + (n - y))
      go p c e n x y h = omega arith

  far_tail : (d i j : ℕ) → spare_sort (sort_at cs j) < spare_sort (sort_at cs i) → far d j < far d i
  far_tail d i j h = go (steps (25 * suc (length cs)) d) (steps (suc (length cs)) (spare_sort (sort_at cs j))) (steps (suc (length cs)) (spare_sort (sort_at cs i))) (length cs) (rank_at cs j) (rank_at cs i) (steps_lt (suc (length cs)) (spare_sort (sort_at cs j)) (spare_sort (sort_at cs i)) h)
    where
      go : (p c e n x y : ℕ) → suc n + c ≤ e → p + (c + (n - x)) < p + (e + (n - y))
      go p c e n x y h = omega arith

  far_link : (d i j : ℕ) → sort_at cs i ≡ sort_at cs j → rank_at cs i < rank_at cs j → rank_at cs j ≤ length cs → far d j < far d i
  far_link d i j e h k = go (steps (25 * suc (length cs)) d) (steps (suc (length cs)) (spare_sort (sort_at cs j))) (steps (suc (length cs)) (spare_sort (sort_at cs i))) (length cs) (rank_at cs j) (rank_at cs i) (ap (λ (s : Sort). steps (suc (length cs)) (spare_sort s)) (sym e)) h k
    where
      go : (p c e n x y : ℕ) → c ≡ e → y < x → x ≤ n → p + (c + (n - x)) < p + (e + (n - y))
      go p c e n x y h u z = omega arith

  near_by : (d i : ℕ) (r s : Valuation) → ((c j : ℕ) → j < length cs → far c j < far (suc d) i → cut c (r j) ≡ cut c (s j)) → (w : What ℕ) → what_at cs i ≡ w → Refers cs i w → cut (suc d) (shape a i r w) ≡ cut (suc d) (shape a i s w)
  near_by d i r s ih Open q e = refl
  near_by d i r s ih (Link p) q e = ih (suc d) p e.0 (far_link (suc d) i p e.2 e.1 (let k = formed.ranks p e.0 in omega arith))
  near_by d i r s ih (Leaf h) q e = refl
  near_by d i r s ih (One h x) q e = cong_one d h (r x) (s x) (ih d x e.0 (far_child d i x))
  near_by d i r s ih (Two x y) q e = cong_two d (r x) (r y) (s x) (s y) (ih d x e.0 (far_child d i x)) (ih d y e.1 (far_child d i y))
  near_by d i r s ih (RowAt l x y) q e =
      cong_row d l (r x) (r y) (s x) (s y) (ih d x e.0 (far_child d i x))
      (ih (suc d) y e.1 (far_tail (suc d) i y (over_spare (sort_at cs i) (sort_at cs y) l (small i l x y q) e.3)))

  pub near : (m n d i : ℕ) → i < length cs → far d i < m → far d i < n → cut d (grown a cs m i) ≡ cut d (grown a cs n i)
  near m n zero i il p q = zero_same (sort_at cs i) (grown a cs m i) (grown a cs n i) (grown_of m i il) (grown_of n i il)
  near zero n (suc d) i il p q = absurd (let z : ⊥ = omega arith in z)
  near (suc m) zero (suc d) i il p q = absurd (let z : ⊥ = omega arith in z)
  near (suc m) (suc n) (suc d) i il p q =
      near_by d i (grown a cs m) (grown a cs n) (λ c j l u. near m n c j l (less_than (far c j) (far (suc d) i) m u p) (less_than (far c j) (far (suc d) i) n u q)) (what_at cs i) refl (formed.refers i il)
    where
      less_than : (a b c : ℕ) → a < b → b < suc c → a < c
      less_than a b c p q = omega arith

  abbrev pub fuel : ℕ → ℕ
  fuel d = suc (steps (25 * suc (length cs)) d + 25 * suc (length cs))

  abbrev pub cutoff : ℕ → Valuation
  cutoff d = grown a cs (fuel d)

  cut_says : (d i : ℕ) (w : What ℕ) → cut d (cutoff d i) ≡ cut d (shape a i (cutoff d) w) → Says (cut d) (cutoff d) i w
  cut_says d i Open e = tt
  cut_says d i (Link p) e = e
  cut_says d i (Leaf h) e = e
  cut_says d i (One h x) e = e
  cut_says d i (Two x y) e = e
  cut_says d i (RowAt l x y) e = e

  far_fuel : (d i : ℕ) → far d i < fuel d
  far_fuel d i = go (steps (25 * suc (length cs)) d) (steps (suc (length cs)) (spare_sort (sort_at cs i))) (length cs) (rank_at cs i) (steps_24 (suc (length cs)) (spare_sort (sort_at cs i)) (spare_sort_le (sort_at cs i)))
    where
      go : (p c n x : ℕ) → c ≤ 24 * suc n → p + (c + (n - x)) < suc (p + 25 * suc n)
      go p c n x h = omega arith

  pub meets : (d : ℕ) → Holds (cut d) cs (cutoff d)
  meets d i il = (
    cut_says d i (what_at cs i) (near (fuel d) (suc (fuel d)) d i il (far_fuel d i) (more (far d i) (fuel d) (far_fuel d i))),
    grown_of (fuel d) i il,
  )
    where
      more : (a b : ℕ) → a < b → a < suc b
      more a b h = omega arith
