-- A number that falls along every reference in every solution: by size, then by labels that may still come, then by rank.
use Rattle.std.proofs.Common.{◌≡◌, ℕ, zero, suc, ◌+◌, ◌-◌, ◌*◌, ◌<◌, ◌≤◌, List, length, sym, refl, ap, ◌∙◌, subst, arith}
use Rattle.ground.specs.Values.{Row, end, next, Field, absent, has, first, rest, before, at, put}
use Rattle.ground.specs.Sorts.{Of}
use Rattle.ground.specs.Heads.{none_lacked}
use Rattle.ground.specs.declared.sort.Sort.{Sort}
use Rattle.ground.specs.declared.sort.Sort.TheVariants.{«Type» as OfType, Field as OfField, Row as OfRow}
use Rattle.ground.specs.declared.sort.Labels.{Labels}
use Rattle.cells.specs.declared.What.{What}
use Rattle.cells.specs.declared.What.TheVariants.{Link, One, Two, Row as RowAt}
use Rattle.cells.specs.declared.Cell.{Cell}
use Rattle.cells.specs.Cuts.{size_ty, size_row, size_field, size}
use Rattle.cells.specs.Cells.{as_field, as_row, one, row_of, what_at, rank_at, sort_at, Says, Holds, Valuation, Formed, Refers, Over, Adds, one_sort}
use Rattle.cells.specs.Rooms.{spare_sort}
use Rattle.cells.proofs.Building.{type_is, field_is, row_is, row_lacks}
use Rattle.cells.proofs.Spending.{spare_adds, spare_sort_le}
use Rattle.cells.proofs.Chains.{over_is}
use Rattle.cells.specs.declared.Wrap.{Wrap}
use Rattle.cells.specs.declared.Wrap.TheVariants.{List as ListOf, Record as RecordOf, Has as HasOf}
pub use Rattle.cells.specs.Weights.{same, steps, weight}

abbrev inner : Field → ℕ
inner absent = 0
inner (has t) = size_ty t

size_before : (f : Field) (r : Row) → size_row (before f r) ≡ inner f + size_row r
size_before absent end = omega arith
size_before absent (next g t r) = omega arith
size_before (has t) r = omega arith

size_parts : (r : Row) → size_row r ≡ inner (first r) + size_row (rest r)
size_parts end = omega arith
size_parts (next zero t r) = omega arith
size_parts (next (suc g) t r) = omega arith

-- a row with a field more is larger by that field
pub size_put : (r : Row) (l : ℕ) (f : Field) → size_row (put r l f) + inner (at r l) ≡ size_row r + inner f
size_put r zero f = omega (arith, size_before f (rest r), size_parts r)
size_put r (suc l) f = omega (arith, size_before (first r) (put (rest r) l f), size_put (rest r) l f, size_parts r)

field_size : (f : Field) → size_field f ≤ suc (inner f)
field_size absent = omega arith
field_size (has t) = omega arith

pub steps_le : (s a b : ℕ) → a ≤ b → steps s a ≤ steps s b
steps_le s zero b h = omega arith
steps_le s (suc a) zero h = absurd (let z : ⊥ = omega arith in z)
steps_le s (suc a) (suc b) h = omega (arith, steps_le s a b (omega arith))

pub steps_lt : (s a b : ℕ) → a < b → s + steps s a ≤ steps s b
steps_lt s a b h = steps_le s (suc a) b h

pub steps_24 : (s a : ℕ) → a ≤ 24 → steps s a ≤ 24 * s
steps_24 s a h = omega (arith, steps_le s a 24 h)

-- smaller, whatever the rest
lighter : (cs : List (Cell ℕ)) (v : Valuation) (i j : ℕ) → size (v j) < size (v i) → weight cs v j < weight cs v i
lighter cs v i j h =
    let s = suc (length cs) in
    let a = steps_lt (25 * s) (size (v j)) (size (v i)) h in
    let b = steps_24 s (spare_sort (sort_at cs j)) (spare_sort_le (sort_at cs j)) in
    abstractly (steps (25 * s) (size (v j))) (steps (25 * s) (size (v i))) (steps s (spare_sort (sort_at cs j))) (steps s (spare_sort (sort_at cs i))) (length cs) (rank_at cs j) (rank_at cs i) a b
  where
    abstractly : (p q c d n x y : ℕ) → 25 * suc n + p ≤ q → c ≤ 24 * suc n → p + (c + (n - x)) < q + (d + (n - y))
    abstractly p q c d n x y a b = omega arith

-- no larger, and with a label less to come
narrower : (cs : List (Cell ℕ)) (v : Valuation) (i j : ℕ) → size (v j) ≤ size (v i) → spare_sort (sort_at cs j) < spare_sort (sort_at cs i) → weight cs v j < weight cs v i
narrower cs v i j h k =
    let s = suc (length cs) in
    abstractly (steps (25 * s) (size (v j))) (steps (25 * s) (size (v i))) (steps s (spare_sort (sort_at cs j))) (steps s (spare_sort (sort_at cs i))) (length cs) (rank_at cs j) (rank_at cs i)
    (steps_le (25 * s) (size (v j)) (size (v i)) h) (steps_lt s (spare_sort (sort_at cs j)) (spare_sort (sort_at cs i)) k)
  where
    abstractly : (p q c d n x y : ℕ) → p ≤ q → suc n + c ≤ d → p + (c + (n - x)) < q + (d + (n - y))
    abstractly p q c d n x y a b = omega arith

-- along a row: its field is smaller, its tail no larger and of a sort with a label less to come
module _ (cs : List (Cell ℕ)) (formed : Formed cs) (v : Valuation) (h : Holds same cs v) (i l x y : ℕ) (m n : Labels) (il : i < length cs) (w : what_at cs i ≡ RowAt l x y) (small : l < 24)
    (si : sort_at cs i ≡ OfRow m) (sy : sort_at cs y ≡ OfRow n) (sx : sort_at cs x ≡ OfField) (adds : Adds m l n) (xl : x < length cs) (yl : y < length cs) where
  is : v i ≡ row_of l (v x) (v y)
  is = subst (λ (c : What ℕ). Says same v i c) w (h i il).0

  lacks : at (as_row (v y)) l ≡ absent
  lacks = row_lacks n (v y) (subst (λ (s : Sort). Of s (v y)) sy (h y yl).1) l adds.here

  sum : size (v i) ≡ suc (suc (size_row (as_row (v y)) + inner (as_field (v x))))
  sum = ap size is ∙ (let e = size_put (as_row (v y)) l (as_field (v x)) in let z : inner (at (as_row (v y)) l) ≡ 0 = ap inner lacks in omega (arith, e, z))

  pub field_falls : weight cs v x < weight cs v i
  field_falls =
      let e : size (v x) ≡ size_field (as_field (v x)) = ap size (field_is (v x) (subst (λ (s : Sort). Of s (v x)) sx (h x xl).1)) in
      lighter cs v i x (omega (arith, sum, e, field_size (as_field (v x))))

  pub tail_falls : weight cs v y < weight cs v i
  tail_falls =
      let e : size (v y) ≡ suc (suc (size_row (as_row (v y)))) = ap size (row_is n (v y) (subst (λ (s : Sort). Of s (v y)) sy (h y yl).1)) in
      narrower cs v i y (omega (arith, sum, e)) (omega (arith, ap spare_sort si, ap spare_sort sy, spare_adds m n l adds small))

-- along a link the values and sorts are the same, and the rank rises
pub link_falls : (cs : List (Cell ℕ)) → Formed cs → (v : Valuation) → Holds same cs v → (i p : ℕ) → i < length cs → what_at cs i ≡ Link p → weight cs v p < weight cs v i
link_falls cs f v h i p il e =
    let r = subst (Refers cs i) e (f.refers i il) in
    let q : v i ≡ v p = subst (λ (c : What ℕ). Says same v i c) e (h i il).0 in
    let k = f.ranks p r.0 in
    let s = suc (length cs) in
    abstractly (steps (25 * s) (size (v p))) (steps (25 * s) (size (v i))) (steps s (spare_sort (sort_at cs p))) (steps s (spare_sort (sort_at cs i))) (length cs) (rank_at cs p) (rank_at cs i)
    (ap (λ u. steps (25 * s) (size u)) (sym q)) (ap (λ u. steps s (spare_sort u)) (sym r.2)) r.1 (omega (arith, k))
  where
    abstractly : (p q c d n x y : ℕ) → p ≡ q → c ≡ d → y < x → x ≤ n → p + (c + (n - x)) < q + (d + (n - y))
    abstractly p q c d n x y a b u z = omega arith

-- along a head to its children
module _ (cs : List (Cell ℕ)) (f : Formed cs) (v : Valuation) (h : Holds same cs v) (i : ℕ) (il : i < length cs) where
  of : (j : ℕ) (s : Sort) → j < length cs → sort_at cs j ≡ s → Of s (v j)
  of j s jl e = subst (λ (t : Sort). Of t (v j)) e (h j jl).1

  child_size : (k : Wrap) (x : ℕ) → x < length cs → one_sort k (sort_at cs x) → size (v x) < size (one k (v x))
  child_size ListOf x xl s = omega (arith, ap size (type_is (v x) (of x OfType xl s)))
  child_size RecordOf x xl s = omega (arith, ap size (row_is none_lacked (v x) (of x (OfRow none_lacked) xl s)))
  child_size HasOf x xl s = omega (arith, ap size (type_is (v x) (of x OfType xl s)))

  pub one_falls : (k : Wrap) (x : ℕ) → what_at cs i ≡ One k x → weight cs v x < weight cs v i
  one_falls k x w =
      let r = subst (Refers cs i) w (f.refers i il) in
      let e = ap size (subst (λ (c : What ℕ). Says same v i c) w (h i il).0) in
      lighter cs v i x (omega (arith, e, child_size k x r.0 r.1))

  pub two_falls : (x y : ℕ) → what_at cs i ≡ Two x y → (weight cs v x < weight cs v i) × (weight cs v y < weight cs v i)
  two_falls x y w =
      let r = subst (Refers cs i) w (f.refers i il) in
      let e = ap size (subst (λ (c : What ℕ). Says same v i c) w (h i il).0) in
      let a = ap size (type_is (v x) (of x OfType r.0 r.2)) in
      let b = ap size (type_is (v y) (of y OfType r.1 r.3)) in
      (lighter cs v i x (omega (arith, e, a, b)), lighter cs v i y (omega (arith, e, a, b)))

  pub row_falls : (l x y : ℕ) → l < 24 → what_at cs i ≡ RowAt l x y → (weight cs v x < weight cs v i) × (weight cs v y < weight cs v i)
  row_falls l x y small w =
      let r = subst (Refers cs i) w (f.refers i il) in
      go (sort_at cs i) refl r.3
    where
      go : (s : Sort) → sort_at cs i ≡ s → Over (sort_at cs i) l (sort_at cs y) → (weight cs v x < weight cs v i) × (weight cs v y < weight cs v i)
      go OfType e o = absurd (subst (λ (t : Sort). Over t l (sort_at cs y)) e o)
      go OfField e o = absurd (subst (λ (t : Sort). Over t l (sort_at cs y)) e o)
      go (OfRow m) e o =
          let r = subst (Refers cs i) w (f.refers i il) in
          let a = over_is (sort_at cs i) (sort_at cs y) l m e o in (
            field_falls cs f v h i l x y m a.0 il w small e a.1 r.2 a.2 r.0 r.1,
            tail_falls cs f v h i l x y m a.0 il w small e a.1 r.2 a.2 r.0 r.1,
          )
