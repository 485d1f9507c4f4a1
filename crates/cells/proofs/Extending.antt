-- One extension: an open tail o gets the label l with the field x, and a new open tail.
use Rattle.std.proofs.Common.{◌≡◌, ℕ, suc, ◌+◌, ◌-◌, ◌<◌, ◌≤◌, cond, eqb, ltb, ◌⊎◌, List, [], ◌∷◌, length, get_or, sym, refl, ap, ◌∙◌, subst, ap₂, inl, inr, ⊎_elim, arith, length-append}
use Rattle.std.proofs.lemmas.List.{get_or_append_left, get_or-append_right}
use Rattle.std.proofs.lemmas.Bool.{cases_eq, cases_lt, lt-ltb, le-ltb, eq-eqb, ne_eqb, cond-true, cond-false}
use Rattle.ground.specs.Values.{absent, Value, of_row, at, put}
use Rattle.ground.specs.Sorts.{Of, In}
use Rattle.ground.specs.declared.sort.Sort.{Sort}
use Rattle.ground.specs.declared.sort.Sort.TheVariants.{Row as OfRow}
use Rattle.ground.specs.declared.sort.Labels.{Labels}
use Rattle.ground.proofs.Rows.{at_put, at_other, put_back}
use Rattle.cells.specs.declared.What.{What}
use Rattle.cells.specs.declared.What.TheVariants.{Open, Link, Leaf, One, Two, Row as RowAt}
use Rattle.cells.specs.declared.Cell.{Cell}
use Rattle.cells.specs.Cuts.{cut_field, cut_row, cut}
use Rattle.cells.specs.Cells.{as_field, as_row, one, two, row_of, what_at, sort_at, none, Root, rootly, roots, Refers, Formed, Says, Holds, Valuation, Adds, row_cell, tail_cell, longer, extended, Agree}
use Rattle.cells.proofs.Cutting.{fields_agree, put_cut}
use Rattle.cells.proofs.Building.{rows_seen, row_is, row_lacks}
use Rattle.cells.proofs.Linking.{length_linked, link_down, link_eq, link_up, roots_linked, roots_append}

abbrev pub Inside : ℕ → What ℕ → Type 0
Inside n Open = Unit {0}
Inside n (Link p) = p < n
Inside n (Leaf h) = Unit {0}
Inside n (One h x) = x < n
Inside n (Two x y) = (x < n) × (y < n)
Inside n (RowAt l x y) = (x < n) × (y < n)

pub inside : (cs : List (Cell ℕ)) (i : ℕ) (w : What ℕ) → Refers cs i w → Inside (length cs) w
inside cs i Open r = tt
inside cs i (Link p) r = r.0
inside cs i (Leaf h) r = tt
inside cs i (One h x) r = r.0
inside cs i (Two x y) r = (r.0, r.1)
inside cs i (RowAt l x y) r = (r.0, r.1)

-- what a cell says depends on the values of what it refers to
pub says_agree : (f : Value → Value) (n : ℕ) (v w : Valuation) → Agree n v w → (i : ℕ) → i < n → (c : What ℕ) → Inside n c → Says f v i c → Says f w i c
says_agree f n v w a i il Open r s = tt
says_agree f n v w a i il (Link p) r s = ap f (a i il) ∙ s ∙ sym (ap f (a p r))
says_agree f n v w a i il (Leaf h) r s = ap f (a i il) ∙ s
says_agree f n v w a i il (One h x) r s = ap f (a i il) ∙ s ∙ sym (ap (λ u. f (one h u)) (a x r))
says_agree f n v w a i il (Two x y) r s = ap f (a i il) ∙ s ∙ sym (ap₂ (λ t u. f (two t u)) (a x r.0) (a y r.1))
says_agree f n v w a i il (RowAt l x y) r s = ap f (a i il) ∙ s ∙ sym (ap₂ (λ t u. f (row_of l t u)) (a x r.0) (a y r.1))

-- a valuation with two more values
abbrev pub stretched : Valuation → ℕ → Value → Value → Valuation
stretched v n a b i = cond (ltb i n) (v i) (cond (eqb i n) a b)

pub stretched_old : (v : Valuation) (n : ℕ) (a b : Value) → Agree n v (stretched v n a b)
stretched_old v n a b i l = cond-true (ltb i n) (v i) (cond (eqb i n) a b) (lt-ltb i n l)

pub stretched_first : (v : Valuation) (n : ℕ) (a b : Value) → stretched v n a b n ≡ a
stretched_first v n a b = cond-false (ltb n n) (v n) (cond (eqb n n) a b) (le-ltb n n (omega arith)) ∙ cond-true (eqb n n) a b (eq-eqb n n refl)

pub stretched_second : (v : Valuation) (n : ℕ) (a b : Value) → stretched v n a b (suc n) ≡ b
stretched_second v n a b = cond-false (ltb (suc n) n) (v (suc n)) (cond (eqb (suc n) n) a b) (le-ltb (suc n) n (omega arith)) ∙ cond-false (eqb (suc n) n) a b (ne_eqb (suc n) n (λ e. let z : ⊥ = omega arith in z))

module _ (cs : List (Cell ℕ)) (o l x : ℕ) (m n : Labels) (ol : o < length cs) (xl : x < length cs) (oo : what_at cs o ≡ Open) (os : sort_at cs o ≡ OfRow m) (adds : Adds m l n) where
  abbrev ls : List (Cell ℕ)
  ls = longer cs o l x n

  pub length_longer : length ls ≡ suc (suc (length cs))
  length_longer = omega (arith, length-append cs (row_cell cs o l x ∷ tail_cell n ∷ []))

  pub longer_old : (i : ℕ) → i < length cs → get_or ls i none ≡ get_or cs i none
  longer_old i il = get_or_append_left cs (row_cell cs o l x ∷ tail_cell n ∷ []) none i il

  pub longer_row : get_or ls (length cs) none ≡ row_cell cs o l x
  longer_row =
      get_or-append_right cs (row_cell cs o l x ∷ tail_cell n ∷ []) (length cs) (length cs) none refl (omega arith)
      ∙ ap (λ (k : ℕ). get_or (row_cell cs o l x ∷ tail_cell n ∷ []) k none) (let z : length cs - length cs ≡ 0 = omega arith in z)

  pub longer_tail : get_or ls (suc (length cs)) none ≡ tail_cell n
  longer_tail =
      get_or-append_right cs (row_cell cs o l x ∷ tail_cell n ∷ []) (length cs) (suc (length cs)) none refl (omega arith)
      ∙ ap (λ (k : ℕ). get_or (row_cell cs o l x ∷ tail_cell n ∷ []) k none) (let z : suc (length cs) - length cs ≡ 1 = omega arith in z)

  o_longer : o < length ls
  o_longer = omega (arith, length_longer, ol)

  n_longer : length cs < length ls
  n_longer = omega (arith, length_longer)

  o_apart : o ≡ length cs → ⊥
  o_apart e = omega (arith, ol, e)

  pub length_extended : length (extended cs o l x n) ≡ suc (suc (length cs))
  length_extended = length_linked ls o (length cs) o_longer n_longer o_apart ∙ length_longer

  -- each index is an old one, the row's or the tail's
  which_cell : (i : ℕ) → i < length ls → (i < length cs) ⊎ ((i ≡ length cs) ⊎ (i ≡ suc (length cs)))
  which_cell i il =
      ⊎_elim (λ (p : i < length cs). inl p)
      (λ (p : length cs ≤ i). inr (⊎_elim (λ (e : i ≡ length cs). inl e) (λ (q : i ≡ length cs → ⊥). inr (omega (arith, length_longer, il, p, q))) (cases_eq i (length cs))))
      (cases_lt i (length cs))

  -- the old tail without l
  abbrev pub remainder : Valuation → Value
  remainder v = of_row (put (as_row (v o)) l absent)

  abbrev pub extending : Valuation → Valuation
  extending v = stretched v (length cs) (v o) (remainder v)

  pub extending_old : (v : Valuation) → Agree (length cs) v (extending v)
  extending_old v = stretched_old v (length cs) (v o) (remainder v)

  remainder_of : (f : Value → Value) (v : Valuation) → Holds f cs v → Of (OfRow n) (remainder v)
  remainder_of f v h k i =
      let here : Of (OfRow m) (v o) = subst (λ (s : Sort). Of s (v o)) os (h o ol).1 in
      ⊎_elim
      (λ (e : k ≡ l). ap (at (put (as_row (v o)) l absent)) e ∙ at_put (as_row (v o)) l absent)
      (λ (q : k ≡ l → ⊥). at_other (as_row (v o)) l k absent q ∙ ⊎_elim (λ (e : k ≡ l). absurd (q e)) (λ (j : In k m). row_lacks m (v o) here k j) (adds.only k i))
      (cases_eq k l)

  module _ (formed : Formed cs) (d : ℕ) (v : Valuation) (h : Holds (cut (suc d)) cs v) (e : cut_field d (at (as_row (v o)) l) ≡ cut_field d (as_field (v x))) where
    old : Agree (length cs) v (extending v)
    old = stretched_old v (length cs) (v o) (remainder v)

    split : cut (suc d) (v o) ≡ cut (suc d) (row_of l (v x) (remainder v))
    split =
        let here : Of (OfRow m) (v o) = subst (λ (s : Sort). Of s (v o)) os (h o ol).1 in
        let r = as_row (v o) in
        ap (cut (suc d)) (row_is m (v o) here)
        ∙ ap of_row (ap (cut_row (suc d)) (sym (put_back r l)) ∙ put_cut d (put r l absent) (put r l absent) l (at r l) (as_field (v x)) refl e)

    abbrev Good : ℕ → Cell ℕ → Type 0
    Good i c = Says (cut (suc d)) (extending v) i c.what × Of c.sort (extending v i)

    at_old : (i : ℕ) → i < length cs → Good i (get_or cs i none)
    at_old i il = (
      says_agree (cut (suc d)) (length cs) v (extending v) old i il (what_at cs i) (inside cs i (what_at cs i) (formed.refers i il)) (h i il).0,
      subst (Of (sort_at cs i)) (sym (old i il)) (h i il).1,
    )

    at_row : Good (length cs) (row_cell cs o l x)
    at_row =
        let p = stretched_first v (length cs) (v o) (remainder v) in
        let q = stretched_second v (length cs) (v o) (remainder v) in (
          ap (cut (suc d)) p ∙ split ∙ sym (ap₂ (λ t u. cut (suc d) (row_of l t u)) (old x xl) q),
          subst (Of (sort_at cs o)) (sym p) (h o ol).1,
        )

    at_tail : Good (suc (length cs)) (tail_cell n)
    at_tail = (tt, subst (Of (OfRow n)) (sym (stretched_second v (length cs) (v o) (remainder v))) (remainder_of (cut (suc d)) v h))

    holds_longer : Holds (cut (suc d)) ls (extending v)
    holds_longer i il =
        ⊎_elim
        (λ (p : i < length cs). subst (Good i) (sym (longer_old i p)) (at_old i p))
        (λ (q : (i ≡ length cs) ⊎ (i ≡ suc (length cs))).
        ⊎_elim
        (λ (p : i ≡ length cs). subst (λ (j : ℕ). Good j (get_or ls j none)) (sym p) (subst (Good (length cs)) (sym longer_row) at_row))
        (λ (p : i ≡ suc (length cs)). subst (λ (j : ℕ). Good j (get_or ls j none)) (sym p) (subst (Good (suc (length cs))) (sym longer_tail) at_tail))
        q)
        (which_cell i il)

    -- DOWN, without loss of depth
    pub extend_down : Holds (cut (suc d)) (extended cs o l x n) (extending v)
    extend_down =
        link_down ls o (length cs) o_longer n_longer o_apart (cut (suc d)) (extending v) holds_longer
        (ap (cut (suc d)) (old o ol ∙ sym (stretched_first v (length cs) (v o) (remainder v))))

  -- UP
  pub extend_up : (f : Value → Value) (v : Valuation) → Holds f (extended cs o l x n) v → Holds f cs v
  extend_up f v h i il =
      let k : Holds f ls v =
      link_up ls o (length cs) o_longer n_longer o_apart f v h
      (subst (λ (c : What ℕ). Says f v o c) (sym (ap (λ (c : Cell ℕ). c.what) (longer_old o ol) ∙ oo)) tt) in
      subst (λ (c : Cell ℕ). Says f v i c.what × Of c.sort (v i)) (longer_old i il) (k i (omega (arith, length_longer, il)))

  pub extend_says : (f : Value → Value) (v : Valuation) → Holds f (extended cs o l x n) v → f (v o) ≡ f (row_of l (v x) (v (suc (length cs))))
  extend_says f v h =
      let k : Holds f ls v =
      link_up ls o (length cs) o_longer n_longer o_apart f v h
      (subst (λ (c : What ℕ). Says f v o c) (sym (ap (λ (c : Cell ℕ). c.what) (longer_old o ol) ∙ oo)) tt) in
      link_eq ls o (length cs) o_longer n_longer o_apart f v h
      ∙ subst (λ (c : Cell ℕ). Says f v (length cs) c.what) longer_row (k (length cs) n_longer).0

  pub extend_field : (d : ℕ) (v : Valuation) → Holds (cut (suc d)) (extended cs o l x n) v → cut_field d (at (as_row (v o)) l) ≡ cut_field d (as_field (v x))
  extend_field d v h =
      let p = put (as_row (v (suc (length cs)))) l (as_field (v x)) in
      fields_agree d (as_row (v o)) p (rows_seen (suc d) (v o) (of_row p) (extend_says (cut (suc d)) v h)) l
      ∙ ap (cut_field d) (at_put (as_row (v (suc (length cs)))) l (as_field (v x)))

  pub roots_extended : roots (extended cs o l x n) ≡ roots cs + 1
  roots_extended =
      let e : Root (what_at ls o) = ap rootly (ap (λ (c : Cell ℕ). c.what) (longer_old o ol) ∙ oo) in
      omega (arith, roots_linked ls o (length cs) o_longer n_longer o_apart e, roots_append cs (row_cell cs o l x ∷ tail_cell n ∷ []))
