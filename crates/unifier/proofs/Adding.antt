-- One cell more.
use Rattle.std.proofs.Common.{◌≡◌, ℕ, suc, ◌+◌, ◌-◌, ◌<◌, ◌≤◌, cond, ltb, List, [], ◌∷◌, ◌++◌, length, get_or, sym, refl, ap, ◌∙◌, subst, ⊎_elim, arith, length-append}
use Rattle.std.proofs.lemmas.List.{get_or_append_left, get_or-append_right, get_or_past}
use Rattle.std.proofs.lemmas.Bool.{cases_lt, lt-ltb, le-ltb, cond-true, cond-false}
use Rattle.cells.specs.declared.What.{What}
use Rattle.cells.specs.declared.What.TheVariants.{Open, Link, Leaf, One, Two, Row as RowAt}
use Rattle.cells.specs.declared.Cell.{Cell}
use Rattle.cells.specs.Cells.{none, what_at, rank_at, sort_at, roots, Refers, Formed}
use Rattle.cells.specs.Weights.{Lower, Falls}
use Rattle.cells.proofs.Linking.{roots_append}
use Rattle.cells.proofs.Extending.{Inside, inside}
use Rattle.cells.proofs.Forming.{keeps, roots_le}
use Rattle.cells.proofs.Chains.{known}
use Rattle.unifier.specs.Fine.{Fine, Proper, Small}
use Rattle.cells.specs.declared.Bare.TheVariants.{Absent}

module _ (cs : List (Cell ℕ)) (c : Cell ℕ) where
  abbrev ds : List (Cell ℕ)
  ds = cs ++ c ∷ []

  ll : length ds ≡ suc (length cs)
  ll = omega (arith, length-append cs (c ∷ []))

  old : (i : ℕ) → i < length cs → get_or ds i none ≡ get_or cs i none
  old i il = get_or_append_left cs (c ∷ []) none i il

  new : get_or ds (length cs) none ≡ c
  new =
      get_or-append_right cs (c ∷ []) (length cs) (length cs) none refl (omega arith)
      ∙ ap (λ (k : ℕ). get_or (c ∷ []) k none) (let z : length cs - length cs ≡ 0 = omega arith in z)

  -- each index is an old one or the new one's
  either : (P : ℕ → Type 0) → ((i : ℕ) → i < length cs → P i) → P (length cs) → (i : ℕ) → i < length ds → P i
  either P p q i il =
      ⊎_elim (λ (l : i < length cs). p i l) (λ (l : length cs ≤ i). subst P (let z : length cs ≡ i = omega (arith, ll, il, l) in z) q) (cases_lt i (length cs))

  pub fine_added : Fine cs → Proper c.what → Small c.sort → c.rank ≡ 0 → Refers ds (length cs) c.what → Fine ds
  fine_added f p s k r =
      let z = known cs 0 (Leaf Absent) f.absent refl in
      let more : roots ds ≤ suc (roots cs) = omega (arith, roots_append cs (c ∷ []), roots_le (c ∷ [])) in
      record {
        formed = record {
          refers = either (λ i. Refers ds i (what_at ds i))
              (λ i il. subst (Refers ds i) (sym (ap (λ (x : Cell ℕ). x.what) (old i il)))
              (keeps cs ds (omega (arith, ll)) (λ j jl. ap (λ (x : Cell ℕ). x.sort) (old j jl)) i (what_at cs i) il
              (λ q e ql h. omega (arith, ap (λ (x : Cell ℕ). x.rank) (old i il), ap (λ (x : Cell ℕ). x.rank) (old q ql), h)) (f.formed.refers i il)))
              (subst (Refers ds (length cs)) (sym (ap (λ (x : Cell ℕ). x.what) new)) r);
          ranks = either (λ i. rank_at ds i + roots ds ≤ length ds)
              (λ i il. let h = f.formed.ranks i il in omega (arith, ap (λ (x : Cell ℕ). x.rank) (old i il), h, more, ll))
              (omega (arith, ap (λ (x : Cell ℕ). x.rank) new, k, roots_le cs, more, ll));
        };
        proper = either (λ i. Proper (what_at ds i)) (λ i il. subst Proper (sym (ap (λ (x : Cell ℕ). x.what) (old i il))) (f.proper i il)) (subst Proper (sym (ap (λ (x : Cell ℕ). x.what) new)) p);
        small = either (λ i. Small (sort_at ds i)) (λ i il. subst Small (sym (ap (λ (x : Cell ℕ). x.sort) (old i il))) (f.small i il)) (subst Small (sym (ap (λ (x : Cell ℕ). x.sort) new)) s);
        absent = ap (λ (x : Cell ℕ). x.what) (old 0 z) ∙ f.absent;
        field = ap (λ (x : Cell ℕ). x.sort) (old 0 z) ∙ f.field;
      }

  -- references fall as before, and from the new cell
  module _ (k : ℕ → ℕ) (falls : Falls cs k) (formed : Formed cs) where
    abbrev top : What ℕ → ℕ
    top Open = 0
    top (Link p) = k p
    top (Leaf h) = 0
    top (One h x) = k x
    top (Two x y) = k x + k y
    top (RowAt l x y) = k x + k y

    abbrev pub raised : ℕ → ℕ
    raised i = cond (ltb i (length cs)) (k i) (suc (top c.what))

    at_old : (i : ℕ) → i < length cs → raised i ≡ k i
    at_old i l = cond-true (ltb i (length cs)) (k i) (suc (top c.what)) (lt-ltb i (length cs) l)

    at_new : raised (length cs) ≡ suc (top c.what)
    at_new = cond-false (ltb (length cs) (length cs)) (k (length cs)) (suc (top c.what)) (le-ltb (length cs) (length cs) (omega arith))

    lower_old : (i : ℕ) → i < length cs → (w : What ℕ) → Inside (length cs) w → Lower k i w → Lower raised i w
    lower_old i l Open n h = tt
    lower_old i l (Link p) n h = omega (arith, at_old i l, at_old p n, h)
    lower_old i l (Leaf a) n h = tt
    lower_old i l (One a x) n h = omega (arith, at_old i l, at_old x n, h)
    lower_old i l (Two x y) n h = (omega (arith, at_old i l, at_old x n.0, h.0), omega (arith, at_old i l, at_old y n.1, h.1))
    lower_old i l (RowAt a x y) n h = (omega (arith, at_old i l, at_old x n.0, h.0), omega (arith, at_old i l, at_old y n.1, h.1))

    lower_new : (w : What ℕ) → raised (length cs) ≡ suc (top w) → Inside (length cs) w → Lower raised (length cs) w
    lower_new Open e n = tt
    lower_new (Link p) e n = omega (arith, e, at_old p n)
    lower_new (Leaf a) e n = tt
    lower_new (One a x) e n = omega (arith, e, at_old x n)
    lower_new (Two x y) e n = (omega (arith, e, at_old x n.0), omega (arith, e, at_old y n.1))
    lower_new (RowAt a x y) e n = (omega (arith, e, at_old x n.0), omega (arith, e, at_old y n.1))

    pub falls_added : Inside (length cs) c.what → Falls ds raised
    falls_added n i =
        ⊎_elim
        (λ (l : i < length ds).
        either (λ j. Lower raised j (what_at ds j))
        (λ j jl. subst (Lower raised j) (sym (ap (λ (x : Cell ℕ). x.what) (old j jl))) (lower_old j jl (what_at cs j) (inside cs j (what_at cs j) (formed.refers j jl)) (falls j)))
        (subst (Lower raised (length cs)) (sym (ap (λ (x : Cell ℕ). x.what) new)) (lower_new c.what at_new n)) i l)
        (λ (l : length ds ≤ i). subst (Lower raised i) (sym (ap (λ (x : Cell ℕ). x.what) (get_or_past ds i none l))) tt)
        (cases_lt i (length ds))
