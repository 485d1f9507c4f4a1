-- What a link makes of the cells, and of what they say.
use Rattle.std.proofs.Common.{◌≡◌, ℕ, zero, suc, ◌+◌, ◌<◌, max, List, [], ◌∷◌, ◌++◌, length, get_or, set, sym, ap, ◌∙◌, subst, ⊎_elim, arith, length-set}
use Rattle.std.proofs.lemmas.List.{get_or-set_same, get_or-set_other}
use Rattle.std.proofs.lemmas.Bool.{cases_eq}
use Rattle.ground.specs.Values.{Value}
use Rattle.ground.specs.Sorts.{Of}
use Rattle.ground.specs.declared.sort.Sort.{Sort}
use Rattle.cells.specs.declared.What.{What}
use Rattle.cells.specs.declared.What.TheVariants.{Link}
use Rattle.cells.specs.declared.Cell.{Cell}
use Rattle.cells.specs.Cells.{what_at, rank_at, sort_at, none, Root, rootly, roots, linked, Says, Holds, Valuation}

pub roots_set : (cs : List (Cell ℕ)) (i : ℕ) (c : Cell ℕ) → i < length cs → roots (set cs i c) + rootly (what_at cs i) ≡ roots cs + rootly c.what
roots_set [] i c h = absurd (let z : ⊥ = omega arith in z)
roots_set (b ∷ cs) zero c h = omega arith
roots_set (b ∷ cs) (suc i) c h = omega (arith, roots_set cs i c (omega arith))

pub roots_append : (cs ds : List (Cell ℕ)) → roots (cs ++ ds) ≡ roots cs + roots ds
roots_append [] ds = omega arith
roots_append (c ∷ cs) ds = omega (arith, roots_append cs ds)

module _ (cs : List (Cell ℕ)) (r t : ℕ) (rl : r < length cs) (tl : t < length cs) (ne : r ≡ t → ⊥) where
  abbrev lk : Cell ℕ
  lk = record { what = Link t; rank = rank_at cs r; sort = sort_at cs r }

  abbrev tk : Cell ℕ
  tk = record { what = what_at cs t; rank = max (rank_at cs t) (rank_at cs r + 1); sort = sort_at cs t }

  tl2 : t < length (set cs r lk)
  tl2 = simp length-set tl

  at_r : get_or (linked cs r t) r none ≡ lk
  at_r = get_or-set_other (set cs r lk) t r tk none ne ∙ get_or-set_same cs r lk none rl

  at_t : get_or (linked cs r t) t none ≡ tk
  at_t = get_or-set_same (set cs r lk) t tk none tl2

  at_else : (i : ℕ) → (i ≡ r → ⊥) → (i ≡ t → ⊥) → get_or (linked cs r t) i none ≡ get_or cs i none
  at_else i p q = get_or-set_other (set cs r lk) t i tk none q ∙ get_or-set_other cs r i lk none p

  pub what_from : what_at (linked cs r t) r ≡ Link t
  what_from = ap (λ (c : Cell ℕ). c.what) at_r

  pub what_else : (i : ℕ) → (i ≡ r → ⊥) → what_at (linked cs r t) i ≡ what_at cs i
  what_else i p =
      ⊎_elim
      (λ (e : i ≡ t). ap (what_at (linked cs r t)) e ∙ ap (λ (c : Cell ℕ). c.what) at_t ∙ ap (what_at cs) (sym e))
      (λ (q : i ≡ t → ⊥). ap (λ (c : Cell ℕ). c.what) (at_else i p q))
      (cases_eq i t)

  pub rank_to : rank_at (linked cs r t) t ≡ max (rank_at cs t) (rank_at cs r + 1)
  rank_to = ap (λ (c : Cell ℕ). c.rank) at_t

  pub rank_else : (i : ℕ) → (i ≡ t → ⊥) → rank_at (linked cs r t) i ≡ rank_at cs i
  rank_else i q =
      ⊎_elim
      (λ (e : i ≡ r). ap (rank_at (linked cs r t)) e ∙ ap (λ (c : Cell ℕ). c.rank) at_r ∙ ap (rank_at cs) (sym e))
      (λ (p : i ≡ r → ⊥). ap (λ (c : Cell ℕ). c.rank) (at_else i p q))
      (cases_eq i r)

  -- sorts stay
  pub sort_same : (i : ℕ) → sort_at (linked cs r t) i ≡ sort_at cs i
  sort_same i =
      ⊎_elim
      (λ (e : i ≡ r). ap (sort_at (linked cs r t)) e ∙ ap (λ (c : Cell ℕ). c.sort) at_r ∙ ap (sort_at cs) (sym e))
      (λ (p : i ≡ r → ⊥).
      ⊎_elim
      (λ (e : i ≡ t). ap (sort_at (linked cs r t)) e ∙ ap (λ (c : Cell ℕ). c.sort) at_t ∙ ap (sort_at cs) (sym e))
      (λ (q : i ≡ t → ⊥). ap (λ (c : Cell ℕ). c.sort) (at_else i p q))
      (cases_eq i t))
      (cases_eq i r)

  pub length_linked : length (linked cs r t) ≡ length cs
  length_linked = simp length-set

  what_mid : what_at (set cs r lk) t ≡ what_at cs t
  what_mid = ap (λ (c : Cell ℕ). c.what) (get_or-set_other cs r t lk none (λ e. ne (sym e)))

  pub roots_linked : Root (what_at cs r) → roots (linked cs r t) + 1 ≡ roots cs
  roots_linked ro =
      let a = roots_set cs r lk rl in
      let b = roots_set (set cs r lk) t tk tl2 in
      let e = ap rootly what_mid in
      omega (arith, a, b, e, ro)

  -- what holds with both as one holds of the linked cells
  pub link_down : (f : Value → Value) (v : Valuation) → Holds f cs v → f (v r) ≡ f (v t) → Holds f (linked cs r t) v
  link_down f v h e i lt =
      let il : i < length cs = omega (arith, length_linked, lt) in (
        ⊎_elim
            (λ (q : i ≡ r). subst (λ (j : ℕ). Says f v j (what_at (linked cs r t) j)) (sym q) (subst (λ (w : What ℕ). Says f v r w) (sym what_from) e))
            (λ (q : i ≡ r → ⊥). subst (λ (w : What ℕ). Says f v i w) (sym (what_else i q)) (h i il).0)
            (cases_eq i r),
        subst (λ (s : Sort). Of s (v i)) (sym (sort_same i)) (h i il).1,
      )

  pub link_eq : (f : Value → Value) (v : Valuation) → Holds f (linked cs r t) v → f (v r) ≡ f (v t)
  link_eq f v h = subst (λ (w : What ℕ). Says f v r w) what_from (h r (omega (arith, length_linked, rl))).0

  pub link_up : (f : Value → Value) (v : Valuation) → Holds f (linked cs r t) v → Says f v r (what_at cs r) → Holds f cs v
  link_up f v h s i il =
      let lt : i < length (linked cs r t) = omega (arith, length_linked, il) in (
        ⊎_elim
            (λ (q : i ≡ r). subst (λ (j : ℕ). Says f v j (what_at cs j)) (sym q) s)
            (λ (q : i ≡ r → ⊥). subst (λ (w : What ℕ). Says f v i w) (what_else i q) (h i lt).0)
            (cases_eq i r),
        subst (λ (s : Sort). Of s (v i)) (sort_same i) (h i lt).1,
      )
