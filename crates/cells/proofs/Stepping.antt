-- Two rows become one, after the extensions: the fields label by label and the tails are left to be made equal, and one root is linked to the other.
use Rattle.std.proofs.Common.{◌≡◌, ℕ, zero, suc, ◌<◌, true, false, List, ◌∷◌, length, sym, refl, ap, ◌∙◌, subst, arith}
use Rattle.ground.specs.Values.{end, absent, Value, of_row, of_field, at, put}
use Rattle.ground.specs.Sorts.{Of, In}
use Rattle.ground.specs.declared.sort.Sort.{Sort}
use Rattle.ground.specs.declared.sort.Sort.TheVariants.{«Type» as OfType, Field as OfField, Row as OfRow}
use Rattle.ground.specs.declared.sort.Labels.{Labels}
use Rattle.ground.proofs.Rows.{at_end}
use Rattle.cells.specs.declared.What.{What}
use Rattle.cells.specs.declared.What.TheVariants.{Leaf, Row as RowAt}
use Rattle.cells.specs.declared.Cell.{Cell}
use Rattle.cells.specs.Cuts.{cut_field, cut}
use Rattle.cells.specs.Cells.{as_field, as_row, row_of, what_at, sort_at, Says, Holds, Valuation, Leads, stay, on, Formed, Refers, Over, linked}
use Rattle.cells.specs.Rows.{Shown, Chain, ends, shows, shown, lookup, Rooted, bare, over}
use Rattle.cells.proofs.Cutting.{fields_agree, rows_agree, field_absent, less}
use Rattle.cells.proofs.Building.{rows_seen, fields_seen, rows_back, fields_back, row_lacks, row_is}
use Rattle.cells.proofs.Linking.{what_else, length_linked, sort_same, link_down, link_eq, link_up}
use Rattle.cells.proofs.Chains.{known, lead_sort, reads_row, chain_says, chain_sort, chain_field, over_is}
use Rattle.cells.proofs.Crossing.{rows_up, fields_down, tails_down}
use Rattle.cells.specs.declared.Bare.{Bare}
use Rattle.cells.specs.declared.Bare.TheVariants.{Absent, Empty}

pub empty_tail : (d : ℕ) (cs : List (Cell ℕ)) (v : Valuation) (t : ℕ) → Holds (cut (suc d)) cs v → what_at cs t ≡ Leaf Empty → (j : ℕ) → cut_field d (at (as_row (v t)) j) ≡ absent
empty_tail d cs v t h e j =
    fields_agree d (as_row (v t)) end (rows_seen (suc d) (v t) (of_row end) (subst (λ (w : What ℕ). Says (cut (suc d)) v t w) e (h t (known cs t (Leaf Empty) e refl)).0)) j
    ∙ ap (cut_field d) (at_end j) ∙ field_absent d

pub no_field : (d : ℕ) (cs : List (Cell ℕ)) (v : Valuation) (z : ℕ) → Holds (cut (suc d)) cs v → what_at cs z ≡ Leaf Absent → cut_field d (as_field (v z)) ≡ absent
no_field d cs v z h e =
    fields_seen d (v z) (of_field absent) (less d (v z) (of_field absent) (subst (λ (w : What ℕ). Says (cut (suc d)) v z w) e (h z (known cs z (Leaf Absent) e refl)).0))
    ∙ field_absent d

-- a sort that lacks l
abbrev Has : ℕ → Sort → Type 0
Has l OfType = ⊥
Has l OfField = ⊥
Has l (OfRow n) = In l n

-- a link of a cell that does not lack l leaves every chain that does
module _ (cs : List (Cell ℕ)) (a b : ℕ) (al : a < length cs) (bl : b < length cs) (ne : a ≡ b → ⊥) (f : Formed cs) (l : ℕ) (no : Has l (sort_at cs a) → ⊥) where
  apart : (i : ℕ) → Has l (sort_at cs i) → i ≡ a → ⊥
  apart i h e = no (subst (λ (j : ℕ). Has l (sort_at cs j)) e h)

  leads_linked : {c r : ℕ} → Leads cs c r → Has l (sort_at cs c) → Leads (linked cs a b) c r
  leads_linked stay h = stay
  leads_linked (on {i = i} p e) h =
      on (leads_linked p h) (what_else cs a b al bl ne i (apart i (subst (Has l) (lead_sort cs f p) h)) ∙ e)

  over_has : (s t : Sort) (k : ℕ) → Over s k t → Has l s → Has l t
  over_has OfType t k o h = absurd o
  over_has OfField t k o h = absurd o
  over_has (OfRow m) OfType k o h = absurd o
  over_has (OfRow m) OfField k o h = absurd o
  over_has (OfRow m) (OfRow n) k o h = o.old l h

  pub chain_linked : {c t : ℕ} {fs : List Shown} → Chain cs c fs t → Has l (sort_at cs c) → Chain (linked cs a b) c fs t
  chain_linked (ends p) h = ends (leads_linked p h)
  chain_linked (shows {z = z} {l = k} {x = x} {y = y} p e ch) h =
      let hz : Has l (sort_at cs z) = subst (Has l) (lead_sort cs f p) h in
      let r = subst (Refers cs z) e (f.refers z (known cs z (RowAt k x y) e refl)) in
      shows (leads_linked p h) (what_else cs a b al bl ne z (apart z hz) ∙ e) (chain_linked ch (over_has (sort_at cs z) (sort_at cs y) k r.3 hz))

pub rooted_chain : (cs : List (Cell ℕ)) {b t : ℕ} {gs : List Shown} → Rooted cs b gs t → Chain cs b gs t
rooted_chain cs bare = ends stay
rooted_chain cs (over e ch) = shows stay e ch

-- the rest of a row's chain stands when a root of the row's sort is linked
module _ (cs : List (Cell ℕ)) (a b : ℕ) (al : a < length cs) (bl : b < length cs) (ne : a ≡ b → ⊥) (f : Formed cs) (m : Labels) (sa : sort_at cs a ≡ OfRow m) where
  pub rest_linked : (c l x y t : ℕ) (fs : List Shown) → sort_at cs c ≡ OfRow m → what_at cs c ≡ RowAt l x y → Chain cs y fs t → Chain (linked cs a b) y fs t
  rest_linked c l x y t fs sc e ch =
      let r = subst (Refers cs c) e (f.refers c (known cs c (RowAt l x y) e refl)) in
      let o = over_is (sort_at cs c) (sort_at cs y) l m sc r.3 in
      chain_linked cs a b al bl ne f l (λ h. o.2.new (subst (Has l) sa h)) ch (subst (Has l) (sym o.1) o.2.here)

  pub rooted_linked : {c t : ℕ} {gs : List Shown} → sort_at cs c ≡ OfRow m → (c ≡ a → ⊥) → Rooted cs c gs t → Chain (linked cs a b) c gs t
  rooted_linked sc q bare = ends stay
  rooted_linked sc q (over {b = c} {l = l} {x = x} {y = y} {t = t} {fs = fs} e ch) =
      shows stay (what_else cs a b al bl ne c q ∙ e) (rest_linked c l x y t fs sc e ch)

leaf_not_row : (h : Bare) (l x y : ℕ) → ◌≡◌ {A = What ℕ} (Leaf h) (RowAt l x y) → ⊥
leaf_not_row h l x y e = let z : ◌≡◌ {A = ℕ} 0 1 = cc in let w : ⊥ = omega arith in w

module _ (cs : List (Cell ℕ)) (a b z l x y ta tb : ℕ) (fs gs : List Shown) (m : Labels) (al : a < length cs) (bl : b < length cs) (ne : a ≡ b → ⊥) (formed : Formed cs)
    (wa : what_at cs a ≡ RowAt l x y) (ca : Chain cs y fs ta) (cb : Rooted cs b gs tb) (sa : sort_at cs a ≡ OfRow m) (sb : sort_at cs b ≡ OfRow m)
    (zl : z < length cs) (zw : what_at cs z ≡ Leaf Absent) (zs : sort_at cs z ≡ OfField) (tal : ta < length cs) (tbl : tb < length cs) where
  abbrev pub all_of : List Shown
  all_of = record { label = l; field = x } ∷ fs

  -- a label of one chain alone is there only over an empty tail of the other
  module _ (ea : (k : ℕ) → shown all_of k ≡ false → shown gs k ≡ true → what_at cs ta ≡ Leaf Empty) (eb : (k : ℕ) → shown all_of k ≡ true → shown gs k ≡ false → what_at cs tb ≡ Leaf Empty) where
    of : (f : Value → Value) (v : Valuation) (i : ℕ) (s : Sort) → Holds f cs v → i < length cs → sort_at cs i ≡ s → Of s (v i)
    of f v i s h il e = subst (λ (t : Sort). Of t (v i)) e (h i il).1

    -- the rows agree: so do the fields label by label, a depth less, and the tails; and the linked cells hold
    pub cross_down : (d : ℕ) (v : Valuation) → Holds (cut (suc d)) cs v → cut (suc d) (v a) ≡ cut (suc d) (v b) →
        Holds (cut (suc d)) (linked cs a b) v × ((k : ℕ) → cut d (v (lookup all_of k z)) ≡ cut d (v (lookup gs k z))) × (cut (suc d) (v ta) ≡ cut (suc d) (v tb))
    cross_down d v h e =
        let chA : Chain cs a all_of ta = shows stay wa ca in
        let chB : Chain cs b gs tb = rooted_chain cs cb in
        let ra = chain_says d cs v h chA in
        let rb = chain_says d cs v h chB in
        let ka = chain_sort cs m formed chA sa in
        let kb = chain_sort cs m formed chB sb in
        let n = no_field d cs v z h zw in
        let ga : (k : ℕ) → shown all_of k ≡ false → shown gs k ≡ true → (j : ℕ) → cut_field d (at (as_row (v ta)) j) ≡ absent = λ k p q. empty_tail d cs v ta h (ea k p q) in
        let gb : (k : ℕ) → shown all_of k ≡ true → shown gs k ≡ false → (j : ℕ) → cut_field d (at (as_row (v tb)) j) ≡ absent = λ k p q. empty_tail d cs v tb h (eb k p q) in
        let ab = fields_agree d (as_row (v a)) (as_row (v b)) (rows_seen (suc d) (v a) (v b) e) in
        let oa = of (cut (suc d)) v ta (OfRow ka.0) h tal ka.1 in
        let ob = of (cut (suc d)) v tb (OfRow kb.0) h tbl kb.1 in (
          link_down cs a b al bl ne (cut (suc d)) v h e,
          (λ k.
              let fa = chain_field cs z formed chA zl zs k in
              let fb = chain_field cs z formed chB zl zs k in
              fields_back d (v (lookup all_of k z)) (v (lookup gs k z))
              (of (cut (suc d)) v (lookup all_of k z) OfField h fa.0 fa.1) (of (cut (suc d)) v (lookup gs k z) OfField h fb.0 fb.1)
              (fields_down d v all_of gs ta tb z (as_row (v a)) (as_row (v b)) n ga gb ra rb ab k)),
          rows_back (suc d) ka.0 kb.0 (v ta) (v tb) oa ob
              (rows_agree d (as_row (v ta)) (as_row (v tb))
              (tails_down d v all_of gs ta tb z (as_row (v a)) (as_row (v b)) n ga gb ra rb
              (λ k p. row_lacks ka.0 (v ta) oa k (ka.2.here k p)) (λ k p. row_lacks kb.0 (v tb) ob k (kb.2.here k p)) ab)),
        )

    -- and back
    pub cross_up : (d : ℕ) (v : Valuation) → Holds (cut (suc d)) (linked cs a b) v → ((k : ℕ) → cut d (v (lookup all_of k z)) ≡ cut d (v (lookup gs k z))) → cut (suc d) (v ta) ≡ cut (suc d) (v tb) →
        Holds (cut (suc d)) cs v × (cut (suc d) (v a) ≡ cut (suc d) (v b))
    cross_up d v h fg st =
        let es = linked cs a b in
        let ll = length_linked cs a b al bl ne in
        let not_a : (i : ℕ) (k : Bare) → what_at cs i ≡ Leaf k → i ≡ a → ⊥ = λ i k p q. leaf_not_row k l x y (sym p ∙ ap (what_at cs) q ∙ wa) in
        let still : (i : ℕ) (k : Bare) → what_at cs i ≡ Leaf k → what_at es i ≡ Leaf k = λ i k p. what_else cs a b al bl ne i (not_a i k p) ∙ p in
        let chA : Chain es y fs ta = rest_linked cs a b al bl ne formed m sa a l x y ta fs sa wa ca in
        let chB : Chain es b gs tb = rooted_linked cs a b al bl ne formed m sa sb (λ q. ne (sym q)) cb in
        let R = put (as_row (v y)) l (as_field (v x)) in
        let ra = reads_row d v l x y ta fs (chain_says d es v h chA) in
        let rb = chain_says d es v h chB in
        let n = no_field d es v z h (still z Absent zw) in
        let ga : (k : ℕ) → shown all_of k ≡ false → shown gs k ≡ true → (j : ℕ) → cut_field d (at (as_row (v ta)) j) ≡ absent = λ k p q. empty_tail d es v ta h (still ta Empty (ea k p q)) in
        let gb : (k : ℕ) → shown all_of k ≡ true → shown gs k ≡ false → (j : ℕ) → cut_field d (at (as_row (v tb)) j) ≡ absent = λ k p q. empty_tail d es v tb h (still tb Empty (eb k p q)) in
        let ab = rows_up d v all_of gs ta tb z R (as_row (v b)) n ga gb ra rb
        (λ k. fields_seen d (v (lookup all_of k z)) (v (lookup gs k z)) (fg k))
        (fields_agree d (as_row (v ta)) (as_row (v tb)) (rows_seen (suc d) (v ta) (v tb) st)) in
        let ob : Of (OfRow m) (v b) = subst (λ (t : Sort). Of t (v b)) (sort_same cs a b al bl ne b ∙ sb) (h b (omega (arith, ll, bl))).1 in
        let e : cut (suc d) (v a) ≡ cut (suc d) (v b) = link_eq cs a b al bl ne (cut (suc d)) v h in
        let s : cut (suc d) (v a) ≡ cut (suc d) (row_of l (v x) (v y)) =
        e ∙ ap (cut (suc d)) (row_is m (v b) ob) ∙ sym (ap of_row (rows_agree d R (as_row (v b)) ab)) in
        (link_up cs a b al bl ne (cut (suc d)) v h (subst (λ (w : What ℕ). Says (cut (suc d)) v a w) (sym wa) s), e)

    -- at depth 0 rows are always alike
    pub cross_up_zero : (v : Valuation) → Holds (cut zero) (linked cs a b) v → Holds (cut zero) cs v × (cut zero (v a) ≡ cut zero (v b))
    cross_up_zero v h =
        let ll = length_linked cs a b al bl ne in
        let oa : Of (OfRow m) (v a) = subst (λ (t : Sort). Of t (v a)) (sort_same cs a b al bl ne a ∙ sa) (h a (omega (arith, ll, al))).1 in (
          link_up cs a b al bl ne (cut zero) v h (subst (λ (w : What ℕ). Says (cut zero) v a w) (sym wa) (ap (cut zero) (row_is m (v a) oa))),
          link_eq cs a b al bl ne (cut zero) v h,
        )
