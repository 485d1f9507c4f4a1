-- Links and extensions keep the cells formed.
use Rattle.std.proofs.Common.{◌≡◌, ℕ, suc, ◌+◌, ◌<◌, ◌≤◌, List, [], ◌∷◌, length, get_or, sym, refl, ap, ◌∙◌, subst, subst₂, ⊎_elim, arith}
use Rattle.std.proofs.lemmas.Bool.{cases_eq, cases_lt}
use Rattle.ground.specs.Sorts.{Of}
use Rattle.ground.specs.declared.sort.Sort.{Sort}
use Rattle.ground.specs.declared.sort.Sort.TheVariants.{Field as OfField, Row as OfRow}
use Rattle.ground.specs.declared.sort.Labels.{Labels}
use Rattle.cells.specs.declared.What.{What}
use Rattle.cells.specs.declared.What.TheVariants.{Open, Link, Leaf, One, Two, Row as RowAt}
use Rattle.cells.specs.declared.Cell.{Cell}
use Rattle.cells.specs.Cells.{leaf, what_at, rank_at, sort_at, none, Root, rootly, roots, linked, Refers, Formed, one_sort, Over, Adds, row_cell, tail_cell, longer, extended}
use Rattle.cells.proofs.Linking.{roots_linked, length_linked, what_from, what_else, rank_to, rank_else, sort_same, roots_append}
use Rattle.cells.proofs.Extending.{length_longer, longer_old, longer_row, longer_tail}

-- references stand where lengths, ranks and sorts do
module _ (cs ds : List (Cell ℕ)) (len : length cs ≤ length ds) (sorts : (j : ℕ) → j < length cs → sort_at ds j ≡ sort_at cs j) where
  pub keeps : (i : ℕ) (w : What ℕ) → i < length cs → ((p : ℕ) → w ≡ Link p → p < length cs → rank_at cs i < rank_at cs p → rank_at ds i < rank_at ds p) → Refers cs i w → Refers ds i w
  keeps i Open il k h = tt
  keeps i (Link p) il k h = (omega (arith, len, h.0), k p refl h.0 h.1, sorts i il ∙ h.2 ∙ sym (sorts p h.0))
  keeps i (Leaf a) il k h = subst (λ (s : Sort). Of s (leaf a)) (sym (sorts i il)) h
  keeps i (One a x) il k h = (omega (arith, len, h.0), subst (one_sort a) (sym (sorts x h.0)) h.1, sorts i il ∙ h.2)
  keeps i (Two x y) il k h = (omega (arith, len, h.0), omega (arith, len, h.1), sorts x h.0 ∙ h.2, sorts y h.1 ∙ h.3, sorts i il ∙ h.4)
  keeps i (RowAt l x y) il k h = (
    omega (arith, len, h.0),
    omega (arith, len, h.1),
    sorts x h.0 ∙ h.2,
    subst₂ (λ (s t : Sort). Over s l t) (sym (sorts i il)) (sym (sorts y h.1)) h.3,
  )

root_no_link : (w : What ℕ) (p : ℕ) {X : Type 0} → Root w → w ≡ Link p → X
root_no_link w p r e = absurd (let z : ◌≡◌ {A = ℕ} 1 0 = sym r ∙ ap rootly e in let y : ⊥ = omega arith in y)

module _ (cs : List (Cell ℕ)) (r t : ℕ) (rl : r < length cs) (tl : t < length cs) (ne : r ≡ t → ⊥) (f : Formed cs) (ro : Root (what_at cs r)) (to : Root (what_at cs t)) (ss : sort_at cs r ≡ sort_at cs t) where
  rank_more : (i : ℕ) → rank_at cs i ≤ rank_at (linked cs r t) i
  rank_more i = ⊎_elim (λ (e : i ≡ t). subst (λ (j : ℕ). rank_at cs j ≤ rank_at (linked cs r t) j) (sym e) (omega (arith, rank_to cs r t rl tl ne))) (λ (q : i ≡ t → ⊥). omega (arith, rank_else cs r t rl tl ne i q)) (cases_eq i t)

  refers_by : (i : ℕ) → i < length cs → Refers (linked cs r t) i (what_at (linked cs r t) i)
  refers_by i lt =
      let ll = length_linked cs r t rl tl ne in
      ⊎_elim
      (λ (e : i ≡ r). subst (λ (j : ℕ). Refers (linked cs r t) j (what_at (linked cs r t) j)) (sym e)
      (subst (λ (w : What ℕ). Refers (linked cs r t) r w) (sym (what_from cs r t rl tl ne))
      (omega (arith, ll, tl), omega (arith, rank_else cs r t rl tl ne r ne, rank_to cs r t rl tl ne), sort_same cs r t rl tl ne r ∙ ss ∙ sym (sort_same cs r t rl tl ne t))))
      (λ (p : i ≡ r → ⊥). subst (λ (w : What ℕ). Refers (linked cs r t) i w) (sym (what_else cs r t rl tl ne i p))
      (keeps cs (linked cs r t) (omega (arith, ll)) (λ j jl. sort_same cs r t rl tl ne j) i (what_at cs i) lt
      (λ p e pl h.
      ⊎_elim
      (λ (q : i ≡ t). root_no_link (what_at cs t) p to (ap (what_at cs) (sym q) ∙ e))
      (λ (q : i ≡ t → ⊥). omega (arith, rank_else cs r t rl tl ne i q, rank_more p, h))
      (cases_eq i t))
      (f.refers i lt)))
      (cases_eq i r)

  pub formed_linked : Formed (linked cs r t)
  formed_linked = record {
    refers = λ i lt. refers_by i (omega (arith, length_linked cs r t rl tl ne, lt));
    ranks = λ i lt.
        let ll = length_linked cs r t rl tl ne in
        let n : i < length cs = omega (arith, ll, lt) in
        let a = f.ranks i n in
        let b = f.ranks r rl in
        let c = f.ranks t tl in
        ⊎_elim
        (λ (e : i ≡ t). subst (λ (j : ℕ). rank_at (linked cs r t) j + roots (linked cs r t) ≤ length (linked cs r t)) (sym e) (omega (arith, ll, roots_linked cs r t rl tl ne ro, rank_to cs r t rl tl ne, b, c)))
        (λ (q : i ≡ t → ⊥). omega (arith, ll, roots_linked cs r t rl tl ne ro, rank_else cs r t rl tl ne i q, a))
        (cases_eq i t);
  }

rootly_le : (w : What ℕ) → rootly w ≤ 1
rootly_le Open = omega arith
rootly_le (Link p) = omega arith
rootly_le (Leaf h) = omega arith
rootly_le (One h x) = omega arith
rootly_le (Two x y) = omega arith
rootly_le (RowAt l x y) = omega arith

pub roots_le : (cs : List (Cell ℕ)) → roots cs ≤ length cs
roots_le [] = omega arith
roots_le (c ∷ cs) = omega (arith, roots_le cs, rootly_le c.what)

module _ (cs : List (Cell ℕ)) (o l x : ℕ) (m n : Labels) (ol : o < length cs) (xl : x < length cs) (oo : what_at cs o ≡ Open) (os : sort_at cs o ≡ OfRow m) (adds : Adds m l n) (xs : sort_at cs x ≡ OfField) (f : Formed cs) where
  abbrev ls : List (Cell ℕ)
  ls = longer cs o l x n

  ll : length ls ≡ suc (suc (length cs))
  ll = length_longer cs o l x m n ol xl oo os adds

  was : (i : ℕ) → i < length cs → get_or ls i none ≡ get_or cs i none
  was = longer_old cs o l x m n ol xl oo os adds

  at_row : get_or ls (length cs) none ≡ row_cell cs o l x
  at_row = longer_row cs o l x m n ol xl oo os adds

  at_tail : get_or ls (suc (length cs)) none ≡ tail_cell n
  at_tail = longer_tail cs o l x m n ol xl oo os adds

  abbrev Sound : ℕ → Type 0
  Sound i = Refers ls i (what_at ls i) × (rank_at ls i + roots ls ≤ length ls)

  rl : roots ls ≡ roots cs + 2
  rl = omega (arith, roots_append cs (row_cell cs o l x ∷ tail_cell n ∷ []))

  sound_old : (i : ℕ) → i < length cs → Sound i
  sound_old i il = (
    subst (λ (w : What ℕ). Refers ls i w) (sym (ap (λ (c : Cell ℕ). c.what) (was i il)))
        (keeps cs ls (omega (arith, ll)) (λ j jl. ap (λ (c : Cell ℕ). c.sort) (was j jl)) i (what_at cs i) il
        (λ p e pl h. omega (arith, ap (λ (c : Cell ℕ). c.rank) (was i il), ap (λ (c : Cell ℕ). c.rank) (was p pl), h))
        (f.refers i il)),
    omega (arith, ap (λ (c : Cell ℕ). c.rank) (was i il), f.ranks i il, rl, ll),
  )

  sound_row : Sound (length cs)
  sound_row = (
    subst (λ (w : What ℕ). Refers ls (length cs) w) (sym (ap (λ (c : Cell ℕ). c.what) at_row)) (
      omega (arith, xl, ll),
      omega (arith, ll),
      ap (λ (c : Cell ℕ). c.sort) (was x xl) ∙ xs,
      subst₂ (λ (s t : Sort). Over s l t) (sym (ap (λ (c : Cell ℕ). c.sort) at_row ∙ os)) (sym (ap (λ (c : Cell ℕ). c.sort) at_tail)) adds,
    ),
    omega (arith, ap (λ (c : Cell ℕ). c.rank) at_row, roots_le cs, rl, ll),
  )

  sound_tail : Sound (suc (length cs))
  sound_tail = (
    subst (λ (w : What ℕ). Refers ls (suc (length cs)) w) (sym (ap (λ (c : Cell ℕ). c.what) at_tail)) tt,
    omega (arith, ap (λ (c : Cell ℕ). c.rank) at_tail, roots_le cs, rl, ll),
  )

  sound : (i : ℕ) → i < length ls → Sound i
  sound i il =
      ⊎_elim (λ (p : i < length cs). sound_old i p)
      (λ (p : length cs ≤ i).
      ⊎_elim
      (λ (e : i ≡ length cs). subst Sound (sym e) sound_row)
      (λ (q : i ≡ length cs → ⊥). subst Sound (let z : suc (length cs) ≡ i = omega (arith, ll, il, p, q) in z) sound_tail)
      (cases_eq i (length cs)))
      (cases_lt i (length cs))

  formed_longer : Formed ls
  formed_longer = record { refers = λ i il. (sound i il).0; ranks = λ i il. (sound i il).1 }

  pub formed_extended : Formed (extended cs o l x n)
  formed_extended =
      formed_linked ls o (length cs) (omega (arith, ll, ol)) (omega (arith, ll)) (λ e. let z : ⊥ = omega (arith, ol, e) in z) formed_longer
      (ap rootly (ap (λ (c : Cell ℕ). c.what) (was o ol) ∙ oo))
      (ap rootly (ap (λ (c : Cell ℕ). c.what) at_row))
      (ap (λ (c : Cell ℕ). c.sort) (was o ol) ∙ sym (ap (λ (c : Cell ℕ). c.sort) at_row))
