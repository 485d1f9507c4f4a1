-- Cells used + 2 × (labels that open rows may still get) never passes 49 for each fresh or build: so 16 cannot come while 49 × N ≤ C.
use Rattle.std.proofs.Common.{◌≡◌, ℕ, zero, suc, ◌+◌, ◌*◌, ◌<◌, ◌≤◌, max, List, [], ◌∷◌, ◌++◌, length, get_or, set, sym, refl, ap, ◌∙◌, subst, ap₂, ⊎_elim, arith, length-append, length-set}
use Rattle.std.proofs.lemmas.List.{get_or-set_other}
use Rattle.std.proofs.lemmas.Bool.{cases_eq}
use Rattle.ground.specs.Sorts.{In}
use Rattle.ground.specs.declared.sort.Sort.{Sort}
use Rattle.ground.specs.declared.sort.Sort.TheVariants.{«Type» as OfType, Field as OfField, Row as OfRow}
use Rattle.ground.specs.declared.sort.Labels.{Labels}
use Rattle.cells.specs.declared.What.{What}
use Rattle.cells.specs.declared.What.TheVariants.{Open, Link, Leaf, One, Two, Row as RowAt}
use Rattle.cells.specs.declared.Cell.{Cell}
use Rattle.cells.specs.Cells.{what_at, rank_at, sort_at, none, Root, roots, linked, Adds, row_cell, tail_cell, longer, extended}
use Rattle.cells.specs.Rooms.{bit, count, card, spare_sort, spare_of, spare, spares, used, left}
use Rattle.cells.proofs.Linking.{roots_linked, length_linked}
use Rattle.cells.proofs.Extending.{length_longer, length_extended, longer_old, roots_extended}

-- bits
bit_low : (l m : ℕ) → bit l m < 2
bit_low l m = omega arith

bit_other : (m n : Labels) (l k : ℕ) → Adds m l n → (k ≡ l → ⊥) → bit k n.0 ≡ bit k m.0
bit_other m n l k a q =
    ⊎_elim
    (λ (e : bit k n.0 ≡ 1). ⊎_elim (λ (z : k ≡ l). absurd (q z)) (λ (i : In k m). e ∙ sym i) (a.only k e))
    (λ (e : bit k n.0 ≡ 1 → ⊥).
    ⊎_elim
    (λ (i : bit k m.0 ≡ 1). absurd (e (a.old k i)))
    (λ (i : bit k m.0 ≡ 1 → ⊥). omega (arith, bit_low k m.0, bit_low k n.0, i, e))
    (cases_eq (bit k m.0) 1))
    (cases_eq (bit k n.0) 1)

bit_new : (m n : Labels) (l : ℕ) → Adds m l n → bit l n.0 ≡ bit l m.0 + 1
bit_new m n l a = omega (arith, bit_low l m.0, a.new, a.here)

count_under : (m n : Labels) (l j : ℕ) → Adds m l n → j ≤ l → count j n.0 ≡ count j m.0
count_under m n l zero a h = refl
count_under m n l (suc j) a h = ap₂ ◌+◌ (bit_other m n l j a (λ e. let z : ⊥ = omega arith in z)) (count_under m n l j a (omega arith))

count_over : (m n : Labels) (l j : ℕ) → Adds m l n → l < j → count j n.0 ≡ count j m.0 + 1
count_over m n l zero a h = absurd (let z : ⊥ = omega arith in z)
count_over m n l (suc j) a h =
    ⊎_elim
    (λ (e : j ≡ l). subst (λ (i : ℕ). count (suc i) n.0 ≡ count (suc i) m.0 + 1) (sym e) (omega (arith, bit_new m n l a, count_under m n l l a (omega arith))))
    (λ (q : j ≡ l → ⊥). omega (arith, bit_other m n l j a q, count_over m n l j a (omega arith)))
    (cases_eq j l)

pub count_le : (j m : ℕ) → count j m ≤ j
count_le zero m = omega arith
count_le (suc j) m = omega (arith, bit_low j m, count_le j m)

card_adds : (m n : Labels) (l : ℕ) → Adds m l n → l < 24 → card n ≡ card m + 1
unfolding card
card_adds m n l a h = count_over m n l 24 a h

card_le : (m : Labels) → card m ≤ 24
unfolding card
card_le m = count_le 24 m.0

-- a label more is one less to spare
pub spare_adds : (m n : Labels) (l : ℕ) → Adds m l n → l < 24 → spare_sort (OfRow m) ≡ spare_sort (OfRow n) + 1
spare_adds m n l a h = omega (arith, card_adds m n l a h, card_le n)

pub spare_sort_le : (s : Sort) → spare_sort s ≤ 24
spare_sort_le OfType = omega arith
spare_sort_le OfField = omega arith
spare_sort_le (OfRow m) = omega arith

spare_of_le : (w : What ℕ) (s : Sort) → spare_of w s ≤ 24
spare_of_le Open s = spare_sort_le s
spare_of_le (Link p) s = omega arith
spare_of_le (Leaf h) s = omega arith
spare_of_le (One h x) s = omega arith
spare_of_le (Two x y) s = omega arith
spare_of_le (RowAt l x y) s = omega arith

-- the sum over the cells
pub spares_set : (cs : List (Cell ℕ)) (i : ℕ) (c : Cell ℕ) → i < length cs → spares (set cs i c) + spare (get_or cs i none) ≡ spares cs + spare c
spares_set [] i c h = absurd (let z : ⊥ = omega arith in z)
spares_set (b ∷ cs) zero c h = omega arith
spares_set (b ∷ cs) (suc i) c h = omega (arith, spares_set cs i c (omega arith))

pub spares_append : (cs ds : List (Cell ℕ)) → spares (cs ++ ds) ≡ spares cs + spares ds
spares_append [] ds = omega arith
spares_append (c ∷ cs) ds = omega (arith, spares_append cs ds)

pub spares_one : (cs : List (Cell ℕ)) (i : ℕ) → i < length cs → spare (get_or cs i none) ≤ spares cs
spares_one [] i h = absurd (let z : ⊥ = omega arith in z)
spares_one (b ∷ cs) zero h = omega arith
spares_one (b ∷ cs) (suc i) h = omega (arith, spares_one cs i (omega arith))

-- a fresh or built cell pays 49
pub used_more : (cs : List (Cell ℕ)) (c : Cell ℕ) → used (cs ++ c ∷ []) ≤ used cs + 49
used_more cs c = omega (arith, length-append cs (c ∷ []), spares_append cs (c ∷ []), spare_of_le c.what c.sort)

-- a link gives back what the linked cell had to spare
pub spares_linked : (cs : List (Cell ℕ)) (r t : ℕ) → r < length cs → t < length cs → (r ≡ t → ⊥) → spares (linked cs r t) + spare (get_or cs r none) ≡ spares cs
spares_linked cs r t rl tl ne =
    let lk : Cell ℕ = record { what = Link t; rank = rank_at cs r; sort = sort_at cs r } in
    let tk : Cell ℕ = record { what = what_at cs t; rank = max (rank_at cs t) (rank_at cs r + 1); sort = sort_at cs t } in
    let tl2 : t < length (set cs r lk) = simp length-set tl in
    let e : spare (get_or (set cs r lk) t none) ≡ spare (get_or cs t none) = ap spare (get_or-set_other cs r t lk none (λ q. ne (sym q))) in
    omega (arith, spares_set cs r lk rl, spares_set (set cs r lk) t tk tl2, e)

pub used_linked : (cs : List (Cell ℕ)) (r t : ℕ) → r < length cs → t < length cs → (r ≡ t → ⊥) → used (linked cs r t) ≤ used cs
used_linked cs r t rl tl ne = omega (arith, spares_linked cs r t rl tl ne, length_linked cs r t rl tl ne)

module _ (cs : List (Cell ℕ)) (o l x : ℕ) (m n : Labels) (ol : o < length cs) (xl : x < length cs) (oo : what_at cs o ≡ Open) (os : sort_at cs o ≡ OfRow m) (adds : Adds m l n) (small : l < 24) where
  spare_o : spare (get_or cs o none) ≡ spare_sort (OfRow n) + 1
  spare_o = ap₂ spare_of oo os ∙ spare_adds m n l adds small

  -- an extension takes two cells and spends two
  pub used_extended : used (extended cs o l x n) ≡ used cs
  used_extended =
      let ll = length_longer cs o l x m n ol xl oo os adds in
      let e : spare (get_or (longer cs o l x n) o none) ≡ spare (get_or cs o none) = ap spare (longer_old cs o l x m n ol xl oo os adds o ol) in
      omega (
        arith,
        spares_linked (longer cs o l x n) o (length cs) (omega (arith, ll, ol)) (omega (arith, ll)) (λ q. let z : ⊥ = omega (arith, ol, q) in z),
        e,
        spare_o,
        spares_append cs (row_cell cs o l x ∷ tail_cell n ∷ []),
        length_extended cs o l x m n ol xl oo os adds,
      )

  -- so there is room for both, whatever came before
  pub room : (base N C : ℕ) → used cs ≤ base + 49 * N → 49 * N ≤ C → length cs + 2 ≤ base + C
  room base N C u c = omega (arith, spares_one cs o ol, spare_o)

  -- an extension brings the loop nearer to its end
  pub left_extended : (C p : ℕ) → length cs + 2 ≤ C → left C p (extended cs o l x n) + 26 ≤ left C p cs
  left_extended C p h = omega (arith, length_extended cs o l x m n ol xl oo os adds, roots_extended cs o l x m n ol xl oo os adds)

pub room_more : (cs : List (Cell ℕ)) (base N C : ℕ) → used cs ≤ base + 49 * N → 49 * (N + 1) ≤ C → length cs + 1 ≤ base + C
room_more cs base N C u c = omega arith

-- a link, with at most 25 pairs for the one that was taken
pub left_linked : (cs : List (Cell ℕ)) (r t : ℕ) → r < length cs → t < length cs → (r ≡ t → ⊥) → Root (what_at cs r) → (C p q : ℕ) → q ≤ p + 25 → left C q (linked cs r t) < left C (suc p) cs
left_linked cs r t rl tl ne ro C p q h = omega (arith, roots_linked cs r t rl tl ne ro, length_linked cs r t rl tl ne)

-- and the stack never holds more than this
roots_le : (cs : List (Cell ℕ)) → roots cs ≤ length cs
roots_le [] = omega arith
roots_le (c ∷ cs) = omega (arith, roots_le cs, one c.what)
  where
    one : (w : What ℕ) → Rattle.cells.specs.Cells.rootly w ≤ 1
    one Open = omega arith
    one (Link p) = omega arith
    one (Leaf h) = omega arith
    one (One h x) = omega arith
    one (Two x y) = omega arith
    one (RowAt l x y) = omega arith

pub stack : (cs : List (Cell ℕ)) (C : ℕ) → length cs ≤ C → left C 1 cs ≤ 1 + 26 * C
stack cs C h = omega (arith, roots_le cs)
