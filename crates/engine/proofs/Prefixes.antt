-- The first places of a tree, however they are cut off: nearly half of them are built.
use Rattle.std.proofs.Common.{◌≡◌, ℕ, zero, suc, ◌+◌, ◌-◌, ◌*◌, ◌<◌, ◌≤◌, ◌⊎◌, List, [], ◌∷◌, ◌++◌, length, take, sym, refl, ap, ◌∙◌, subst, inl, inr, arith, length-append, length-take-le, take_all}
use native.Mathlib.Decide.{dec_le}
use lib.Seq.{take-append-le, take-append-add}
use Rattle.system.specs.Meaning.{Meaning}
use Rattle.engine.specs.Trees.{Tree, any, stay, leaf, over, pair, Scope}
use Rattle.engine.specs.Schemes.{TreeOf, free, held, bare, on, two}
use Rattle.engine.specs.Snapshots.{Item, open_item, stay_item, leaf_item, over_item, pair_item, items, cost, built, height, kept}

built_both : (xs ys : List Item) → built (xs ++ ys) ≡ built xs + built ys
built_both [] ys = omega arith
built_both (x ∷ xs) ys = let e = built_both xs ys in omega arith

-- In all of a tree, one place more than twice the built ones.
few_places : (t : Tree) → length (items t) ≤ 2 * built (items t) + 1
few_places (any g o s) = omega arith
few_places (stay c) = omega arith
few_places (leaf h s) = omega arith
few_places (over h t) =
    let e = few_places t in
    let b = built_both (items t) (over_item h ∷ []) in
    let l = length-append (items t) (over_item h ∷ []) in
    omega arith
few_places (pair h l s t u) =
    let e = few_places t in
    let f = few_places u in
    let b = built_both (items t) (items u ++ (pair_item h l s ∷ [])) in
    let c = built_both (items u) (pair_item h l s ∷ []) in
    let m = length-append (items t) (items u ++ (pair_item h l s ∷ [])) in
    let n = length-append (items u) (pair_item h l s ∷ []) in
    omega arith

height_some : (t : Tree) → 1 ≤ height t
height_some (any g o s) = omega arith
height_some (stay c) = omega arith
height_some (leaf h s) = omega arith
height_some (over h t) = height_some t
height_some (pair h l s t u) = let e = height_some t in omega arith

-- The first j of xs and then ys are the first of xs alone, or all of xs and the first of ys.
cut_both : (j : ℕ) (xs ys : List Item) → ((j ≤ length xs) × (take j (xs ++ ys) ≡ take j xs)) ⊎ ((i : ℕ) × (j ≡ length xs + i) × (take j (xs ++ ys) ≡ xs ++ take i ys))
cut_both j xs ys = elim (dec_le j (length xs)) [
  | yes h ↦ inl (h, take-append-le j xs ys h)
  | no h ↦
      let e : j ≡ length xs + (j - length xs) = omega arith in
      inr (j - length xs, e, ap (λ n. take n (xs ++ ys)) e ∙ take-append-add xs ys (j - length xs))
]

abbrev Half : List Item → ℕ → Type 0
Half is n = length is ≤ 2 * built is + n

half_one : (i : Item) (j n : ℕ) → 1 ≤ n → Half (take j (i ∷ [])) n
half_one i zero n h = omega arith
half_one i (suc zero) n h = omega arith
half_one i (suc (suc j)) n h = omega arith

half_more : (xs ys : List Item) (n m : ℕ) → length xs ≤ 2 * built xs + 1 → Half ys n → 1 + n ≤ m → Half (xs ++ ys) m
half_more xs ys n m e f g =
    let b = built_both xs ys in
    let l = length-append xs ys in
    omega arith

half_last : (xs : List Item) (b : Item) → cost b ≡ 1 → length xs ≤ 2 * built xs + 1 → (i n : ℕ) → 1 ≤ n → Half (xs ++ take i (b ∷ [])) n
half_last xs b c e zero n h =
    let d = built_both xs [] in
    let l = length-append {A = Item} xs [] in
    omega arith
half_last xs b c e (suc zero) n h =
    let d = built_both xs (b ∷ []) in
    let l = length-append xs (b ∷ []) in
    omega arith
half_last xs b c e (suc (suc i)) n h =
    let d = built_both xs (b ∷ []) in
    let l = length-append xs (b ∷ []) in
    omega arith

half_wider : (is : List Item) (n m : ℕ) → n ≤ m → Half is n → Half is m
half_wider is n m h e = omega arith

-- Among the first places of a tree, all but as many as its height are at most twice the built ones.
pub front_half : (t : Tree) (j : ℕ) → Half (take j (items t)) (height t)
front_half (any g o s) j = half_one (open_item g o s) j 1 (omega arith)
front_half (stay c) j = half_one (stay_item c) j 1 (omega arith)
front_half (leaf h s) j = half_one (leaf_item h s) j 1 (omega arith)
front_half (over h t) j = elim (cut_both j (items t) (over_item h ∷ [])) [
  | inl e ↦ subst (λ (is : List Item). Half is (height t)) (sym e.1) (front_half t j)
  | inr e ↦ subst (λ (is : List Item). Half is (height t)) (sym e.2) (half_last (items t) (over_item h) refl (few_places t) e.0 (height t) (height_some t))
]
front_half (pair h l s t u) j = elim (cut_both j (items t) (items u ++ (pair_item h l s ∷ []))) [
  | inl e ↦ subst (λ (is : List Item). Half is (height (pair h l s t u))) (sym e.1) (half_wider (take j (items t)) (height t) (height (pair h l s t u)) (omega arith) (front_half t j))
  | inr e ↦ subst (λ (is : List Item). Half is (height (pair h l s t u))) (sym e.2) (elim (cut_both e.0 (items u) (pair_item h l s ∷ [])) [
    | inl f ↦ half_more (items t) (take e.0 (items u ++ (pair_item h l s ∷ []))) (height u) (height (pair h l s t u)) (few_places t)
        (subst (λ (is : List Item). Half is (height u)) (sym f.1) (front_half u e.0)) (omega arith)
    | inr f ↦ half_more (items t) (take e.0 (items u ++ (pair_item h l s ∷ []))) 1 (height (pair h l s t u)) (few_places t)
        (subst (λ (is : List Item). Half is 1) (sym f.2) (half_last (items u) (pair_item h l s) refl (few_places u) f.0 1 (omega arith))) (let z = height_some u in omega arith)
  ])
]

-- A tree in which heads stand above one another as a rank falls is no higher than the rank.
pub tree_height : (rank : ℕ → ℕ) (m : Meaning) (E : Scope) {c : ℕ} {t : Tree} → TreeOf rank m E c t → height t ≤ rank c + 1
tree_height rank m E (free s e n) = omega arith
tree_height rank m E (held s r) = omega arith
tree_height rank m E (bare b f) = omega arith
tree_height rank m E (on b f g t) = let e = tree_height rank m E t in let z = b.first_falls f in omega arith
tree_height rank m E (two b f g t u) =
    let e = tree_height rank m E t in
    let d = tree_height rank m E u in
    let z = b.first_falls f in
    let y = b.second_falls g in
    omega arith

-- A tree of at most this height is kept whole, or more than C of the places kept are built.
pub whole_or_many : (C : ℕ) (t : Tree) → height t ≤ C + 2 → (kept C t ≡ items t) ⊎ (C < built (kept C t))
whole_or_many C t h = elim (dec_le (length (items t)) (3 * C + 4)) [
  | yes e ↦ inl (take_all (3 * C + 4) (items t) e)
  | no e ↦ inr (let f = front_half t (3 * C + 4) in let g = length-take-le (3 * C + 4) (items t) (omega arith) in omega arith)
]
