-- Coming to the places of a tree one after another is copying it.
use Rattle.std.proofs.Common.{◌≡◌, ℕ, List, [], ◌∷◌, ◌++◌, sym, refl, ap, ◌∙◌, append_assoc}
use Rattle.ground.specs.declared.place.Place.{Place}
use Rattle.engine.specs.Trees.{Tree, any, stay, leaf, over, pair}
use Rattle.engine.specs.Calls.{Calls, Given, copy}
use Rattle.engine.specs.Snapshots.{Item, over_item, pair_item, items, newest, visit, visits}

-- Places and then others.
pub visits_both : (p : Place) (xs ys : List Item) (cs : List ℕ) (m : Given) (k : List ℕ → Given → Calls)
    → visits p (xs ++ ys) cs m k ≡ visits p xs cs m (λ ds n. visits p ys ds n k)
visits_both p [] ys cs m k = refl
visits_both p (x ∷ xs) ys cs m k = λ i. visit p x cs m (λ ds n. visits_both p xs ys ds n k i)

-- The places of a tree and then others: the tree is copied, and its code put on.
visits_tree : (p : Place) (t : Tree) (is : List Item) (cs : List ℕ) (m : Given) (k : List ℕ → Given → Calls)
    → visits p (items t ++ is) cs m k ≡ copy p t m (λ c n. visits p is (c ∷ cs) n k)
visits_tree p (any g o s) is cs m k = refl
visits_tree p (stay c) is cs m k = refl
visits_tree p (leaf h s) is cs m k = refl
visits_tree p (over h t) is cs m k =
    ap (λ xs. visits p xs cs m k) (append_assoc (items t) (over_item h ∷ []) is) ∙ visits_tree p t (over_item h ∷ is) cs m k
visits_tree p (pair h l s t u) is cs m k =
    ap (λ xs. visits p xs cs m k) (append_assoc (items t) (items u ++ (pair_item h l s ∷ [])) is ∙ ap (λ xs. items t ++ xs) (append_assoc (items u) (pair_item h l s ∷ []) is))
    ∙ visits_tree p t (items u ++ (pair_item h l s ∷ is)) cs m k
    ∙ (λ i. copy p t m (λ x n. visits_tree p u (pair_item h l s ∷ is) (x ∷ cs) n k i))

append_none : (xs : List Item) → xs ++ [] ≡ xs
append_none [] = refl
append_none (x ∷ xs) = ap (λ ys. x ∷ ys) (append_none xs)

pub visits_copy : (p : Place) (t : Tree) (m : Given) (k : ℕ → Given → Calls) → visits p (items t) [] m (λ cs n. k (newest cs) n) ≡ copy p t m k
visits_copy p t m k =
    ap (λ xs. visits p xs [] m (λ cs n. k (newest cs) n)) (sym (append_none (items t))) ∙ visits_tree p t [] [] m (λ cs n. k (newest cs) n)
