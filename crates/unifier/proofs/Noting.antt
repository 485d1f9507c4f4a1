-- The pairs of two rows' fields, by their tables and by their chains.
use Rattle.std.proofs.Common.{◌≡◌, ℕ, zero, suc, ◌<◌, ◌≤◌, Bool, true, false, cond, eqb, List, [], ◌∷◌, ◌++◌, length, get_or, Some, None, Option, sym, refl, ap, ◌∙◌, subst, ap₂, inl, inr, ⊎_elim, arith}
use Rattle.std.proofs.lemmas.Bool.{cases_eq, false≢true}
use Rattle.cells.specs.declared.Pair.{Pair}
use Rattle.cells.specs.Rows.{Shown, shown, lookup}
use Rattle.cells.specs.Steps.{pair, pairs_at, Mem}
use Rattle.unifier.specs.declared.side.Side.{Side}
use Rattle.unifier.specs.Sides.{found}
use Rattle.unifier.specs.Notes.{noted, field_pairs}
use Rattle.unifier.proofs.Sharing.{found_shown, found_hidden, some_none}

noted_length : (o p : Option ℕ) (ps : List (Pair ℕ)) → length (noted o p ps) ≤ suc (length ps)
noted_length (Some x) (Some y) ps = omega arith
noted_length (Some x) None ps = omega arith
noted_length None (Some y) ps = omega arith
noted_length None None ps = omega arith

pub field_pairs_length : (a b : Side) (n : ℕ) → length (field_pairs a b n) ≤ n
field_pairs_length a b zero = omega arith
field_pairs_length a b (suc n) = omega (arith, noted_length (get_or a.fields n None) (get_or b.fields n None) (field_pairs a b n), field_pairs_length a b n)

pub noted_append : (o p : Option ℕ) (ps qs : List (Pair ℕ)) → noted o p (ps ++ qs) ≡ noted o p ps ++ qs
noted_append (Some x) (Some y) ps qs = refl
noted_append (Some x) None ps qs = refl
noted_append None (Some y) ps qs = refl
noted_append None None ps qs = refl

-- the labels that either shows
abbrev kept : Option ℕ → Option ℕ → ℕ → List ℕ → List ℕ
kept (Some x) p n ks = n ∷ ks
kept None (Some y) n ks = n ∷ ks
kept None None n ks = ks

abbrev pub labels : Side → Side → ℕ → List ℕ
labels a b zero = []
labels a b (suc n) = kept (get_or a.fields n None) (get_or b.fields n None) n (labels a b n)

kept_length : (o p : Option ℕ) (n : ℕ) (ks : List ℕ) → length (kept o p n ks) ≤ suc (length ks)
kept_length (Some x) p n ks = omega arith
kept_length None (Some y) n ks = omega arith
kept_length None None n ks = omega arith

pub labels_length : (a b : Side) (n : ℕ) → length (labels a b n) ≤ n
labels_length a b zero = omega arith
labels_length a b (suc n) = omega (arith, kept_length (get_or a.fields n None) (get_or b.fields n None) n (labels a b n), labels_length a b n)

kept_left : (o p : Option ℕ) (n x : ℕ) (ks : List ℕ) → o ≡ Some x → Mem n (kept o p n ks)
kept_left (Some y) p n x ks e = inl refl
kept_left None p n x ks e = absurd (some_none x (sym e))

kept_right : (o p : Option ℕ) (n x : ℕ) (ks : List ℕ) → p ≡ Some x → Mem n (kept o p n ks)
kept_right (Some y) p n x ks e = inl refl
kept_right None (Some y) n x ks e = inl refl
kept_right None None n x ks e = absurd (some_none x (sym e))

kept_more : (o p : Option ℕ) (n k : ℕ) (ks : List ℕ) → Mem k ks → Mem k (kept o p n ks)
kept_more (Some y) p n k ks m = inr m
kept_more None (Some y) n k ks m = inr m
kept_more None None n k ks m = m

pub label_left : (a b : Side) (n k x : ℕ) → k < n → get_or a.fields k None ≡ Some x → Mem k (labels a b n)
label_left a b zero k x h e = absurd (let z : ⊥ = omega arith in z)
label_left a b (suc n) k x h e =
    let o = get_or a.fields n None in
    let p = get_or b.fields n None in
    let rest : k < n → Mem k (labels a b n) = λ l. label_left a b n k x l e in
    ⊎_elim
    (λ (q : k ≡ n). subst (λ (j : ℕ). Mem j (kept o p n (labels a b n))) (sym q) (kept_left o p n x (labels a b n) (ap (λ (j : ℕ). get_or a.fields j None) (sym q) ∙ e)))
    (λ (q : k ≡ n → ⊥). kept_more o p n k (labels a b n) (rest (omega (arith, h, q))))
    (cases_eq k n)

pub label_right : (a b : Side) (n k x : ℕ) → k < n → get_or b.fields k None ≡ Some x → Mem k (labels a b n)
label_right a b zero k x h e = absurd (let z : ⊥ = omega arith in z)
label_right a b (suc n) k x h e =
    let o = get_or a.fields n None in
    let p = get_or b.fields n None in
    let rest : k < n → Mem k (labels a b n) = λ l. label_right a b n k x l e in
    ⊎_elim
    (λ (q : k ≡ n). subst (λ (j : ℕ). Mem j (kept o p n (labels a b n))) (sym q) (kept_right o p n x (labels a b n) (ap (λ (j : ℕ). get_or b.fields j None) (sym q) ∙ e)))
    (λ (q : k ≡ n → ⊥). kept_more o p n k (labels a b n) (rest (omega (arith, h, q))))
    (cases_eq k n)

-- the pairs are those of the chains at these labels
same_noted : (fs gs : List Shown) (o p : Option ℕ) (n : ℕ) (ps : List (Pair ℕ)) (ks : List ℕ) → o ≡ found fs n → p ≡ found gs n → ps ≡ pairs_at fs gs 0 ks → noted o p ps ≡ pairs_at fs gs 0 (kept o p n ks)
same_noted fs gs (Some x) (Some y) n ps ks eo ep e =
    ap₂ (λ (q : Pair ℕ) (r : List (Pair ℕ)). q ∷ r) (ap₂ pair (sym (found_shown fs n x 0 (sym eo)).1) (sym (found_shown gs n y 0 (sym ep)).1)) e
same_noted fs gs (Some x) None n ps ks eo ep e =
    ap₂ (λ (q : Pair ℕ) (r : List (Pair ℕ)). q ∷ r) (ap₂ pair (sym (found_shown fs n x 0 (sym eo)).1) (sym (found_hidden gs n 0 (sym ep)).1)) e
same_noted fs gs None (Some y) n ps ks eo ep e =
    ap₂ (λ (q : Pair ℕ) (r : List (Pair ℕ)). q ∷ r) (ap₂ pair (sym (found_hidden fs n 0 (sym eo)).1) (sym (found_shown gs n y 0 (sym ep)).1)) e
same_noted fs gs None None n ps ks eo ep e = e

pub pairs_are : (a b : Side) (fs gs : List Shown) (n : ℕ) → ((k : ℕ) → k < n → get_or a.fields k None ≡ found fs k) → ((k : ℕ) → k < n → get_or b.fields k None ≡ found gs k) →
    field_pairs a b n ≡ pairs_at fs gs 0 (labels a b n)
pairs_are a b fs gs zero ha hb = refl
pairs_are a b fs gs (suc n) ha hb =
    same_noted fs gs (get_or a.fields n None) (get_or b.fields n None) n (field_pairs a b n) (labels a b n) (ha n (omega arith)) (hb n (omega arith))
    (pairs_are a b fs gs n (λ k l. ha k (omega (arith, l))) (λ k l. hb k (omega (arith, l))))

-- what is shown is found
pub shown_found : (fs : List Shown) (k z : ℕ) → shown fs k ≡ true → found fs k ≡ Some (lookup fs k z)
shown_found [] k z e = absurd (false≢true e)
shown_found (s ∷ fs) k z e = go (eqb k s.label) (λ q. shown_found fs k z q) e
  where
    go : (t : Bool) → (shown fs k ≡ true → found fs k ≡ Some (lookup fs k z)) → cond t true (shown fs k) ≡ true → cond t (Some s.field) (found fs k) ≡ Some (cond t s.field (lookup fs k z))
    go true h e = refl
    go false h e = h e

pub hidden_found : (fs : List Shown) (k : ℕ) → shown fs k ≡ false → found fs k ≡ None
hidden_found [] k e = refl
hidden_found (s ∷ fs) k e = go (eqb k s.label) (λ q. hidden_found fs k q) e
  where
    go : (t : Bool) → (shown fs k ≡ false → found fs k ≡ None) → cond t true (shown fs k) ≡ false → cond t (Some s.field) (found fs k) ≡ None
    go true h e = absurd (false≢true (sym e))
    go false h e = h e
