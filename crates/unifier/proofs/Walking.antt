-- A walk along a chain, as a table of what it shows.
use Rattle.std.proofs.Common.{◌≡◌, ℕ, zero, suc, ◌+◌, ◌-◌, ◌<◌, ◌≤◌, Bool, true, false, cond, eqb, List, [], ◌∷◌, ◌++◌, length, get_or, set, Some, None, Option, sym, refl, ap, ◌∙◌, subst, ⊎_elim, arith}
use Rattle.std.proofs.lemmas.List.{get_or-set_same, get_or-set_other}
use Rattle.std.proofs.lemmas.Bool.{cases_eq, cases_Bool, eq-eqb, ne_eqb, cond-true, cond-false, false≢true}
use Rattle.ground.specs.declared.sort.Sort.{Sort}
use Rattle.cells.specs.declared.What.TheVariants.{Link, Row as RowAt}
use Rattle.cells.specs.declared.Cell.{Cell}
use Rattle.cells.specs.Cells.{what_at, rank_at, sort_at, Formed, Refers, stay, on}
use Rattle.cells.specs.Rooms.{spare_sort}
use Rattle.cells.specs.Rows.{Shown, Chain, ends, shows, shown}
use Rattle.cells.proofs.Chains.{known, over_is, chain_sort}
use Rattle.cells.proofs.Cyclic.{over_spare}
use Rattle.cells.proofs.Weighing.{steps, steps_lt}
use Rattle.unifier.specs.Fine.{Fine, Proper, Rowly}
use Rattle.unifier.specs.Sides.{found}

-- a chain goes on through a link, and through a row
pub chain_lead : (cs : List (Cell ℕ)) {c i p : ℕ} {fs : List Shown} → Chain cs c fs i → what_at cs i ≡ Link p → Chain cs c fs p
chain_lead cs (ends l) e = ends (on l e)
chain_lead cs (shows l q ch) e = shows l q (chain_lead cs ch e)

pub chain_show : (cs : List (Cell ℕ)) {c i l x y : ℕ} {fs : List Shown} → Chain cs c fs i → what_at cs i ≡ RowAt l x y → Chain cs c (fs ++ record { label = l; field = x } ∷ []) y
chain_show cs (ends p) e = shows p e (ends stay)
chain_show cs (shows p q ch) e = shows p q (chain_show cs ch e)

-- what a chain shows with a label more
pub found_other : (fs : List Shown) (l x k : ℕ) → (k ≡ l → ⊥) → found (fs ++ record { label = l; field = x } ∷ []) k ≡ found fs k
found_other [] l x k q = cond-false (eqb k l) (Some x) None (ne_eqb k l q)
found_other (s ∷ fs) l x k q = ap (cond (eqb k s.label) (Some s.field)) (found_other fs l x k q)

pub found_here : (fs : List Shown) (l x : ℕ) → shown fs l ≡ false → found (fs ++ record { label = l; field = x } ∷ []) l ≡ Some x
found_here [] l x e = cond-true (eqb l l) (Some x) None (eq-eqb l l refl)
found_here (s ∷ fs) l x e = go (eqb l s.label) (λ q. found_here fs l x q) e
  where
    go : (t : Bool) → (shown fs l ≡ false → found (fs ++ record { label = l; field = x } ∷ []) l ≡ Some x) → cond t true (shown fs l) ≡ false →
        cond t (Some s.field) (found (fs ++ record { label = l; field = x } ∷ []) l) ≡ Some x
    go true h e = absurd (false≢true (sym e))
    go false h e = h e

-- an empty table
abbrev pub nones : ℕ → List (Option ℕ)
nones zero = []
nones (suc n) = None ∷ nones n

pub nones_at : (n k : ℕ) → get_or (nones n) k None ≡ None
nones_at zero k = refl
nones_at (suc n) zero = refl
nones_at (suc n) (suc k) = nones_at n k

pub table_more : (fs : List Shown) (t : List (Option ℕ)) (l x : ℕ) → shown fs l ≡ false → l < length t → ((k : ℕ) → k < 24 → get_or t k None ≡ found fs k) →
    (k : ℕ) → k < 24 → get_or (set t l (Some x)) k None ≡ found (fs ++ record { label = l; field = x } ∷ []) k
table_more fs t l x e lt h k kl =
    ⊎_elim
    (λ (q : k ≡ l). subst (λ (j : ℕ). get_or (set t l (Some x)) j None ≡ found (fs ++ record { label = l; field = x } ∷ []) j) (sym q) (get_or-set_same t l (Some x) None lt ∙ sym (found_here fs l x e)))
    (λ (q : k ≡ l → ⊥). get_or-set_other t l k (Some x) None q ∙ h k kl ∙ sym (found_other fs l x k q))
    (cases_eq k l)

-- no label comes twice
pub label_new : (cs : List (Cell ℕ)) (c i l x y : ℕ) (fs : List Shown) → Formed cs → Rowly (sort_at cs c) → Chain cs c fs i → what_at cs i ≡ RowAt l x y → shown fs l ≡ false
label_new cs c i l x y fs f r ch e =
    let s = chain_sort cs r.0 f ch r.1 in
    let g = subst (Refers cs i) e (f.refers i (known cs i (RowAt l x y) e refl)) in
    let a = over_is (sort_at cs i) (sort_at cs y) l s.0 s.1 g.3 in
    ⊎_elim (λ (q : shown fs l ≡ true). absurd (a.2.new (s.2.here l q))) (λ (q : shown fs l ≡ false). q) (cases_Bool (shown fs l))

-- how far the end can be: fewer labels to come, or a higher rank
abbrev pub far : List (Cell ℕ) → ℕ → ℕ
far cs i = steps (suc (length cs)) (spare_sort (sort_at cs i)) + (length cs - rank_at cs i)

abstractly : (p q n x y : ℕ) → suc n + p ≤ q → p + (n - x) < q + (n - y)
abstractly p q n x y h = omega arith

pub far_tail : (cs : List (Cell ℕ)) (i l x y : ℕ) → Fine cs → what_at cs i ≡ RowAt l x y → far cs y < far cs i
far_tail cs i l x y f e =
    let il = known cs i (RowAt l x y) e refl in
    let g = subst (Refers cs i) e (f.formed.refers i il) in
    let s = over_spare (sort_at cs i) (sort_at cs y) l (subst Proper e (f.proper i il)).0 g.3 in
    abstractly (steps (suc (length cs)) (spare_sort (sort_at cs y))) (steps (suc (length cs)) (spare_sort (sort_at cs i))) (length cs) (rank_at cs y) (rank_at cs i) (steps_lt (suc (length cs)) (spare_sort (sort_at cs y)) (spare_sort (sort_at cs i)) s)

over_link : (p q n x y : ℕ) → p ≡ q → y < x → x ≤ n → p + (n - x) < q + (n - y)
over_link p q n x y e h k = omega arith

pub far_link : (cs : List (Cell ℕ)) (i p : ℕ) → Fine cs → what_at cs i ≡ Link p → far cs p < far cs i
far_link cs i p f e =
    let il = known cs i (Link p) e refl in
    let g = subst (Refers cs i) e (f.formed.refers i il) in
    let k = f.formed.ranks p g.0 in
    over_link (steps (suc (length cs)) (spare_sort (sort_at cs p))) (steps (suc (length cs)) (spare_sort (sort_at cs i))) (length cs) (rank_at cs p) (rank_at cs i)
    (ap (λ (s : Sort). steps (suc (length cs)) (spare_sort s)) (sym g.2)) g.1 (omega (arith, k))
