-- The open codes, and what one bind more does to them.
use Rattle.std.specs.Prelude.{◌≡◌, ℕ, zero, suc, ◌+◌, ◌<◌, ◌≤◌, Bool, true, false, cond, ◌⊎◌, List, [], ◌∷◌, ◌++◌, length, Some, None, Option, ◌==◌, ◌≢◌, slice_index_or, refl}
use Rattle.std.proofs.Common.{sym, ◌∙◌, ap, ap₂, subst, inl, inr, ⊎_elim, arith, eq-eqb, ne_eqb}
use Rattle.std.proofs.lemmas.Bool.{cases_eq}
use Rattle.ground.specs.declared.classes.Classes.{Classes}
use Rattle.system.specs.Meaning.{Listed, Once}
use Rattle.model.specs.declared.cell.Cell.{Cell}
use Rattle.model.specs.declared.cell.Cell.TheVariants.{Open, Link, Built}
use Rattle.model.specs.declared.cell.Bind.{Bind}
use Rattle.model.specs.Cells.{lookup, linked, seen, view}
use Rattle.model.specs.Means.{opens, with_open, unclassed}
use Rattle.model.specs.Ranks.{open_link, open_built}

listed_with : (c : ℕ) (s : Cell) (os : List (ℕ × Classes)) (d : ℕ) (k : Classes) → Listed (with_open c s os) d k → ((d ≡ c) × (s ≡ Open) × (k ≡ unclassed)) ⊎ Listed os d k
listed_with c Open os d k (inl e) = inl (sym e.0, refl, sym e.1)
listed_with c Open os d k (inr l) = inr l
listed_with c (Link p) os d k l = inr l
listed_with c (Built h x y) os d k l = inr l

pub open_listed : (n : ℕ) (w : ℕ → Cell) (d : ℕ) (k : Classes) → Listed (opens n w) d k → (d < n) × (w d ≡ Open) × (k ≡ unclassed)
open_listed zero w d k l = absurd l
open_listed (suc c) w d k l =
    ⊎_elim
    (λ (e : (d ≡ c) × (w c ≡ Open) × (k ≡ unclassed)). (omega (arith, e.0), ap w e.0 ∙ e.1, e.2))
    (λ (m : Listed (opens c w) d k). let r = open_listed c w d k m in (omega (arith, r.0), r.1, r.2))
    (listed_with c (w c) (opens c w) d k l)

here : (c : ℕ) (s : Cell) (os : List (ℕ × Classes)) → s ≡ Open → Listed (with_open c s os) c unclassed
here c Open os e = inl (refl, refl)
here c (Link p) os e = absurd (open_link p (sym e))
here c (Built h x y) os e = absurd (open_built h x y (sym e))

there : (c : ℕ) (s : Cell) (os : List (ℕ × Classes)) (d : ℕ) (k : Classes) → Listed os d k → Listed (with_open c s os) d k
there c Open os d k l = inr l
there c (Link p) os d k l = l
there c (Built h x y) os d k l = l

pub listed_open : (n : ℕ) (w : ℕ → Cell) (d : ℕ) → d < n → w d ≡ Open → Listed (opens n w) d unclassed
listed_open zero w d l e = absurd (let z : ⊥ = omega arith in z)
listed_open (suc c) w d l e =
    ⊎_elim
    (λ (q : d ≡ c). subst (λ (x : ℕ). Listed (opens (suc c) w) x unclassed) (sym q) (here c (w c) (opens c w) (sym (ap w q) ∙ e)))
    (λ (q : d ≡ c → ⊥). there c (w c) (opens c w) d unclassed (listed_open c w d (less d c l q) e))
    (cases_eq d c)
  where
    less : (d c : ℕ) → d < suc c → (d ≢ c) → d < c
    less d c l q = omega arith

once_with : (c : ℕ) (s : Cell) (os : List (ℕ × Classes)) → ((k : Classes) → Listed os c k → ⊥) → Once os → Once (with_open c s os)
once_with c Open os f o = (f, o)
once_with c (Link p) os f o = o
once_with c (Built h x y) os f o = o

pub opens_once : (n : ℕ) (w : ℕ → Cell) → Once (opens n w)
opens_once zero w = tt
opens_once (suc c) w = once_with c (w c) (opens c w) (λ k l. let r = open_listed c w c k l in let z : ⊥ = omega (arith, r.0) in z) (opens_once c w)

-- how much longer the list is by this one
abbrev openly : Cell → ℕ
openly Open = 1
openly (Link p) = 0
openly (Built h x y) = 0

length_with : (c : ℕ) (s : Cell) (os : List (ℕ × Classes)) → length (with_open c s os) ≡ openly s + length os
length_with c Open os = omega arith
length_with c (Link p) os = omega arith
length_with c (Built h x y) os = omega arith

openly_most : (s : Cell) → openly s ≤ 1
openly_most Open = omega arith
openly_most (Link p) = omega arith
openly_most (Built h x y) = omega arith

pub opens_most : (n : ℕ) (w : ℕ → Cell) → length (opens n w) ≤ n
opens_most zero w = omega arith
opens_most (suc c) w = omega (arith, length_with c (w c) (opens c w), openly_most (w c), opens_most c w)

pub opens_same : (n : ℕ) (w w' : ℕ → Cell) → ((c : ℕ) → c < n → w' c ≡ w c) → opens n w' ≡ opens n w
opens_same zero w w' f = refl
opens_same (suc c) w w' f = ap₂ (with_open c) (f c (omega arith)) (opens_same c w w' (λ d l. f d (omega (arith, l))))

pub opens_less : (n : ℕ) (w w' : ℕ → Cell) (a b : ℕ) → a < n → w a ≡ Open → w' a ≡ Link b → ((c : ℕ) → (c ≢ a) → w' c ≡ w c) → length (opens n w') + 1 ≡ length (opens n w)
opens_less zero w w' a b l e f g = absurd (let z : ⊥ = omega arith in z)
opens_less (suc c) w w' a b l e f g =
    ⊎_elim
    (λ (q : a ≡ c).
    let p = ap openly (sym (ap w q) ∙ e) in
    let r = ap openly (sym (ap w' q) ∙ f) in
    let s = ap length (opens_same c w w' (λ d m. g d (λ i. let z : ⊥ = omega (arith, m, i, q) in z))) in
    omega (arith, length_with c (w c) (opens c w), length_with c (w' c) (opens c w'), p, r, s))
    (λ (q : a ≡ c → ⊥).
    let p = ap openly (g c (λ i. q (sym i))) in
    let s = opens_less c w w' a b (less a c l q) e f g in
    omega (arith, length_with c (w c) (opens c w), length_with c (w' c) (opens c w'), p, s))
    (cases_eq a c)
  where
    less : (d c : ℕ) → d < suc c → (d ≢ c) → d < c
    less d c l q = omega arith

-- one bind more
abbrev pub bound_to : ℕ → ℕ → Bind
bound_to a b = record { from = a; to = b }

lookup_here : (bs : List Bind) (a b : ℕ) → linked (lookup bs a) ≡ Open → lookup (bs ++ (bound_to a b ∷ [])) a ≡ Some (bound_to a b)
lookup_here [] a b e = ap (λ (t : Bool). cond t (Some (bound_to a b)) None) (eq-eqb a a refl)
lookup_here (d ∷ bs) a b e = go (d.from == a) e (lookup_here bs a b)
  where
    go : (t : Bool) → linked (cond t (Some d) (lookup bs a)) ≡ Open → (linked (lookup bs a) ≡ Open → lookup (bs ++ (bound_to a b ∷ [])) a ≡ Some (bound_to a b))
        → cond t (Some d) (lookup (bs ++ (bound_to a b ∷ [])) a) ≡ Some (bound_to a b)
    go true e ih = absurd (open_link d.to (sym e))
    go false e ih = ih e

lookup_else : (bs : List Bind) (a b c : ℕ) → (c ≢ a) → lookup (bs ++ (bound_to a b ∷ [])) c ≡ lookup bs c
lookup_else [] a b c n = ap (λ (t : Bool). cond t (Some (bound_to a b)) None) (ne_eqb a c (λ e. n (sym e)))
lookup_else (d ∷ bs) a b c n = ap (λ (o : Option Bind). cond (d.from == c) (Some d) o) (lookup_else bs a b c n)

pub view_here : (cs : List Cell) (bs : List Bind) (a b : ℕ) → view cs bs a ≡ Open → view cs (bs ++ (bound_to a b ∷ [])) a ≡ Link b
view_here cs bs a b e = go (slice_index_or cs a Open) e
  where
    go : (x : Cell) → seen bs a x ≡ Open → seen (bs ++ (bound_to a b ∷ [])) a x ≡ Link b
    go Open e = ap linked (lookup_here bs a b e)
    go (Link p) e = absurd (open_link p (sym e))
    go (Built h x y) e = absurd (open_built h x y (sym e))

pub view_else : (cs : List Cell) (bs : List Bind) (a b c : ℕ) → (c ≢ a) → view cs (bs ++ (bound_to a b ∷ [])) c ≡ view cs bs c
view_else cs bs a b c n = go (slice_index_or cs c Open)
  where
    go : (x : Cell) → seen (bs ++ (bound_to a b ∷ [])) c x ≡ seen bs c x
    go Open = ap linked (lookup_else bs a b c n)
    go (Link p) = refl
    go (Built h x y) = refl

pub opens_more : (n : ℕ) (w : ℕ → Cell) → length (opens (suc n) w) ≤ suc (length (opens n w))
opens_more n w = omega (arith, length_with n (w n) (opens n w), openly_most (w n))
