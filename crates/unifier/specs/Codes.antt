-- Codes and cells: which codes are known, what valuations say of them, which are open.
use Rattle.std.specs.Prelude.{◌≡◌, ℕ, zero, suc, ◌<◌, ◌≤◌, Bool, true, false, cond, ◌⊎◌, List, [], length, ◌≢◌, nat_lt, refl}
use Rattle.std.proofs.Common.{sym, ◌∙◌, ap, subst, inl, inr, ⊎_elim, arith}
use Rattle.std.proofs.Math.Option.{Option, some, none}
use Rattle.std.proofs.lemmas.Bool.{cases_eq, lt-ltb, le-ltb, ltb-true}
use Rattle.ground.specs.Values.{Value}
use Rattle.ground.specs.Sorts.{Of}
use Rattle.ground.specs.declared.sort.Sort.{Sort}
use Rattle.ground.specs.declared.classes.Classes.{Classes}
use Rattle.ground.proofs.Built.{no_way}
use Rattle.system.specs.Meaning.{Valuation, Listed, Once}
use Rattle.system.specs.Requests.{alike}
use Rattle.system.proofs.Takes.{is_of_holds}
use Rattle.cells.specs.declared.Bare.{Bare}
use Rattle.cells.specs.declared.What.{What}
use Rattle.cells.specs.declared.What.TheVariants.{Open, Link, Leaf, One, Two, Row as RowAt}
use Rattle.cells.specs.declared.Cell.{Cell}
use Rattle.cells.specs.Cells.{what_at, sort_at, Holds, Formed}
use Rattle.cells.specs.Weights.{same}
use Rattle.cells.proofs.Extending.{inside, says_agree}
use Rattle.unifier.specs.States.{seated, sort_in, unclassed, with_open, opens}

-- which codes are known
pub known_code : (cs : List (Cell ℕ)) (c : ℕ) (o : Sort) → sort_in cs c ≡ some o → (0 < c) × (c < length cs) × (sort_at cs c ≡ o)
known_code cs zero o e = let z : ◌≡◌ {A = ℕ} 0 1 = cc in absurd (let y : ⊥ = omega (arith, z) in y)
known_code cs (suc c) o e = go (nat_lt (suc c) (length cs)) refl e
  where
    go : (t : Bool) → nat_lt (suc c) (length cs) ≡ t → cond t (some (sort_at cs (suc c))) none ≡ some o → (0 < suc c) × (suc c < length cs) × (sort_at cs (suc c) ≡ o)
    go true f e = (omega arith, ltb-true (suc c) (length cs) f, let q : sort_at cs (suc c) ≡ o = cc in q)
    go false f e = let z : ◌≡◌ {A = ℕ} 0 1 = cc in absurd (let y : ⊥ = omega (arith, z) in y)

pub code_known : (cs : List (Cell ℕ)) (c : ℕ) → 0 < c → c < length cs → sort_in cs c ≡ some (sort_at cs c)
code_known cs zero p l = absurd (let z : ⊥ = omega arith in z)
code_known cs (suc c) p l = ap (λ (t : Bool). cond t (some (sort_at cs (suc c))) none) (lt-ltb (suc c) (length cs) l)

pub code_past : (cs : List (Cell ℕ)) (c : ℕ) → length cs ≤ c → sort_in cs c ≡ none
code_past cs zero l = refl
code_past cs (suc c) l = ap (λ (t : Bool). cond t (some (sort_at cs (suc c))) none) (le-ltb (suc c) (length cs) l)

-- values of codes
pub seat : (v : Valuation) (c : ℕ) → 0 < c → seated v c ≡ v c
seat v zero p = absurd (let z : ⊥ = omega arith in z)
seat v (suc c) p = refl

pub seat_same : (n : ℕ) (v w : Valuation) → ((c : ℕ) → 0 < c → c < n → w c ≡ v c) → (c : ℕ) → c < n → seated w c ≡ seated v c
seat_same n v w h zero l = refl
seat_same n v w h (suc c) l = h (suc c) (omega arith) l

pub holds_same : (cs : List (Cell ℕ)) (v w : Valuation) → Formed cs → ((i : ℕ) → i < length cs → w i ≡ v i) → Holds same cs v → Holds same cs w
holds_same cs v w f a h i il = (
  says_agree same (length cs) v w a i il (what_at cs i) (inside cs i (what_at cs i) (f.refers i il)) (h i il).0,
  subst (λ (x : Value). Of (sort_at cs i) x) (sym (a i il)) (h i il).1,
)

-- open codes
abbrev pub kind_of : What ℕ → ℕ
kind_of Open = 0
kind_of (Link p) = 1
kind_of (Leaf h) = 2
kind_of (One h x) = 3
kind_of (Two x y) = 4
kind_of (RowAt l x y) = 5

pub kinds_apart : (u w : What ℕ) → (kind_of u ≢ kind_of w) → u ≢ w
kinds_apart u w n e = n (ap kind_of e)

with_listed : (c : ℕ) (w : What ℕ) (os : List (ℕ × Classes)) (d : ℕ) (k : Classes) → Listed (with_open c w os) d k → ((d ≡ c) × (w ≡ Open) × (k ≡ unclassed)) ⊎ Listed os d k
with_listed c Open os d k (inl p) = inl (sym p.0, refl, sym p.1)
with_listed c Open os d k (inr p) = inr p
with_listed c (Link p) os d k l = inr l
with_listed c (Leaf h) os d k l = inr l
with_listed c (One h x) os d k l = inr l
with_listed c (Two x y) os d k l = inr l
with_listed c (RowAt i x y) os d k l = inr l

pub open_listed : (cs : List (Cell ℕ)) (n d : ℕ) (k : Classes) → Listed (opens cs n) d k → (d < n) × (what_at cs d ≡ Open) × (k ≡ unclassed)
open_listed cs zero d k l = absurd l
open_listed cs (suc c) d k l =
    let rest : Listed (opens cs c) d k → (d < c) × (what_at cs d ≡ Open) × (k ≡ unclassed) = open_listed cs c d k in
    ⊎_elim
    (λ (p : (d ≡ c) × (what_at cs c ≡ Open) × (k ≡ unclassed)). (omega (arith, p.0), ap (what_at cs) p.0 ∙ p.1, p.2))
    (λ (p : Listed (opens cs c) d k). let r = rest p in (omega (arith, r.0), r.1, r.2))
    (with_listed c (what_at cs c) (opens cs c) d k l)

here : (c : ℕ) (w : What ℕ) (os : List (ℕ × Classes)) → w ≡ Open → Listed (with_open c w os) c unclassed
here c w os e = subst (λ (x : What ℕ). Listed (with_open c x os) c unclassed) (sym e) (inl (refl, refl))

there : (c : ℕ) (w : What ℕ) (os : List (ℕ × Classes)) (d : ℕ) (k : Classes) → Listed os d k → Listed (with_open c w os) d k
there c Open os d k l = inr l
there c (Link p) os d k l = l
there c (Leaf h) os d k l = l
there c (One h x) os d k l = l
there c (Two x y) os d k l = l
there c (RowAt i x y) os d k l = l

pub listed_open : (cs : List (Cell ℕ)) (n d : ℕ) → d < n → what_at cs d ≡ Open → Listed (opens cs n) d unclassed
listed_open cs zero d l e = absurd (let z : ⊥ = omega arith in z)
listed_open cs (suc c) d l e =
    ⊎_elim
    (λ (q : d ≡ c). subst (λ (x : ℕ). Listed (opens cs (suc c)) x unclassed) (sym q) (here c (what_at cs c) (opens cs c) (sym (ap (what_at cs) q) ∙ e)))
    (λ (q : d ≡ c → ⊥). there c (what_at cs c) (opens cs c) d unclassed (listed_open cs c d (omega (arith, l, q)) e))
    (cases_eq d c)

once_with : (c : ℕ) (w : What ℕ) (os : List (ℕ × Classes)) → ((k : Classes) → Listed os c k → ⊥) → Once os → Once (with_open c w os)
once_with c Open os f o = (f, o)
once_with c (Link p) os f o = o
once_with c (Leaf h) os f o = o
once_with c (One h x) os f o = o
once_with c (Two x y) os f o = o
once_with c (RowAt i x y) os f o = o

pub opens_once : (cs : List (Cell ℕ)) (n : ℕ) → Once (opens cs n)
opens_once cs zero = tt
opens_once cs (suc c) = once_with c (what_at cs c) (opens cs c) (λ k l. let r = open_listed cs c c k l in let z : ⊥ = omega (arith, r.0) in z) (opens_once cs c)

with_most : (c : ℕ) (w : What ℕ) (os : List (ℕ × Classes)) → length (with_open c w os) ≤ suc (length os)
with_most c Open os = omega arith
with_most c (Link p) os = omega arith
with_most c (Leaf h) os = omega arith
with_most c (One h x) os = omega arith
with_most c (Two x y) os = omega arith
with_most c (RowAt i x y) os = omega arith

-- the owned cell is not open
pub opens_most : (cs : List (Cell ℕ)) (n : ℕ) (h : Bare) → what_at cs 0 ≡ Leaf h → length (opens cs (suc n)) ≤ n
opens_most cs zero h e = subst (λ (w : What ℕ). length (with_open 0 w []) ≤ 0) (sym e) (omega arith)
opens_most cs (suc n) h e = omega (arith, with_most (suc n) (what_at cs (suc n)) (opens cs (suc n)), opens_most cs n h e)

-- two codes that may be equated
pub alike_codes : (cs : List (Cell ℕ)) (a b : ℕ) → alike (sort_in cs a) (sort_in cs b) ≡ true → (0 < a) × (a < length cs) × (0 < b) × (b < length cs) × (sort_at cs a ≡ sort_at cs b)
alike_codes cs a b e =
    let k = both_some (sort_in cs a) (sort_in cs b) e in
    let p = known_code cs a k.0 k.1 in
    let q = known_code cs b k.0 k.2 in
    (p.0, p.1, q.0, q.1, p.2 ∙ sym q.2)
  where
    both_some : (p q : Option Sort) → alike p q ≡ true → (k : Sort) × (p ≡ some k) × (q ≡ some k)
    both_some none q e = absurd (no_way e)
    both_some (some k) none e = absurd (no_way e)
    both_some (some k) (some o) e = (o, is_of_holds (some k) o e, refl)
