-- A number that falls along references bounds how many heads can follow one another.
use Rattle.std.specs.Prelude.{◌≡◌, ℕ, zero, suc, ◌+◌, ◌<◌, ◌≤◌, max, Bool, true, false, cond, List, length, ◌≢◌, nat_lt, refl}
use Rattle.std.proofs.Common.{ap, ap₂, subst, ⊎_elim, arith}
use Rattle.std.proofs.lemmas.Bool.{cases_eq, lt-ltb, le-ltb, ltb-true}
use Rattle.ground.proofs.Built.{no_way}
use Rattle.cells.specs.declared.What.{What}
use Rattle.cells.specs.declared.What.TheVariants.{Open, Link, Leaf, One, Two, Row as RowAt}
use Rattle.cells.specs.declared.Cell.{Cell}
use Rattle.cells.specs.Cells.{what_at, Formed}
use Rattle.cells.specs.Weights.{Lower, Falls}
use Rattle.cells.proofs.Extending.{Inside, inside}
use Rattle.unifier.specs.Solvers.{taller, height}

abbrev one_if : Bool → ℕ
one_if b = cond b 1 0

-- how many of the first n numbers are such
abbrev pub many : ℕ → (ℕ → Bool) → ℕ
many zero p = 0
many (suc n) p = one_if (p n) + many n p

one_or_none : (b : Bool) → one_if b ≤ 1
one_or_none true = omega arith
one_or_none false = omega arith

pub many_most : (n : ℕ) (p : ℕ → Bool) → many n p ≤ n
many_most zero p = omega arith
many_most (suc n) p = omega (arith, many_most n p, one_or_none (p n))

less_one : (a b : Bool) → (a ≡ true → b ≡ true) → one_if a ≤ one_if b
less_one true true h = omega arith
less_one true false h = absurd (no_way (h refl))
less_one false true h = omega arith
less_one false false h = omega arith

many_le : (n : ℕ) (p q : ℕ → Bool) → ((i : ℕ) → p i ≡ true → q i ≡ true) → many n p ≤ many n q
many_le zero p q h = omega arith
many_le (suc n) p q h = omega (arith, many_le n p q h, less_one (p n) (q n) (h n))

many_less : (n : ℕ) (p q : ℕ → Bool) (x : ℕ) → ((i : ℕ) → p i ≡ true → q i ≡ true) → x < n → p x ≡ false → q x ≡ true → many n p < many n q
many_less zero p q x h l e f = absurd (let z : ⊥ = omega arith in z)
many_less (suc n) p q x h l e f =
    ⊎_elim
    (λ (s : x ≡ n).
    let a = ap (λ (b : Bool). one_if b) (subst (λ (i : ℕ). p i ≡ false) s e) in
    let b = ap (λ (b : Bool). one_if b) (subst (λ (i : ℕ). q i ≡ true) s f) in
    omega (arith, a, b, many_le n p q h))
    (λ (s : x ≡ n → ⊥). omega (arith, many_less n p q x h (ne_lt x n l s) e f, less_one (p n) (q n) (h n)))
    (cases_eq x n)
  where
    ne_lt : (x n : ℕ) → x < suc n → (x ≢ n) → x < n
    ne_lt x n l s = omega arith

-- the number of cells below n that k has lower
abbrev pub counted : ℕ → (ℕ → ℕ) → ℕ → ℕ
counted n k c = many n (λ i. nat_lt (k i) (k c))

counted_falls : (n : ℕ) (k : ℕ → ℕ) (x c : ℕ) → x < n → k x < k c → counted n k x < counted n k c
counted_falls n k x c l h =
    many_less n (λ i. nat_lt (k i) (k x)) (λ i. nat_lt (k i) (k c)) x (λ i e. lt-ltb (k i) (k c) (through i (ltb-true (k i) (k x) e))) l (le-ltb (k x) (k x) (omega arith)) (lt-ltb (k x) (k c) h)
  where
    through : (i : ℕ) → k i < k x → k i < k c
    through i a = omega (arith, a, h)

pub counted_less : (n : ℕ) (k : ℕ → ℕ) (c : ℕ) → c < n → counted n k c < n
counted_less n k c l = less (many_less n (λ i. nat_lt (k i) (k c)) (λ i. true) c (λ i e. refl) l (le-ltb (k c) (k c) (omega arith)) refl) (many_most n (λ i. true))
  where
    less : {a b n : ℕ} → a < b → b ≤ n → a < n
    less p q = omega arith

counted_lower : (n : ℕ) (k : ℕ → ℕ) (c : ℕ) (w : What ℕ) → Inside n w → Lower k c w → Lower (counted n k) c w
counted_lower n k c Open r l = tt
counted_lower n k c (Link p) r l = counted_falls n k p c r l
counted_lower n k c (Leaf h) r l = tt
counted_lower n k c (One h x) r l = counted_falls n k x c r l
counted_lower n k c (Two x y) r l = (counted_falls n k x c r.0 l.0, counted_falls n k y c r.1 l.1)
counted_lower n k c (RowAt a x y) r l = (counted_falls n k x c r.0 l.0, counted_falls n k y c r.1 l.1)

taller_most : (f : ℕ → ℕ) (m : ℕ) → ((z : ℕ) → f z ≤ m) → (w : What ℕ) → taller f w ≤ suc m
taller_most f m ih Open = omega arith
taller_most f m ih (Link p) = omega (arith, ih p)
taller_most f m ih (Leaf h) = omega arith
taller_most f m ih (One h x) = omega (arith, ih x)
taller_most f m ih (Two x y) = omega (arith, ih x, ih y)
taller_most f m ih (RowAt l x y) = omega (arith, ih x, ih y)

pub height_most : (cs : List (Cell ℕ)) (m c : ℕ) → height cs m c ≤ m
height_most cs zero c = omega arith
height_most cs (suc m) c = taller_most (height cs m) m (height_most cs m) (what_at cs c)

module _ (cs : List (Cell ℕ)) (k : ℕ → ℕ) (falls : Falls cs k) (formed : Formed cs) where
  -- a number below that of the cells
  abbrev low : ℕ → ℕ
  low = counted (length cs) k

  low_falls : (c : ℕ) → c < length cs → Lower low c (what_at cs c)
  low_falls c l = counted_lower (length cs) k c (what_at cs c) (inside cs c (what_at cs c) (formed.refers c l)) (falls c)

  taller_same : (c : ℕ) (f g : ℕ → ℕ) → ((j : ℕ) → j < length cs → low j < low c → f j ≡ g j) → (w : What ℕ) → Inside (length cs) w → Lower low c w → taller f w ≡ taller g w
  taller_same c f g ih Open n l = refl
  taller_same c f g ih (Link p) n l = ap suc (ih p n l)
  taller_same c f g ih (Leaf h) n l = refl
  taller_same c f g ih (One h x) n l = ap suc (ih x n l)
  taller_same c f g ih (Two x y) n l = ap₂ (λ (a b : ℕ). suc (max a b)) (ih x n.0 l.0) (ih y n.1 l.1)
  taller_same c f g ih (RowAt h x y) n l = ap₂ (λ (a b : ℕ). suc (max a b)) (ih x n.0 l.0) (ih y n.1 l.1)

  height_stable : (m n c : ℕ) → c < length cs → low c < m → low c < n → height cs m c ≡ height cs n c
  height_stable zero n c l p q = absurd (let z : ⊥ = omega arith in z)
  height_stable (suc m) zero c l p q = absurd (let z : ⊥ = omega arith in z)
  height_stable (suc m) (suc n) c l p q =
      taller_same c (height cs m) (height cs n) (λ j jl lt. height_stable m n j jl (omega arith) (omega arith)) (what_at cs c) (inside cs c (what_at cs c) (formed.refers c l)) (low_falls c l)

  -- with as many steps as there are cells, or more, it falls along every reference
  module _ (z : ℕ) (fits : length cs ≤ suc z) where
    abbrev tall : ℕ → ℕ
    tall = height cs (suc z)

    under : (c d : ℕ) → c < length cs → d < length cs → low d < low c → height cs z d ≡ tall d
    under c d cl dl l = height_stable z (suc z) d dl (omega (arith, counted_less (length cs) k c cl, l, fits)) (omega (arith, counted_less (length cs) k d dl, fits))

    falls_by : (c : ℕ) → c < length cs → (w : What ℕ) → what_at cs c ≡ w → Inside (length cs) w → Lower low c w → tall c ≡ taller (height cs z) w → Lower tall c w
    falls_by c l Open e n lo t = tt
    falls_by c l (Link p) e n lo t = omega (arith, t, under c p l n lo)
    falls_by c l (Leaf h) e n lo t = tt
    falls_by c l (One h x) e n lo t = omega (arith, t, under c x l n lo)
    falls_by c l (Two x y) e n lo t = (omega (arith, t, under c x l n.0 lo.0), omega (arith, t, under c y l n.1 lo.1))
    falls_by c l (RowAt h x y) e n lo t = (omega (arith, t, under c x l n.0 lo.0), omega (arith, t, under c y l n.1 lo.1))

    pub tall_falls : (c : ℕ) → c < length cs → Lower tall c (what_at cs c)
    tall_falls c l = falls_by c l (what_at cs c) refl (inside cs c (what_at cs c) (formed.refers c l)) (low_falls c l) refl
