-- Numbers that fall along references, and what they give.
use Rattle.std.specs.Prelude.{◌≡◌, ℕ, zero, suc, ◌+◌, ◌<◌, ◌≤◌, max, Bool, true, false, cond, ◌==◌, ◌≢◌, nat_lt, refl}
use Rattle.std.proofs.Common.{sym, ◌∙◌, ap, ap₂, subst, ⊎_elim, arith, ltb-true, lt-ltb, le-ltb, eq-eqb}
use Rattle.std.proofs.lemmas.Bool.{cases_eq}
use Rattle.ground.specs.Heads.{has_first, has_second}
use Rattle.ground.specs.declared.head.Head.{Head}
use Rattle.ground.proofs.Built.{no_way}
use Rattle.model.specs.declared.cell.Cell.{Cell}
use Rattle.model.specs.declared.cell.Cell.TheVariants.{Open, Link, Built}
use Rattle.model.specs.Cells.{root, onward, occurs, among}
use Rattle.model.specs.Means.{Lower, Falls, Refers, height, taller}

abbrev pub kind_of : Cell → ℕ
kind_of Open = 0
kind_of (Link p) = 1
kind_of (Built h x y) = 2

pub open_link : (p : ℕ) → Open ≢ Link p
open_link p e = let z = ap kind_of e in let y : ⊥ = omega (arith, z) in y

pub open_built : (h : Head) (x y : ℕ) → Open ≢ Built h x y
open_built h x y e = let z = ap kind_of e in let y : ⊥ = omega (arith, z) in y

pub built_link : (h : Head) (x y p : ℕ) → Built h x y ≢ Link p
built_link h x y p e = let z = ap kind_of e in let y : ⊥ = omega (arith, z) in y

abbrev one_if : Bool → ℕ
one_if b = cond b 1 0

-- how many of the first n numbers are such
abbrev pub many : ℕ → (ℕ → Bool) → ℕ
many zero p = 0
many (suc n) p = one_if (p n) + many n p

one_or_none : (b : Bool) → one_if b ≤ 1
one_or_none true = omega arith
one_or_none false = omega arith

pub many_most : (n : ℕ) (p : ℕ → Bool) → many n p ≤ n
many_most zero p = omega arith
many_most (suc n) p = omega (arith, many_most n p, one_or_none (p n))

less_one : (a b : Bool) → (a ≡ true → b ≡ true) → one_if a ≤ one_if b
less_one true true h = omega arith
less_one true false h = absurd (no_way (h refl))
less_one false true h = omega arith
less_one false false h = omega arith

many_le : (n : ℕ) (p q : ℕ → Bool) → ((i : ℕ) → p i ≡ true → q i ≡ true) → many n p ≤ many n q
many_le zero p q h = omega arith
many_le (suc n) p q h = omega (arith, many_le n p q h, less_one (p n) (q n) (h n))

many_less : (n : ℕ) (p q : ℕ → Bool) (x : ℕ) → ((i : ℕ) → p i ≡ true → q i ≡ true) → x < n → p x ≡ false → q x ≡ true → many n p < many n q
many_less zero p q x h l e f = absurd (let z : ⊥ = omega arith in z)
many_less (suc n) p q x h l e f =
    ⊎_elim
    (λ (s : x ≡ n).
    let a = ap (λ (b : Bool). one_if b) (subst (λ (i : ℕ). p i ≡ false) s e) in
    let b = ap (λ (b : Bool). one_if b) (subst (λ (i : ℕ). q i ≡ true) s f) in
    omega (arith, a, b, many_le n p q h))
    (λ (s : x ≡ n → ⊥). omega (arith, many_less n p q x h (ne_lt x n l s) e f, less_one (p n) (q n) (h n)))
    (cases_eq x n)
  where
    ne_lt : (x n : ℕ) → x < suc n → (x ≢ n) → x < n
    ne_lt x n l s = omega arith

-- the number of codes below n that k has lower
abbrev pub counted : ℕ → (ℕ → ℕ) → ℕ → ℕ
counted n k c = many n (λ i. nat_lt (k i) (k c))

pub counted_falls : (n : ℕ) (k : ℕ → ℕ) (x c : ℕ) → x < n → k x < k c → counted n k x < counted n k c
counted_falls n k x c l h =
    many_less n (λ i. nat_lt (k i) (k x)) (λ i. nat_lt (k i) (k c)) x (λ i e. lt-ltb (k i) (k c) (through i (ltb-true (k i) (k x) e))) l (le-ltb (k x) (k x) (omega arith)) (lt-ltb (k x) (k c) h)
  where
    through : (i : ℕ) → k i < k x → k i < k c
    through i a = omega (arith, a, h)

pub counted_lower : (n : ℕ) (k : ℕ → ℕ) (c : ℕ) (s : Cell) → Refers n s → Lower k c s → Lower (counted n k) c s
counted_lower n k c Open r l = tt
counted_lower n k c (Link p) r l = counted_falls n k p c r l
counted_lower n k c (Built h x y) r l = (λ e. counted_falls n k x c (r.1 e) (l.0 e), λ e. counted_falls n k y c (r.2 e) (l.1 e))

module _ (w : ℕ → Cell) (k : ℕ → ℕ) (falls : Falls w k) where
  -- of a child that there is
  half : {A : Type 0} (c : ℕ) (f g : ℕ → A) (d : A) → ((j : ℕ) → k j < k c → f j ≡ g j) → (t : Bool) (z : ℕ) → (t ≡ true → k z < k c) → cond t (f z) d ≡ cond t (g z) d
  half c f g d ih true z lz = ih z (lz refl)
  half c f g d ih false z lz = refl

  among_same : (c : ℕ) (f g : ℕ → Bool) → ((j : ℕ) → k j < k c → f j ≡ g j) → (s : Cell) → Lower k c s → among f s ≡ among g s
  among_same c f g ih Open l = refl
  among_same c f g ih (Link p) l = ih p l
  among_same c f g ih (Built h x y) l =
      ap₂ (λ (a b : Bool). cond a true b) (half c f g false ih (has_first h) x l.0) (half c f g false ih (has_second h) y l.1)

  pub occurs_stable : (a m n c : ℕ) → k c < m → k c < n → occurs w m a c ≡ occurs w n a c
  occurs_stable a zero n c p q = absurd (let z : ⊥ = omega arith in z)
  occurs_stable a (suc m) zero c p q = absurd (let z : ⊥ = omega arith in z)
  occurs_stable a (suc m) (suc n) c p q =
      ap (λ (b : Bool). cond (a == c) true b) (among_same c (occurs w m a) (occurs w n a) (λ j lt. occurs_stable a m n j (omega arith) (omega arith)) (w c) (falls c))

  -- the codes that a is reached from
  abbrev pub above : ℕ → ℕ → Bool
  above a c = occurs w (suc (k c)) a c

  pub above_self : (a : ℕ) → above a a ≡ true
  above_self a = ap (λ (b : Bool). cond b true (among (occurs w (k a) a) (w a))) (eq-eqb a a refl)

  or_true : (t b : Bool) → b ≡ true → cond t true b ≡ true
  or_true true b e = refl
  or_true false b e = e

  pub above_step : (a c : ℕ) → among (above a) (w c) ≡ true → above a c ≡ true
  above_step a c e =
      or_true (a == c) (among (occurs w (k c) a) (w c))
      (among_same c (occurs w (k c) a) (above a) (λ j lt. occurs_stable a (k c) (suc (k j)) j lt (omega arith)) (w c) (falls c) ∙ e)

  -- a rank in which a is above b, where b does not reach a
  abbrev pub raised : ℕ → ℕ → ℕ → ℕ
  raised a b c = k c + cond (above a c) (suc (k b)) 0

  more : (a b x c : ℕ) → k x < k c → (above a x ≡ true → above a c ≡ true) → raised a b x < raised a b c
  more a b x c l h = go (above a x) (above a c) h
    where
      go : (p q : Bool) → (p ≡ true → q ≡ true) → k x + cond p (suc (k b)) 0 < k c + cond q (suc (k b)) 0
      go true true h = omega arith
      go true false h = absurd (no_way (h refl))
      go false true h = omega arith
      go false false h = omega arith

  reach : (a c : ℕ) (s : Cell) → w c ≡ s → among (above a) s ≡ true → above a c ≡ true
  reach a c s e t = above_step a c (ap (among (above a)) e ∙ t)

  raised_lower : (a b c : ℕ) (s : Cell) → w c ≡ s → Lower k c s → Lower (raised a b) c s
  raised_lower a b c Open e l = tt
  raised_lower a b c (Link p) e l = more a b p c l (λ t. reach a c (Link p) e t)
  raised_lower a b c (Built h x y) e l = (
    λ f. more a b x c (l.0 f) (λ t. reach a c (Built h x y) e (first (has_first h) (above a x) (cond (has_second h) (above a y) false) f t)),
    λ f. more a b y c (l.1 f) (λ t. reach a c (Built h x y) e (second (cond (has_first h) (above a x) false) (has_second h) (above a y) f t)),
  )
    where
      first : (t u r : Bool) → t ≡ true → u ≡ true → cond (cond t u false) true r ≡ true
      first true true r p q = refl
      first true false r p q = absurd (no_way q)
      first false u r p q = absurd (no_way p)

      second : (r t u : Bool) → t ≡ true → u ≡ true → cond r true (cond t u false) ≡ true
      second true t u p q = refl
      second false true u p q = q
      second false false u p q = absurd (no_way p)

  pub raised_falls : (a b : ℕ) (w' : ℕ → Cell) → w' a ≡ Link b → ((c : ℕ) → (c ≢ a) → w' c ≡ w c) → above a b ≡ false → Falls w' (raised a b)
  raised_falls a b w' here else apart c =
      ⊎_elim
      (λ (e : c ≡ a). subst (λ (i : ℕ). Lower (raised a b) i (w' i)) (sym e) (subst (λ (s : Cell). Lower (raised a b) a s) (sym here) link))
      (λ (n : c ≡ a → ⊥). subst (λ (s : Cell). Lower (raised a b) c s) (sym (else c n)) (raised_lower a b c (w c) refl (falls c)))
      (cases_eq c a)
    where
      link : raised a b b < raised a b a
      link =
          let p : cond (above a b) (suc (k b)) 0 ≡ 0 = ap (λ (t : Bool). cond t (suc (k b)) 0) apart in
          let q : cond (above a a) (suc (k b)) 0 ≡ suc (k b) = ap (λ (t : Bool). cond t (suc (k b)) 0) (above_self a) in
          omega (arith, p, q)

  -- heights
  taller_same : (c : ℕ) (f g : ℕ → ℕ) → ((j : ℕ) → k j < k c → f j ≡ g j) → (s : Cell) → Lower k c s → taller f s ≡ taller g s
  taller_same c f g ih Open l = refl
  taller_same c f g ih (Link p) l = ap suc (ih p l)
  taller_same c f g ih (Built h x y) l = ap₂ (λ (a b : ℕ). suc (max a b)) (half c f g 0 ih (has_first h) x l.0) (half c f g 0 ih (has_second h) y l.1)

  pub height_stable : (m n c : ℕ) → k c < m → k c < n → height w m c ≡ height w n c
  height_stable zero n c p q = absurd (let z : ⊥ = omega arith in z)
  height_stable (suc m) zero c p q = absurd (let z : ⊥ = omega arith in z)
  height_stable (suc m) (suc n) c p q =
      taller_same c (height w m) (height w n) (λ j lt. height_stable m n j (omega arith) (omega arith)) (w c) (falls c)

  root_go : (m c p : ℕ) (s : Cell) → w c ≡ s → Lower k c s → ((q : ℕ) → k q < k c → w (root w m q) ≢ Link p) → w (onward (root w m) c s) ≢ Link p
  root_go m c p Open f l ih e = open_link p (sym f ∙ e)
  root_go m c p (Link q) f l ih e = ih q l e
  root_go m c p (Built h x y) f l ih e = built_link h x y p (sym f ∙ e)

  -- links lead to a code that is no link
  pub root_end : (m c p : ℕ) → k c < m → w (root w m c) ≢ Link p
  root_end zero c p l e = let z : ⊥ = omega arith in z
  root_end (suc m) c p l e = root_go m c p (w c) refl (falls c) (λ q lt. root_end m q p (omega arith)) e

taller_most : (f : ℕ → ℕ) (m : ℕ) → ((z : ℕ) → f z ≤ m) → (s : Cell) → taller f s ≤ suc m
taller_most f m ih Open = omega arith
taller_most f m ih (Link p) = omega (arith, ih p)
taller_most f m ih (Built h x y) = omega (arith, half (has_first h) x, half (has_second h) y)
  where
    half : (t : Bool) (z : ℕ) → cond t (f z) 0 ≤ m
    half true z = ih z
    half false z = omega arith

pub height_most : (w : ℕ → Cell) (m c : ℕ) → height w m c ≤ m
height_most w zero c = omega arith
height_most w (suc m) c = taller_most (height w m) m (height_most w m) (w c)
