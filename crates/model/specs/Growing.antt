-- Values of the open codes give one solution and no more.
use Rattle.std.specs.Prelude.{◌≡◌, ℕ, zero, suc, ◌+◌, ◌<◌, true, refl}
use Rattle.std.proofs.Common.{sym, ◌∙◌, ap, ap₂, subst, arith}
use Rattle.ground.specs.Values.{Ty, whole, tenth, flag, to, list, record_of, Value, of_type, of_field, of_row}
use Rattle.ground.specs.Sorts.{Of}
use Rattle.ground.specs.Heads.{Builds, has_first, has_second}
use Rattle.ground.specs.declared.sort.Sort.TheVariants.{«Type» as OfType}
use Rattle.ground.specs.declared.head.Head.{Head}
use Rattle.ground.specs.declared.head.Head.TheVariants.{Whole, Tenth, Flag, To, List as ListOf, Record, Absent, Has, Empty, Row as RowWith}
use Rattle.ground.proofs.Built.{no_way, builds_swap, builds_one}
use Rattle.system.specs.Meaning.{Valuation}
use Rattle.system.specs.Requests.{head_number}
use Rattle.model.specs.declared.cell.Cell.{Cell}
use Rattle.model.specs.declared.cell.Cell.TheVariants.{Open, Link, Built}
use Rattle.model.specs.Means.{Says, Holds, Lower, Falls, Refers}

abbrev pub as_ty : Value → Ty
as_ty (of_type t) = t
as_ty (of_field f) = whole
as_ty (of_row r) = whole

pub as_ty_holds : (v : Value) → Of OfType v → of_type (as_ty v) ≡ v
as_ty_holds (of_type t) o = refl
as_ty_holds (of_field f) o = absurd o
as_ty_holds (of_row r) o = absurd o

-- what a head builds, of the first five
abbrev pub made : Head → Value → Value → Value
made Whole x y = of_type whole
made Tenth x y = of_type tenth
made Flag x y = of_type flag
made To x y = of_type (to (as_ty x) (as_ty y))
made ListOf x y = of_type (list (as_ty x))
made Record x y = of_type whole
made Absent x y = of_type whole
made Has x y = of_type whole
made Empty x y = of_type whole
made RowWith x y = of_type whole

made_type : (h : Head) (x y : Value) → Of OfType (made h x y)
made_type Whole x y = tt
made_type Tenth x y = tt
made_type Flag x y = tt
made_type To x y = tt
made_type ListOf x y = tt
made_type Record x y = tt
made_type Absent x y = tt
made_type Has x y = tt
made_type Empty x y = tt
made_type RowWith x y = tt

-- what is shown of the first five heads
pub five : (P : Head → Type 0) → P Whole → P Tenth → P Flag → P To → P ListOf → (h : Head) → head_number h < 5 → P h
five P a b c d e Whole l = a
five P a b c d e Tenth l = b
five P a b c d e Flag l = c
five P a b c d e To l = d
five P a b c d e ListOf l = e
five P a b c d e Record l = absurd (let z : ⊥ = omega arith in z)
five P a b c d e Absent l = absurd (let z : ⊥ = omega arith in z)
five P a b c d e Has l = absurd (let z : ⊥ = omega arith in z)
five P a b c d e Empty l = absurd (let z : ⊥ = omega arith in z)
five P a b c d e RowWith l = absurd (let z : ⊥ = omega arith in z)

pub made_builds : (h : Head) (x y : Value) → head_number h < 5 → Of OfType x → Of OfType y → Builds h 0 x y (made h x y)
made_builds h x y l p q =
    five (λ h. Builds h 0 x y (made h x y)) refl refl refl (as_ty x, as_ty y, sym (as_ty_holds x p), sym (as_ty_holds y q), refl) (as_ty x, sym (as_ty_holds x p), refl) h l

made_same : (h : Head) (x y u v : Value) → (has_first h ≡ true → x ≡ u) → (has_second h ≡ true → y ≡ v) → made h x y ≡ made h u v
made_same Whole x y u v p q = refl
made_same Tenth x y u v p q = refl
made_same Flag x y u v p q = refl
made_same To x y u v p q = ap₂ (λ (a b : Value). of_type (to (as_ty a) (as_ty b))) (p refl) (q refl)
made_same ListOf x y u v p q = ap (λ (a : Value). of_type (list (as_ty a))) (p refl)
made_same Record x y u v p q = refl
made_same Absent x y u v p q = refl
made_same Has x y u v p q = refl
made_same Empty x y u v p q = refl
made_same RowWith x y u v p q = refl

-- the value of a code, from the values a of the open codes and r of the others
abbrev pub shape : Valuation → ℕ → Valuation → Cell → Value
shape a c r Open = of_type (as_ty (a c))
shape a c r (Link p) = r p
shape a c r (Built h x y) = made h (r x) (r y)

-- and by so many steps
abbrev pub grown : Valuation → (ℕ → Cell) → ℕ → Valuation
grown a w zero c = of_type whole
grown a w (suc m) c = shape a c (grown a w m) (w c)

shape_type : (a : Valuation) (c : ℕ) (r : Valuation) → ((j : ℕ) → Of OfType (r j)) → (s : Cell) → Of OfType (shape a c r s)
shape_type a c r ih Open = tt
shape_type a c r ih (Link p) = ih p
shape_type a c r ih (Built h x y) = made_type h (r x) (r y)

grown_type : (a : Valuation) (w : ℕ → Cell) (m c : ℕ) → Of OfType (grown a w m c)
grown_type a w zero c = tt
grown_type a w (suc m) c = shape_type a c (grown a w m) (grown_type a w m) (w c)

module _ (a : Valuation) (w : ℕ → Cell) (k : ℕ → ℕ) (falls : Falls w k) where
  shape_same : (c : ℕ) (r s : Valuation) → ((j : ℕ) → k j < k c → r j ≡ s j) → (u : Cell) → Lower k c u → shape a c r u ≡ shape a c s u
  shape_same c r s ih Open lo = refl
  shape_same c r s ih (Link p) lo = ih p lo
  shape_same c r s ih (Built h x y) lo = made_same h (r x) (r y) (s x) (s y) (λ e. ih x (lo.0 e)) (λ e. ih y (lo.1 e))

  stable : (m n c : ℕ) → k c < m → k c < n → grown a w m c ≡ grown a w n c
  stable zero n c p q = absurd (let z : ⊥ = omega arith in z)
  stable (suc m) zero c p q = absurd (let z : ⊥ = omega arith in z)
  stable (suc m) (suc n) c p q = shape_same c (grown a w m) (grown a w n) (λ j lt. stable m n j (omega arith) (omega arith)) (w c) (falls c)

  abbrev pub solved : Valuation
  solved c = grown a w (suc (k c)) c

  says : (n c : ℕ) (s : Cell) → solved c ≡ shape a c (grown a w (k c)) s → Lower k c s → Refers n s → Says solved c s
  says n c Open e lo r = tt
  says n c (Link p) e lo r = e ∙ stable (k c) (suc (k p)) p lo (omega arith)
  says n c (Built h x y) e lo r =
      subst (λ (v : Value). Builds h 0 (solved x) (solved y) v) (sym e)
      (builds_swap h 0 (grown a w (k c) x) (grown a w (k c) y) (solved x) (solved y) (made h (grown a w (k c) x) (grown a w (k c) y))
      (λ f. stable (k c) (suc (k x)) x (lo.0 f) (omega arith))
      (λ f. stable (k c) (suc (k y)) y (lo.1 f) (omega arith))
      (made_builds h (grown a w (k c) x) (grown a w (k c) y) r.0 (grown_type a w (k c) x) (grown_type a w (k c) y)))

  pub solves : (n : ℕ) → ((c : ℕ) → c < n → Refers n (w c)) → Holds n w solved
  solves n refers c lt = (grown_type a w (suc (k c)) c, says n c (w c) refl (falls c) (refers c lt))

  pub solves_open : (c : ℕ) → Of OfType (a c) → w c ≡ Open → solved c ≡ a c
  solves_open c o e = ap (shape a c (grown a w (k c))) e ∙ as_ty_holds (a c) o

module _ (n : ℕ) (w : ℕ → Cell) (k : ℕ → ℕ) (falls : Falls w k) (refers : (c : ℕ) → c < n → Refers n (w c)) (v u : Valuation) (hv : Holds n w v) (hu : Holds n w u)
    (agree : (c : ℕ) → c < n → w c ≡ Open → v c ≡ u c) where
  one_by : (c : ℕ) → ((j : ℕ) → j < n → k j < k c → v j ≡ u j) → c < n → (s : Cell) → w c ≡ s → Says v c s → Says u c s → Lower k c s → Refers n s → v c ≡ u c
  one_by c ih lt Open e p q lo r = agree c lt e
  one_by c ih lt (Link d) e p q lo r = p ∙ ih d r lo ∙ sym q
  one_by c ih lt (Built h x y) e p q lo r =
      builds_one h 0 (u x) (u y) (v c) (u c) (builds_swap h 0 (v x) (v y) (u x) (u y) (v c) (λ f. ih x (r.1 f) (lo.0 f)) (λ f. ih y (r.2 f) (lo.1 f)) p) q

  only_by : (m c : ℕ) → k c < m → c < n → v c ≡ u c
  only_by zero c l lt = absurd (let z : ⊥ = omega arith in z)
  only_by (suc m) c l lt = one_by c (λ j lj lo. only_by m j (omega arith) lj) lt (w c) refl (hv c lt).1 (hu c lt).1 (falls c) (refers c lt)

  pub only : (c : ℕ) → c < n → v c ≡ u c
  only c lt = only_by (suc (k c)) c (omega arith) lt

-- sizes of values, and the head that a value shows
abbrev pub size : Ty → ℕ
size whole = 0
size tenth = 0
size flag = 0
size (to a b) = suc (size a + size b)
size (list a) = suc (size a)
size (record_of r) = 0

abbrev pub weight : Value → ℕ
weight v = size (as_ty v)

pub first_lighter : (h : Head) (x y v : Value) → head_number h < 5 → has_first h ≡ true → Builds h 0 x y v → weight x < weight v
first_lighter h x y v l =
    five (λ h. has_first h ≡ true → Builds h 0 x y v → weight x < weight v) (λ f b. absurd (no_way f)) (λ f b. absurd (no_way f)) (λ f b. absurd (no_way f))
    (λ f b. omega (arith, ap weight b.2, ap weight b.4)) (λ f b. omega (arith, ap weight b.1, ap weight b.2)) h l

pub second_lighter : (h : Head) (x y v : Value) → head_number h < 5 → has_second h ≡ true → Builds h 0 x y v → weight y < weight v
second_lighter h x y v l =
    five (λ h. has_second h ≡ true → Builds h 0 x y v → weight y < weight v) (λ f b. absurd (no_way f)) (λ f b. absurd (no_way f)) (λ f b. absurd (no_way f))
    (λ f b. omega (arith, ap weight b.3, ap weight b.4)) (λ f b. absurd (no_way f)) h l

abbrev pub shows : Ty → ℕ
shows whole = 0
shows tenth = 1
shows flag = 2
shows (to a b) = 3
shows (list a) = 4
shows (record_of r) = 5

pub builds_shows : (h : Head) (x y v : Value) → head_number h < 5 → Builds h 0 x y v → shows (as_ty v) ≡ head_number h
builds_shows h x y v l =
    five (λ h. Builds h 0 x y v → shows (as_ty v) ≡ head_number h) (λ b. shown b) (λ b. shown b) (λ b. shown b) (λ b. shown b.4) (λ b. shown b.2) h l
  where
    shown : {t : Ty} → v ≡ of_type t → shows (as_ty v) ≡ shows t
    shown e = ap (λ (u : Value). shows (as_ty u)) e

abbrev pub head_at : ℕ → Head
head_at zero = Whole
head_at (suc zero) = Tenth
head_at (suc (suc zero)) = Flag
head_at (suc (suc (suc zero))) = To
head_at (suc (suc (suc (suc n)))) = ListOf

pub head_at_holds : (h : Head) → head_number h < 5 → head_at (head_number h) ≡ h
head_at_holds = five (λ h. head_at (head_number h) ≡ h) refl refl refl refl refl

pub one_head : (h g : Head) → head_number h < 5 → head_number g < 5 → head_number h ≡ head_number g → h ≡ g
one_head h g p q e = sym (head_at_holds h p) ∙ ap head_at e ∙ head_at_holds g q
