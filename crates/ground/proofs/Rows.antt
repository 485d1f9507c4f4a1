-- Rows by their fields: what `at` and `put` do, and that rows equal at every label are equal.
use Rattle.std.proofs.Common.{◌≡◌, ℕ, zero, suc, sym, refl, ap, ◌∙◌, ap₂, arith}
use native.Mathlib.Decide.{ℕ_discrete}
use Rattle.ground.specs.Values.{Ty, Row, end, next, Field, absent, has, first, rest, before, at, put}

pub first_before : (f : Field) (r : Row) → first (before f r) ≡ f
first_before absent end = refl
first_before absent (next g t r) = refl
first_before (has t) r = refl

pub rest_before : (f : Field) (r : Row) → rest (before f r) ≡ r
rest_before absent end = refl
rest_before absent (next g t r) = refl
rest_before (has t) r = refl

pub at_end : (l : ℕ) → at end l ≡ absent
at_end zero = refl
at_end (suc l) = at_end l

pub at_put : (r : Row) (l : ℕ) (f : Field) → at (put r l f) l ≡ f
at_put r zero f = first_before f (rest r)
at_put r (suc l) f = ap (λ q. at q l) (rest_before (first r) (put (rest r) l f)) ∙ at_put (rest r) l f

pub at_other : (r : Row) (l k : ℕ) (f : Field) → (k ≡ l → ⊥) → at (put r l f) k ≡ at r k
at_other r zero zero f d = absurd (d refl)
at_other r zero (suc k) f d = ap (λ q. at q k) (rest_before f (rest r))
at_other r (suc l) zero f d = first_before (first r) (put (rest r) l f)
at_other r (suc l) (suc k) f d = ap (λ q. at q k) (rest_before (first r) (put (rest r) l f)) ∙ at_other (rest r) l k f (λ e. d (ap suc e))

differ : {t : Ty} → absent ≡ has t → ⊥
differ e = let z : ◌≡◌ {A = ℕ} 0 1 = cc in omega arith

-- by the gap of the first, with the rest of it known
ext_gap : (t : Ty) (q : Row) → ((r : Row) → ((k : ℕ) → at q k ≡ at r k) → q ≡ r) → (g : ℕ) (r : Row) → ((k : ℕ) → at (next g t q) k ≡ at r k) → next g t q ≡ r
ext_gap t q ih zero end h = absurd (differ (sym (h 0)))
ext_gap t q ih zero (next zero u r) h = let e = h 0 in let p : t ≡ u = cc in ap₂ (next zero) p (ih r (λ k. h (suc k)))
ext_gap t q ih zero (next (suc g) u r) h = absurd (differ (sym (h 0)))
ext_gap t q ih (suc g) end h = let z = ext_gap t q ih g end (λ k. h (suc k)) in absurd (let y : ◌≡◌ {A = ℕ} 0 1 = cc in omega arith)
ext_gap t q ih (suc g) (next zero u r) h = absurd (differ (h 0))
ext_gap t q ih (suc g) (next (suc k) u r) h = let z = ext_gap t q ih g (next k u r) (λ j. h (suc j)) in cc

ext_end : (r : Row) → ((k : ℕ) → absent ≡ at r k) → end ≡ r
ext_end end h = refl
ext_end (next g t r) h = absurd (go g h)
  where
    go : (g : ℕ) → ((k : ℕ) → absent ≡ at (next g t r) k) → ⊥
    go zero h = differ (h 0)
    go (suc g) h = go g (λ k. h (suc k))

-- rows that are equal at every label are equal
pub row_ext : (q r : Row) → ((k : ℕ) → at q k ≡ at r k) → q ≡ r
row_ext end r h = ext_end r (λ k. sym (at_end k) ∙ h k)
row_ext (next g t q) r h = ext_gap t q (row_ext q) g r h

-- rows that are equal at l and elsewhere are equal
pub row_by : (l : ℕ) (q r : Row) → at q l ≡ at r l → ((k : ℕ) → (k ≡ l → ⊥) → at q k ≡ at r k) → q ≡ r
row_by l q r here there = row_ext q r (λ k. go k (ℕ_discrete k l))
  where
    go : (k : ℕ) → Dec (k ≡ l) → at q k ≡ at r k
    go k (yes e) = ap (at q) e ∙ here ∙ ap (at r) (sym e)
    go k (no d) = there k d

-- a row without its field at l, and the field put back
pub put_back : (r : Row) (l : ℕ) → put (put r l absent) l (at r l) ≡ r
put_back r l = row_by l (put (put r l absent) l (at r l)) r (at_put (put r l absent) l (at r l)) (λ k d. at_other (put r l absent) l k (at r l) d ∙ at_other r l k absent d)

-- a row that lacks l is told by the built row
pub put_inj : (q r : Row) (l : ℕ) (f g : Field) → at q l ≡ absent → at r l ≡ absent → put q l f ≡ put r l g → q ≡ r
put_inj q r l f g a b e = row_by l q r (a ∙ sym b) (λ k d. sym (at_other q l k f d) ∙ ap (λ x. at x k) e ∙ at_other r l k g d)

pub put_field : (q r : Row) (l : ℕ) (f g : Field) → put q l f ≡ put r l g → f ≡ g
put_field q r l f g e = sym (at_put q l f) ∙ ap (λ x. at x l) e ∙ at_put r l g
