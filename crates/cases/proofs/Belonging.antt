-- Which types belong to the forms of the worked cases.
use Rattle.std.proofs.Common.{◌≡◌, ℕ, true, codes, sym, refl, ap, ◌∙◌, subst, ap₂, arith}
use Rattle.ground.specs.Values.{Ty, whole, tenth, flag, to, list, record_of, of_type}
use Rattle.ground.specs.Classes.{Num, Ord, Steady}
use Rattle.ground.specs.Belongs.{Belongs, built_in}
use Rattle.cases.specs.Scripts.{self_call, flag_call, number_call, sum, negated, less_call, hold_call, empty}
use Rattle.cases.specs.Cases.{Has, HasNone, given, Number, TypedSo}
use Rattle.cases.proofs.Classes.{num_number, number_num, never_both}

pub type_inj : {a b : Ty} → of_type a ≡ of_type b → a ≡ b
type_inj e = cc

pub from_inj : {a b c d : Ty} → to a b ≡ to c d → a ≡ c
from_inj e = cc

to_inj : {a b c d : Ty} → to a b ≡ to c d → b ≡ d
to_inj e = cc

pub flag_whole : flag ≡ whole → ⊥
flag_whole e = let z : ◌≡◌ {A = ℕ} 0 1 = cc in omega arith

-- No type is the argument of itself.
finite : (A B : Ty) → A ≡ to A B → ⊥
finite whole B e = let z : ◌≡◌ {A = ℕ} 0 1 = cc in omega arith
finite tenth B e = let z : ◌≡◌ {A = ℕ} 0 1 = cc in omega arith
finite flag B e = let z : ◌≡◌ {A = ℕ} 0 1 = cc in omega arith
finite (to a b) B e = finite a b (sym (from_inj (sym e)))
finite (list a) B e = let z : ◌≡◌ {A = ℕ} 0 1 = cc in omega arith
finite (record_of r) B e = let z : ◌≡◌ {A = ℕ} 0 1 = cc in omega arith

pub self_none : (A : Ty) → HasNone (given (codes "f") A) self_call
self_none A T (B, f, x) = finite B T (x ∙ sym f)

-- The name g, which let gives the types of f, has the one type that f has.
pub number_none : (A : Ty) → Belongs (given (codes "g") A) flag_call flag → HasNone (given (codes "g") A) number_call
number_none A (B, f, x) T (C, g, y) = flag_whole (sym x ∙ from_inj (f ∙ sym g) ∙ y)

sum_only : Has (built_in true) sum (λ T. (A : Ty) × Number A × (T ≡ to A A))
sum_only T = (down, up)
  where
    down : Belongs (built_in true) sum T → (A : Ty) × Number A × (T ≡ to A A)
    down (A, R, e, (B, (C, (D, n, f), x), y)) = (D, num_number D n, e ∙ ap₂ to (sym x ∙ from_inj f) (to_inj (to_inj f)))

    up : (A : Ty) × Number A × (T ≡ to A A) → Belongs (built_in true) sum T
    up (A, n, e) = (A, A, e, (A, (A, (A, number_num A n, refl), refl), refl))

negated_none : HasNone (built_in true) negated
negated_none T (A, (D, n, f), x) = subst Num (sym (from_inj f) ∙ x) n

pub hold_none : (A : Ty) → Belongs (given (codes "p") A) less_call flag → HasNone (given (codes "p") A) hold_call
hold_none A (B, (C, (D, o, f), x), y) T (E, (F, s, g), z) = never_both A (subst Ord (sym (from_inj f) ∙ x) o) (subst Steady (sym (from_inj g) ∙ z) s)

empty_only : Has (built_in true) empty (λ T. T ≡ flag)
empty_only T = (down, up)
  where
    down : Belongs (built_in true) empty T → T ≡ flag
    down (B, (C, (D, o, f), x), y) = to_inj (to_inj f)

    up : T ≡ flag → Belongs (built_in true) empty T
    up e = (list whole, (list whole, (list whole, tt, ap (λ X. to (list whole) (to (list whole) X)) e), (whole, refl)), (whole, refl))

pub types : TypedSo
types = record {
  self = λ T h. self_none h.0 h.1 h.3;
  self_call = self_none;
  twice = λ T h. number_none h.0 h.3.1.0 h.1 h.3.1.1;
  number_call = number_none;
  sum = sum_only;
  negated = negated_none;
  held = λ T h. hold_none h.0 h.3.0 h.1 h.3.1;
  hold_call = hold_none;
  empty = empty_only;
  largest = λ T. (λ h. h, λ h. h);
}
