-- What a sort and a class set allow is never one value alone.
use Rattle.std.proofs.Common.{◌≡◌, ℕ, zero, suc, ◌/◌, ◌%◌, ◌^◌, ◌<◌, sym, ap, ◌∙◌, subst, arith}
use native.Mathlib.Nat.{div-eq_of_lt}
use Rattle.ground.specs.Values.{Ty, whole, tenth, flag, to, list, record_of, Field, absent, has, at, put, Value, of_type, of_field, of_row}
use Rattle.ground.specs.Sorts.{Of, In}
use Rattle.ground.specs.Classes.{InClass, Allowed}
use Rattle.ground.specs.declared.sort.Sort.{Sort}
use Rattle.ground.specs.declared.sort.Sort.TheVariants.{«Type» as OfType, Field as OfField, Row as OfRow}
use Rattle.ground.specs.declared.sort.Labels.{Labels}
use Rattle.ground.specs.declared.classes.Classes.{Classes}
use Rattle.ground.proofs.Rows.{at_put, at_other}

-- a type that is in each class that t is in, and is not t
other : Ty → Ty
other whole = tenth
other tenth = whole
other flag = list flag
other (to a b) = whole
other (list a) = a
other (record_of r) = whole

other_in : (j : ℕ) (t : Ty) → InClass j t → InClass j (other t)
unfolding other
other_in zero whole h = tt
other_in zero tenth h = tt
other_in zero flag h = absurd h
other_in zero (to a b) h = absurd h
other_in zero (list a) h = absurd h
other_in zero (record_of r) h = absurd h
other_in (suc zero) whole h = tt
other_in (suc zero) tenth h = tt
other_in (suc zero) flag h = absurd h
other_in (suc zero) (to a b) h = absurd h
other_in (suc zero) (list a) h = h
other_in (suc zero) (record_of r) h = absurd h
other_in (suc (suc zero)) whole h = tt
other_in (suc (suc zero)) tenth h = tt
other_in (suc (suc zero)) flag h = tt
other_in (suc (suc zero)) (to a b) h = absurd h
other_in (suc (suc zero)) (list a) h = h
other_in (suc (suc zero)) (record_of r) h = absurd h
other_in (suc (suc (suc zero))) whole h = absurd h
other_in (suc (suc (suc zero))) tenth h = absurd h
other_in (suc (suc (suc zero))) flag h = tt
other_in (suc (suc (suc zero))) (to a b) h = absurd h
other_in (suc (suc (suc zero))) (list a) h = h
other_in (suc (suc (suc zero))) (record_of r) h = absurd h
other_in (suc (suc (suc (suc j)))) t h = absurd h

never : ◌≡◌ {A = ℕ} 0 1 → ⊥
never e = omega arith

no_loop : (a : Ty) → list a ≡ a → ⊥
no_loop whole e = never cc
no_loop tenth e = never cc
no_loop flag e = never cc
no_loop (to a b) e = never cc
no_loop (list a) e = no_loop a (let p : list a ≡ a = cc in p)
no_loop (record_of r) e = never cc

other_apart : (t : Ty) → of_type t ≡ of_type (other t) → ⊥
unfolding other
other_apart whole e = never cc
other_apart tenth e = never cc
other_apart flag e = never cc
other_apart (to a b) e = never cc
other_apart (list a) e = no_loop a (let p : list a ≡ a = cc in p)
other_apart (record_of r) e = never cc

flip : Field → Field
flip absent = has whole
flip (has t) = absent

flip_apart : (f : Field) → f ≡ flip f → ⊥
unfolding flip
flip_apart absent e = never cc
flip_apart (has t) e = never cc

-- label 24 is in no set of labels
not_24 : (m : Labels) → m.0 < 2 ^ 24 → In 24 m → ⊥
not_24 m s h =
    let z : m.0 / 2 ^ 24 ≡ 0 = div-eq_of_lt s in
    let y : 0 % 2 ≡ 1 = ap (λ x. x % 2) (sym z) ∙ h in omega arith

abbrev pub Small : Sort → Type 0
Small OfType = Unit {0}
Small OfField = Unit {0}
Small (OfRow m) = m.0 < 2 ^ 24

pub another : (o : Sort) (k : Classes) (x : Value) → Small o → Of o x → Allowed k x → (y : Value) × Of o y × Allowed k y × (x ≡ y → ⊥)
another OfType k (of_type t) s o a = (of_type (other t), tt, λ j h. other_in j t (a j h), other_apart t)
another OfType k (of_field f) s o a = absurd o
another OfType k (of_row r) s o a = absurd o
another OfField k (of_type t) s o a = absurd o
another OfField k (of_field f) s o a = (of_field (flip f), tt, a, λ e. flip_apart f (let p : f ≡ flip f = cc in p))
another OfField k (of_row r) s o a = absurd o
another (OfRow m) k (of_type t) s o a = absurd o
another (OfRow m) k (of_field f) s o a = absurd o
another (OfRow m) k (of_row r) s o a =
    let q = put r 24 (flip (at r 24)) in (
      of_row q,
      λ l i. at_other r 24 l (flip (at r 24)) (λ e. not_24 m s (subst (λ (x : ℕ). In x m) e i)) ∙ o l i,
      a,
      λ e. let p : r ≡ q = cc in flip_apart (at r 24) (ap (λ x. at x 24) p ∙ at_put r 24 (flip (at r 24))),
    )

pub another_type : (s : Classes) (t : Ty) → Allowed s (of_type t) → (u : Ty) × Allowed s (of_type u) × (t ≡ u → ⊥)
another_type s t a = (other t, λ j h. other_in j t (a j h), λ e. other_apart t (ap of_type e))
