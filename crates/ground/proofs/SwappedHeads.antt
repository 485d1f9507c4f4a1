-- Swapping two labels leaves heads and classes as they are.
use Rattle.std.proofs.Common.{ℕ, zero, suc, ap, ◌∙◌, subst}
use Rattle.ground.specs.Values.{Ty, whole, tenth, flag, to, list, record_of, Row, Value, of_row}
use Rattle.ground.specs.Classes.{InClass}
use Rattle.ground.specs.Heads.{Builds}
use Rattle.ground.specs.Swaps.{swap_label, swap_ty, swap_row, swap_field, swap_value}
use Rattle.ground.specs.declared.head.Head.{Head}
use Rattle.ground.specs.declared.head.Head.TheVariants.{Whole, Tenth, Flag, To, List as ListOf, Record, Absent, Has, Empty, Row as RowWith}
use Rattle.ground.proofs.Swapped.{swap_end, swap_put, type_twice}

pub heads_kept : (a b : ℕ) (h : Head) (l : ℕ) (x y v : Value) → Builds h l x y v → Builds h (swap_label a b l) (swap_value a b x) (swap_value a b y) (swap_value a b v)
heads_kept a b Whole l x y v e = ap (swap_value a b) e
heads_kept a b Tenth l x y v e = ap (swap_value a b) e
heads_kept a b Flag l x y v e = ap (swap_value a b) e
heads_kept a b To l x y v (t, u, p, q, e) = (swap_ty a b t, swap_ty a b u, ap (swap_value a b) p, ap (swap_value a b) q, ap (swap_value a b) e)
heads_kept a b ListOf l x y v (t, p, e) = (swap_ty a b t, ap (swap_value a b) p, ap (swap_value a b) e)
heads_kept a b Record l x y v (r, p, e) = (swap_row a b r, ap (swap_value a b) p, ap (swap_value a b) e)
heads_kept a b Absent l x y v e = ap (swap_value a b) e
heads_kept a b Has l x y v (t, p, e) = (swap_ty a b t, ap (swap_value a b) p, ap (swap_value a b) e)
heads_kept a b Empty l x y v e = ap (swap_value a b) e ∙ ap of_row (swap_end a b)
heads_kept a b RowWith l x y v (f, r, p, q, e) =
    (swap_field a b f, swap_row a b r, ap (swap_value a b) p, ap (swap_value a b) q, ap (swap_value a b) e ∙ ap of_row (swap_put a b r l f))

-- no class has a function or a record
no_function : (k : ℕ) (t u : Ty) → InClass k (to t u) → ⊥
no_function zero t u h = h
no_function (suc zero) t u h = h
no_function (suc (suc zero)) t u h = h
no_function (suc (suc (suc zero))) t u h = h
no_function (suc (suc (suc (suc k)))) t u h = h

no_record : (k : ℕ) (r : Row) → InClass k (record_of r) → ⊥
no_record zero r h = h
no_record (suc zero) r h = h
no_record (suc (suc zero)) r h = h
no_record (suc (suc (suc zero))) r h = h
no_record (suc (suc (suc (suc k)))) r h = h

pub class_kept : (a b k : ℕ) (t : Ty) → InClass k t → InClass k (swap_ty a b t)
class_kept a b k whole h = h
class_kept a b k tenth h = h
class_kept a b k flag h = h
class_kept a b k (to t u) h = absurd (no_function k t u h)
class_kept a b zero (list t) h = absurd h
class_kept a b (suc zero) (list t) h = class_kept a b 1 t h
class_kept a b (suc (suc zero)) (list t) h = class_kept a b 2 t h
class_kept a b (suc (suc (suc zero))) (list t) h = class_kept a b 3 t h
class_kept a b (suc (suc (suc (suc k)))) (list t) h = absurd h
class_kept a b k (record_of r) h = absurd (no_record k r h)

pub classes_kept : (a b k : ℕ) (t : Ty) → (InClass k t → InClass k (swap_ty a b t)) × (InClass k (swap_ty a b t) → InClass k t)
classes_kept a b k t = (class_kept a b k t, λ h. subst (InClass k) (type_twice a b t) (class_kept a b k (swap_ty a b t) h))
