-- A part of a type or a field is smaller than it, so that none is a part of itself.
use Rattle.std.proofs.Common.{◌≡◌, ℕ, ◌<◌, ◌≤◌, true, sym, ap, subst, inl, inr, arith}
use Rattle.ground.specs.Values.{Ty, Row, put, at, Field, Value, of_type, of_field, of_row}
use Rattle.ground.specs.Heads.{Builds, Suits, has_first, has_second}
use Rattle.ground.specs.Parts.{Child, Part, child, deeper}
use Rattle.ground.specs.declared.sort.Labels.{Labels}
use Rattle.ground.specs.declared.head.Head.{Head}
use Rattle.ground.specs.declared.head.Head.TheVariants.{Whole, Tenth, Flag, To, List as ListOf, Record, Absent, Has, Empty, Row as RowWith}
use Rattle.ground.proofs.Built.{no_way}
use Rattle.ground.proofs.Sizes.{size, size_put, size_at}
use Rattle.ground.proofs.Told.{apt}

-- no larger, and smaller where v is no row
pub record Within (x v : Value) : Type 0 where
  pub most : size x ≤ size v
  pub less : ((r : Row) → v ≡ of_row r → ⊥) → size x < size v

smaller : (x v : Value) → size x < size v → Within x v
smaller x v s = record { most = omega arith; less = λ n. s }

first_within : (h : Head) (m : Labels) (l : ℕ) (y z v : Value) → Suits h m l y z → Builds h l y z v → has_first h ≡ true → Within y v
first_within Whole m l y z v s b f = absurd (no_way f)
first_within Tenth m l y z v s b f = absurd (no_way f)
first_within Flag m l y z v s b f = absurd (no_way f)
first_within To m l y z v s (a, c, p, q, e) f = let i = ap size p in let j = ap size e in smaller y v (omega arith)
first_within ListOf m l y z v s (a, p, e) f = let i = ap size p in let j = ap size e in smaller y v (omega arith)
first_within Record m l y z v s (a, p, e) f = let i = ap size p in let j = ap size e in smaller y v (omega arith)
first_within Absent m l y z v s b f = absurd (no_way f)
first_within Has m l y z v s (a, p, e) f = let i = ap size p in let j = ap size e in smaller y v (omega arith)
first_within Empty m l y z v s b f = absurd (no_way f)
first_within RowWith m l y z v s (a, r, p, q, e) f =
    let i = ap size p in
    let j = ap size e in
    let k = size_put r l a (apt RowWith m l y z s r q) in
    record { most = omega arith; less = λ n. absurd (n (put r l a) e) }

second_within : (h : Head) (m : Labels) (l : ℕ) (y z v : Value) → Suits h m l y z → Builds h l y z v → has_second h ≡ true → Within z v
second_within Whole m l y z v s b f = absurd (no_way f)
second_within Tenth m l y z v s b f = absurd (no_way f)
second_within Flag m l y z v s b f = absurd (no_way f)
second_within To m l y z v s (a, c, p, q, e) f = let i = ap size q in let j = ap size e in smaller z v (omega arith)
second_within ListOf m l y z v s b f = absurd (no_way f)
second_within Record m l y z v s b f = absurd (no_way f)
second_within Absent m l y z v s b f = absurd (no_way f)
second_within Has m l y z v s b f = absurd (no_way f)
second_within Empty m l y z v s b f = absurd (no_way f)
second_within RowWith m l y z v s (a, r, p, q, e) f =
    let i = ap size q in
    let j = ap size e in
    let k = size_put r l a (apt RowWith m l y z s r q) in
    record { most = omega arith; less = λ n. absurd (n (put r l a) e) }

child_within : (x v : Value) → Child x v → Within x v
child_within x v (h, m, l, y, z, s, b, inl (f, e)) = subst (λ (t : Value). Within t v) (sym e) (first_within h m l y z v s b f)
child_within x v (h, m, l, y, z, s, b, inr (f, e)) = subst (λ (t : Value). Within t v) (sym e) (second_within h m l y z v s b f)

part_within : {x v : Value} → Part x v → Within x v
part_within {x} {v} (child c) = child_within x v c
part_within {x} {v} (deeper {y = y} c p) =
    let i = child_within x y c in
    let j = part_within p in
    record { most = let a = i.most in let b = j.most in omega arith; less = λ n. let a = i.most in let b = j.less n in omega arith }

type_no_row : (t : Ty) (r : Row) → of_type t ≡ of_row r → ⊥
type_no_row t r e = let z : ◌≡◌ {A = ℕ} 0 1 = cc in omega arith

field_no_row : (f : Field) (r : Row) → of_field f ≡ of_row r → ⊥
field_no_row f r e = let z : ◌≡◌ {A = ℕ} 0 1 = cc in omega arith

pub type_apart : (t : Ty) → Part (of_type t) (of_type t) → ⊥
type_apart t p = let s = (part_within p).less (type_no_row t) in omega arith

pub field_apart : (f : Field) → Part (of_field f) (of_field f) → ⊥
field_apart f p = let s = (part_within p).less (field_no_row f) in omega arith

pub row_apart : (r : Row) (l : ℕ) → Part (of_row r) (of_field (at r l)) → ⊥
row_apart r l p = let s = (part_within p).less (field_no_row (at r l)) in let a = size_at r l in omega arith
