-- The size of a value, and what it is of a row that was built.
use Rattle.std.proofs.Common.{◌≡◌, ℕ, zero, suc, ◌+◌, ◌≤◌, refl, ap, arith}
use Rattle.ground.specs.Values.{Ty, whole, tenth, flag, to, list, record_of, Row, end, next, first, rest, before, at, put, Field, absent, has, Value, of_type, of_field, of_row}

-- the heads in a type and in a row, but for those of absent fields and of rows
abbrev mutual
  pub size_ty : Ty → ℕ
  size_ty whole = 1
  size_ty tenth = 1
  size_ty flag = 1
  size_ty (to a b) = suc (size_ty a + size_ty b)
  size_ty (list a) = suc (size_ty a)
  size_ty (record_of r) = suc (size_row r)

  pub size_row : Row → ℕ
  size_row end = 0
  size_row (next g t r) = suc (size_ty t) + size_row r

abbrev pub size_field : Field → ℕ
size_field absent = 0
size_field (has t) = suc (size_ty t)

abbrev pub size : Value → ℕ
size (of_type t) = size_ty t
size (of_field f) = size_field f
size (of_row r) = size_row r

size_before : (f : Field) (r : Row) → size_row (before f r) ≡ size_field f + size_row r
size_before absent end = refl
size_before absent (next g t r) = omega arith
size_before (has t) r = refl

size_parts : (r : Row) → size_row r ≡ size_field (first r) + size_row (rest r)
size_parts end = refl
size_parts (next zero t r) = refl
size_parts (next (suc g) t r) = omega arith

pub size_put : (r : Row) (l : ℕ) (f : Field) → at r l ≡ absent → size_row (put r l f) ≡ size_field f + size_row r
size_put r zero f e =
    let p = size_before f (rest r) in
    let q = size_parts r in
    let z : size_field (first r) ≡ 0 = ap size_field e in
    omega arith
size_put r (suc l) f e =
    let p = size_before (first r) (put (rest r) l f) in
    let q = size_parts r in
    let i = size_put (rest r) l f e in
    omega arith

pub size_at : (r : Row) (l : ℕ) → size_field (at r l) ≤ size_row r
size_at r zero = let q = size_parts r in omega arith
size_at r (suc l) = let q = size_parts r in let i = size_at (rest r) l in omega arith
