-- Ground values: types, fields and rows. Each is finite. Labels are the numbers from 0, without end.
use Rattle.std.specs.Prelude.{ℕ, zero, suc}

mutual
  -- A type: a whole number, tenths, a flag, a function, a list, or a record over a row.
  pub data Ty : Type 0 where
    whole : Ty
    tenth : Ty
    flag : Ty
    to : Ty → Ty → Ty
    list : Ty → Ty
    record_of : Row → Ty

  -- A row has a field at every label, all but some absent. The number in `next` counts the absent labels before the next type that the row has;
  -- the labels of the row behind it begin after that type. So each row is written in one way, and rows equal at every label are equal.
  pub data Row : Type 0 where
    end : Row
    next : ℕ → Ty → Row → Row

-- A field: absent, or of a type.
pub data Field : Type 0 where
  absent : Field
  has : Ty → Field

-- A value is one of these.
pub data Value : Type 0 where
  of_type : Ty → Value
  of_field : Field → Value
  of_row : Row → Value

-- The field of a row at the label 0.
abbrev pub first : Row → Field
first end = absent
first (next zero t r) = has t
first (next (suc g) t r) = absent

-- The fields of a row at the labels after 0, each label counted one less.
abbrev pub rest : Row → Row
rest end = end
rest (next zero t r) = r
rest (next (suc g) t r) = next g t r

-- The row with the field f at the label 0 and the fields of r after it.
abbrev pub before : Field → Row → Row
before absent end = end
before absent (next g t r) = next (suc g) t r
before (has t) r = next zero t r

-- The field of a row at a label.
abbrev pub at : Row → ℕ → Field
at r zero = first r
at r (suc l) = at (rest r) l

-- The row with the field f at the label l, and r elsewhere.
abbrev pub put : Row → ℕ → Field → Row
put r zero f = before f (rest r)
put r (suc l) f = before (first r) (put (rest r) l f)
