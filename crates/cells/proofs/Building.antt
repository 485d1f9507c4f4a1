-- What the heads build, seen to a depth: congruence for every head, injectivity at successive depths for children of their sorts.
use Rattle.std.proofs.Common.{◌≡◌, ℕ, zero, suc, sym, refl, ap, ◌∙◌, ap₂}
use Rattle.ground.specs.Values.{whole, to, list, record_of, Row, absent, has, Value, of_type, of_field, of_row, at}
use Rattle.ground.specs.Sorts.{Of, In}
use Rattle.ground.specs.declared.sort.Sort.TheVariants.{«Type» as OfType, Field as OfField, Row as OfRow}
use Rattle.ground.specs.declared.sort.Labels.{Labels}
use Rattle.cells.specs.Cuts.{cut_ty, cut_field, cut_row, cut}
use Rattle.cells.specs.Cells.{as_type, as_field, as_row, one, two, row_of}
use Rattle.cells.proofs.Cutting.{record_cut, field_absent, row_end, put_cut}
use Rattle.cells.specs.declared.Wrap.{Wrap}
use Rattle.cells.specs.declared.Wrap.TheVariants.{List as ListOf, Record as RecordOf, Has as HasOf}

whole_cut : (d : ℕ) → whole ≡ cut_ty d whole
whole_cut zero = refl
whole_cut (suc d) = refl

pub type_cut : (d : ℕ) (v : Value) → as_type (cut d v) ≡ cut_ty d (as_type v)
type_cut d (of_type t) = refl
type_cut d (of_field f) = whole_cut d
type_cut d (of_row r) = whole_cut d

pub field_cut : (d : ℕ) (v : Value) → as_field (cut d v) ≡ cut_field d (as_field v)
field_cut d (of_type t) = sym (field_absent d)
field_cut d (of_field f) = refl
field_cut d (of_row r) = sym (field_absent d)

pub row_cut : (d : ℕ) (v : Value) → as_row (cut d v) ≡ cut_row d (as_row v)
row_cut d (of_type t) = sym (row_end d)
row_cut d (of_field f) = sym (row_end d)
row_cut d (of_row r) = refl

-- what is seen of a value is what is seen of it at each sort
pub types_seen : (d : ℕ) (u v : Value) → cut d u ≡ cut d v → cut_ty d (as_type u) ≡ cut_ty d (as_type v)
types_seen d u v e = sym (type_cut d u) ∙ ap as_type e ∙ type_cut d v

pub fields_seen : (d : ℕ) (u v : Value) → cut d u ≡ cut d v → cut_field d (as_field u) ≡ cut_field d (as_field v)
fields_seen d u v e = sym (field_cut d u) ∙ ap as_field e ∙ field_cut d v

pub rows_seen : (d : ℕ) (u v : Value) → cut d u ≡ cut d v → cut_row d (as_row u) ≡ cut_row d (as_row v)
rows_seen d u v e = sym (row_cut d u) ∙ ap as_row e ∙ row_cut d v

-- and back, for values of a sort
pub type_is : (v : Value) → Of OfType v → v ≡ of_type (as_type v)
type_is (of_type t) h = refl
type_is (of_field f) h = absurd h
type_is (of_row r) h = absurd h

pub field_is : (v : Value) → Of OfField v → v ≡ of_field (as_field v)
field_is (of_type t) h = absurd h
field_is (of_field f) h = refl
field_is (of_row r) h = absurd h

pub row_is : (m : Labels) (v : Value) → Of (OfRow m) v → v ≡ of_row (as_row v)
row_is m (of_type t) h = absurd h
row_is m (of_field f) h = absurd h
row_is m (of_row r) h = refl

pub row_lacks : (m : Labels) (v : Value) → Of (OfRow m) v → (l : ℕ) → In l m → at (as_row v) l ≡ absent
row_lacks m (of_type t) h l i = absurd h
row_lacks m (of_field f) h l i = absurd h
row_lacks m (of_row r) h l i = h l i

pub types_back : (d : ℕ) (u v : Value) → Of OfType u → Of OfType v → cut_ty d (as_type u) ≡ cut_ty d (as_type v) → cut d u ≡ cut d v
types_back d u v p q e = ap (cut d) (type_is u p) ∙ ap of_type e ∙ sym (ap (cut d) (type_is v q))

pub fields_back : (d : ℕ) (u v : Value) → Of OfField u → Of OfField v → cut_field d (as_field u) ≡ cut_field d (as_field v) → cut d u ≡ cut d v
fields_back d u v p q e = ap (cut d) (field_is u p) ∙ ap of_field e ∙ sym (ap (cut d) (field_is v q))

pub rows_back : (d : ℕ) (m n : Labels) (u v : Value) → Of (OfRow m) u → Of (OfRow n) v → cut_row d (as_row u) ≡ cut_row d (as_row v) → cut d u ≡ cut d v
rows_back d m n u v p q e = ap (cut d) (row_is m u p) ∙ ap of_row e ∙ sym (ap (cut d) (row_is n v q))

-- congruence: one depth more for what a head builds
record_by : (d : ℕ) (q r : Row) → cut_row d q ≡ cut_row d r → cut (suc d) (of_type (record_of q)) ≡ cut (suc d) (of_type (record_of r))
record_by d q r e = ap of_type (record_cut d q ∙ ap record_of e ∙ sym (record_cut d r))

pub cong_one : (d : ℕ) (h : Wrap) (u v : Value) → cut d u ≡ cut d v → cut (suc d) (one h u) ≡ cut (suc d) (one h v)
cong_one d ListOf u v e = ap (λ t. of_type (list t)) (types_seen d u v e)
cong_one d RecordOf u v e = record_by d (as_row u) (as_row v) (rows_seen d u v e)
cong_one d HasOf u v e = ap (λ t. of_field (has t)) (types_seen d u v e)

pub cong_two : (d : ℕ) (u v x y : Value) → cut d u ≡ cut d x → cut d v ≡ cut d y → cut (suc d) (two u v) ≡ cut (suc d) (two x y)
cong_two d u v x y e g = ap₂ (λ s t. of_type (to s t)) (types_seen d u x e) (types_seen d v y g)

-- a row with a label: the tail to the same depth
pub cong_row : (d l : ℕ) (u v x y : Value) → cut d u ≡ cut d x → cut (suc d) v ≡ cut (suc d) y → cut (suc d) (row_of l u v) ≡ cut (suc d) (row_of l x y)
cong_row d l u v x y e g = ap of_row (put_cut d (as_row v) (as_row y) l (as_field u) (as_field x) (rows_seen (suc d) v y g) (fields_seen d u x e))

-- injectivity
inj_record : (d : ℕ) (q r : Row) → cut (suc d) (of_type (record_of q)) ≡ cut (suc d) (of_type (record_of r)) → cut_row d q ≡ cut_row d r
inj_record d q r e = let z : of_type (record_of (cut_row d q)) ≡ of_type (record_of (cut_row d r)) = ap of_type (sym (record_cut d q)) ∙ e ∙ ap of_type (record_cut d r) in cc

pub inj_list : (d : ℕ) (u v : Value) → Of OfType u → Of OfType v → cut (suc d) (one ListOf u) ≡ cut (suc d) (one ListOf v) → cut d u ≡ cut d v
inj_list d u v p q e = types_back d u v p q (let z : of_type (list (cut_ty d (as_type u))) ≡ of_type (list (cut_ty d (as_type v))) = e in cc)

pub inj_rec : (d : ℕ) (m n : Labels) (u v : Value) → Of (OfRow m) u → Of (OfRow n) v → cut (suc d) (one RecordOf u) ≡ cut (suc d) (one RecordOf v) → cut d u ≡ cut d v
inj_rec d m n u v p q e = rows_back d m n u v p q (inj_record d (as_row u) (as_row v) e)

pub inj_has : (d : ℕ) (u v : Value) → Of OfType u → Of OfType v → cut (suc d) (one HasOf u) ≡ cut (suc d) (one HasOf v) → cut d u ≡ cut d v
inj_has d u v p q e = types_back d u v p q (let z : of_field (has (cut_ty d (as_type u))) ≡ of_field (has (cut_ty d (as_type v))) = e in cc)

pub inj_to_left : (d : ℕ) (u v x y : Value) → Of OfType u → Of OfType x → cut (suc d) (two u v) ≡ cut (suc d) (two x y) → cut d u ≡ cut d x
inj_to_left d u v x y p q e = types_back d u x p q (let z : of_type (to (cut_ty d (as_type u)) (cut_ty d (as_type v))) ≡ of_type (to (cut_ty d (as_type x)) (cut_ty d (as_type y))) = e in cc)

pub inj_to_right : (d : ℕ) (u v x y : Value) → Of OfType v → Of OfType y → cut (suc d) (two u v) ≡ cut (suc d) (two x y) → cut d v ≡ cut d y
inj_to_right d u v x y p q e = types_back d v y p q (let z : of_type (to (cut_ty d (as_type u)) (cut_ty d (as_type v))) ≡ of_type (to (cut_ty d (as_type x)) (cut_ty d (as_type y))) = e in cc)
