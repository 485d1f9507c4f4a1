-- Of children that suit it a head builds one value, of the sort that it gives.
use Rattle.std.proofs.Common.{◌≡◌, ℕ, true, sym, refl, ◌∙◌, subst}
use Rattle.ground.specs.Values.{Ty, whole, tenth, flag, to, list, record_of, Row, end, put, at, Field, absent, has, Value, of_type, of_field, of_row}
use Rattle.ground.specs.Sorts.{Of, In}
use Rattle.ground.specs.Heads.{Builds, Suits, gives, none_lacked, has_first, has_second, first_sort, second_sort}
use Rattle.ground.specs.declared.sort.Sort.TheVariants.{«Type» as OfType, Field as OfField, Row as OfRow}
use Rattle.ground.specs.declared.sort.Labels.{Labels}
use Rattle.ground.specs.declared.head.Head.{Head}
use Rattle.ground.specs.declared.head.Head.TheVariants.{Whole, Tenth, Flag, To, List as ListOf, Record, Absent, Has, Empty, Row as RowWith}
use Rattle.ground.proofs.Rows.{at_end, at_other}
use Rattle.ground.proofs.Without.{none_in, without_one}
use Rattle.ground.proofs.Built.{no_way, builds_one}

-- what is of a sort, by its case
pub as_type : (x : Value) → Of OfType x → (a : Ty) × (x ≡ of_type a)
as_type (of_type a) o = (a, refl)
as_type (of_field f) o = absurd o
as_type (of_row r) o = absurd o

pub as_field : (x : Value) → Of OfField x → (f : Field) × (x ≡ of_field f)
as_field (of_type a) o = absurd o
as_field (of_field f) o = (f, refl)
as_field (of_row r) o = absurd o

pub as_row : (m : Labels) (x : Value) → Of (OfRow m) x → (r : Row) × (x ≡ of_row r) × ((l : ℕ) → In l m → at r l ≡ absent)
as_row m (of_type a) o = absurd o
as_row m (of_field f) o = absurd o
as_row m (of_row r) o = (r, refl, o)

-- a value that it builds, of its sort
pub builds_some : (h : Head) (m : Labels) (l : ℕ) (x y : Value) → Suits h m l x y → (v : Value) × Builds h l x y v × Of (gives h m l) v
builds_some Whole m l x y s = (of_type whole, refl, tt)
builds_some Tenth m l x y s = (of_type tenth, refl, tt)
builds_some Flag m l x y s = (of_type flag, refl, tt)
builds_some To m l x y s =
    let a = as_type x (s.first refl) in
    let b = as_type y (s.second refl) in
    (of_type (to a.0 b.0), (a.0, b.0, a.1, b.1, refl), tt)
builds_some ListOf m l x y s = let a = as_type x (s.first refl) in (of_type (list a.0), (a.0, a.1, refl), tt)
builds_some Record m l x y s = let a = as_row none_lacked x (s.first refl) in (of_type (record_of a.0), (a.0, a.1, refl), tt)
builds_some Absent m l x y s = (of_field absent, refl, tt)
builds_some Has m l x y s = let a = as_type x (s.first refl) in (of_field (has a.0), (a.0, a.1, refl), tt)
builds_some Empty m l x y s = (of_row end, refl, λ k i. at_end k)
builds_some RowWith m l x y s =
    let f = as_field x (s.first refl) in
    let r = as_row m y (s.second refl) in (
      of_row (put r.0 l f.0),
      (f.0, r.0, f.1, r.1, refl),
      λ k i. let w = (without_one m l k (s.label refl)).0 i in at_other r.0 l k f.0 w.1 ∙ r.2 k w.0,
    )

pub builds_once : (h : Head) (m : Labels) (l : ℕ) (x y : Value) → Suits h m l x y
    → (v : Value) × Builds h l x y v × Of (gives h m l) v × ((w : Value) → Builds h l x y w → w ≡ v)
builds_once h m l x y s = let v = builds_some h m l x y s in (v.0, v.1, v.2, λ w b. builds_one h l x y w v.0 b v.1)

-- and it builds of no others
type_held : (x : Value) (a : Ty) → x ≡ of_type a → Of OfType x
type_held x a e = subst (Of OfType) (sym e) tt

row_held : (x : Value) (r : Row) → x ≡ of_row r → Of (OfRow none_lacked) x
row_held x r e = subst (Of (OfRow none_lacked)) (sym e) (λ l i. absurd (none_in l i))

pub asks_sorts : (h : Head) (l : ℕ) (x y v : Value) → Builds h l x y v
    → (has_first h ≡ true → Of (first_sort h) x) × (has_second h ≡ true → Of (second_sort h none_lacked) y)
asks_sorts Whole l x y v b = (λ t. absurd (no_way t), λ t. absurd (no_way t))
asks_sorts Tenth l x y v b = (λ t. absurd (no_way t), λ t. absurd (no_way t))
asks_sorts Flag l x y v b = (λ t. absurd (no_way t), λ t. absurd (no_way t))
asks_sorts To l x y v (a, c, p, q, e) = (λ t. type_held x a p, λ t. type_held y c q)
asks_sorts ListOf l x y v (a, p, e) = (λ t. type_held x a p, λ t. absurd (no_way t))
asks_sorts Record l x y v (r, p, e) = (λ t. row_held x r p, λ t. absurd (no_way t))
asks_sorts Absent l x y v b = (λ t. absurd (no_way t), λ t. absurd (no_way t))
asks_sorts Has l x y v (a, p, e) = (λ t. type_held x a p, λ t. absurd (no_way t))
asks_sorts Empty l x y v b = (λ t. absurd (no_way t), λ t. absurd (no_way t))
asks_sorts RowWith l x y v (f, r, p, q, e) = (λ t. subst (Of OfField) (sym p) tt, λ t. row_held y r q)
