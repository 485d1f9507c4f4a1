-- What a head built tells the head and the children.
use Rattle.std.proofs.Common.{◌≡◌, ℕ, true, ◌⊎◌, ◌↔◌, sym, refl, ap, ◌∙◌, subst, inl, inr, arith}
use Rattle.ground.specs.Values.{Ty, whole, tenth, flag, to, list, record_of, Row, end, put, at, Field, absent, has, Value, of_type, of_field, of_row}
use Rattle.ground.specs.Sorts.{Of, In}
use Rattle.ground.specs.Heads.{Builds, Suits, has_first, has_second}
use Rattle.ground.specs.declared.sort.Labels.{Labels}
use Rattle.ground.specs.declared.sort.Sort.TheVariants.{Row as OfRow}
use Rattle.ground.specs.declared.head.Head.{Head}
use Rattle.ground.specs.declared.head.Head.TheVariants.{Whole, Tenth, Flag, To, List as ListOf, Record, Absent, Has, Empty, Row as RowWith}
use native.Mathlib.Decide.{ℕ_discrete}
use Rattle.ground.proofs.Rows.{at_end, at_put, at_other, row_ext, put_inj, put_field}
use Rattle.ground.proofs.Built.{Apt, builds_other, builds_first, builds_second}

-- the row that suits a row head is absent at the label
pub apt : (h : Head) (m : Labels) (l : ℕ) (x y : Value) → Suits h m l x y → Apt h l y
apt Whole m l x y s = tt
apt Tenth m l x y s = tt
apt Flag m l x y s = tt
apt To m l x y s = tt
apt ListOf m l x y s = tt
apt Record m l x y s = tt
apt Absent m l x y s = tt
apt Has m l x y s = tt
apt Empty m l x y s = tt
apt RowWith m l x y s = λ r e. subst (Of (OfRow m)) e (s.second refl) l (s.label refl)

apt_at : (h : Head) (m : Labels) (k l : ℕ) (x y : Value) → (h ≡ RowWith → k ≡ l) → Suits h m k x y → Apt h l y
apt_at h m k l x y e s = apt h m l x y (record { label = λ i. subst (λ (n : ℕ). In n m) (e i) (s.label i); first = s.first; second = s.second })

pub told_children : (h : Head) (m n : Labels) (l k : ℕ) (x y z w v : Value) → Suits h m l x y → Suits h n k z w → (h ≡ RowWith → k ≡ l) → Builds h l x y v → Builds h k z w v
    → (has_first h ≡ true → x ≡ z) × (has_second h ≡ true → y ≡ w)
told_children h m n l k x y z w v s t e b c =
    let d = builds_other h k l z w v e c in (λ f. builds_first h l x y z w v f b d, λ f. builds_second h l x y z w v f (apt h m l x y s) (apt_at h n k l z w e t) b d)

-- the head of a type or a field
abbrev pub head_of : Value → Head
head_of (of_type whole) = Whole
head_of (of_type tenth) = Tenth
head_of (of_type flag) = Flag
head_of (of_type (to a b)) = To
head_of (of_type (list a)) = ListOf
head_of (of_type (record_of r)) = Record
head_of (of_field absent) = Absent
head_of (of_field (has a)) = Has
head_of (of_row r) = Empty

pub its_head : (h : Head) (l : ℕ) (x y v : Value) → Builds h l x y v → ((r : Row) → v ≡ of_row r → ⊥) → head_of v ≡ h
its_head Whole l x y v b d = ap head_of b
its_head Tenth l x y v b d = ap head_of b
its_head Flag l x y v b d = ap head_of b
its_head To l x y v b d = ap head_of b.4
its_head ListOf l x y v b d = ap head_of b.2
its_head Record l x y v b d = ap head_of b.2
its_head Absent l x y v b d = ap head_of b
its_head Has l x y v b d = ap head_of b.2
its_head Empty l x y v b d = absurd (d end b)
its_head RowWith l x y v b d = absurd (d (put b.1 l b.0) b.4)

pub told_head : (h g : Head) (l k : ℕ) (x y z w v : Value) → Builds h l x y v → Builds g k z w v → ((r : Row) → v ≡ of_row r → ⊥) → h ≡ g
told_head h g l k x y z w v b d n = sym (its_head h l x y v b n) ∙ its_head g k z w v d n

pub no_type : (r : Row) (t : Ty) → of_row r ≡ of_type t → ⊥
no_type r t e = let z : ◌≡◌ {A = ℕ} 0 1 = cc in omega arith

pub no_field : (r : Row) (f : Field) → of_row r ≡ of_field f → ⊥
no_field r f e = let z : ◌≡◌ {A = ℕ} 0 1 = cc in omega arith

pub row_head : (h : Head) (l : ℕ) (x y : Value) (r : Row) → Builds h l x y (of_row r) → (h ≡ Empty) ⊎ (h ≡ RowWith)
row_head Whole l x y r b = absurd (no_type r whole b)
row_head Tenth l x y r b = absurd (no_type r tenth b)
row_head Flag l x y r b = absurd (no_type r flag b)
row_head To l x y r b = absurd (no_type r (to b.0 b.1) b.4)
row_head ListOf l x y r b = absurd (no_type r (list b.0) b.2)
row_head Record l x y r b = absurd (no_type r (record_of b.0) b.2)
row_head Absent l x y r b = absurd (no_field r absent b)
row_head Has l x y r b = absurd (no_field r (has b.0) b.2)
row_head Empty l x y r b = inl refl
row_head RowWith l x y r b = inr refl

-- the empty row is what row builds of an absent field and the empty row
put_end : (l : ℕ) → put end l absent ≡ end
put_end l = row_ext (put end l absent) end (λ k. go k (ℕ_discrete k l))
  where
    go : (k : ℕ) → Dec (k ≡ l) → at (put end l absent) k ≡ at end k
    go k (yes e) = ap (at (put end l absent)) e ∙ at_put end l absent ∙ sym (at_end k)
    go k (no d) = at_other end l k absent d

pub row_empty : (m : Labels) (l : ℕ) (x y : Value) → Suits RowWith m l x y → (Builds RowWith l x y (of_row end) ↔ ((x ≡ of_field absent) × (y ≡ of_row end)))
row_empty m l x y s = (only, λ e. (absent, end, e.0, e.1, ap of_row (sym (put_end l))))
  where
    only : Builds RowWith l x y (of_row end) → (x ≡ of_field absent) × (y ≡ of_row end)
    only (f, r, p, q, e) =
        let i : put r l f ≡ put end l absent = let j : put r l f ≡ end = cc in j ∙ sym (put_end l) in
        (p ∙ ap of_field (put_field r end l f absent i), q ∙ ap of_row (put_inj r end l f absent (apt RowWith m l x y s r q) (at_end l) i))
