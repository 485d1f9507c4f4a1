-- Two values mixed: the same where their heads are the same, and a function type where they differ. Heads build the mix of what they build.
use Rattle.std.proofs.Common.{◌≡◌, ℕ, zero, suc, sym, refl, ap, ◌∙◌, ap₂}
use Rattle.ground.specs.Values.{Ty, whole, tenth, flag, to, list, record_of, Row, end, next, Field, absent, has, Value, of_type, of_field, of_row, first, rest, before, at, put}
use Rattle.ground.specs.Sorts.{Of}
use Rattle.ground.specs.Classes.{InClass}
use Rattle.ground.specs.Heads.{Builds}
use Rattle.ground.specs.declared.sort.Sort.{Sort}
use Rattle.ground.specs.declared.sort.Sort.TheVariants.{«Type» as OfType, Field as OfField, Row as OfRow}
use Rattle.ground.specs.declared.head.Head.{Head}
use Rattle.ground.specs.declared.head.Head.TheVariants.{Whole, Tenth, Flag, To, List as ListOf, Record, Absent, Has, Empty, Row as RowWith}
use Rattle.ground.proofs.Rows.{first_before, rest_before, at_end, at_put, at_other, row_by}
use Rattle.classes.specs.Judging.{of_list, to_in_none, record_in_none}

-- where the heads differ; in no class
abbrev pub odd : Ty
odd = to whole whole

abbrev whole_with : Ty → Ty
whole_with whole = whole
whole_with tenth = odd
whole_with flag = odd
whole_with (to c d) = odd
whole_with (list c) = odd
whole_with (record_of r) = odd

abbrev tenth_with : Ty → Ty
tenth_with whole = odd
tenth_with tenth = tenth
tenth_with flag = odd
tenth_with (to c d) = odd
tenth_with (list c) = odd
tenth_with (record_of r) = odd

abbrev flag_with : Ty → Ty
flag_with whole = odd
flag_with tenth = odd
flag_with flag = flag
flag_with (to c d) = odd
flag_with (list c) = odd
flag_with (record_of r) = odd

abbrev to_with : (Ty → Ty) → (Ty → Ty) → Ty → Ty
to_with f g whole = odd
to_with f g tenth = odd
to_with f g flag = odd
to_with f g (to c d) = to (f c) (g d)
to_with f g (list c) = odd
to_with f g (record_of r) = odd

abbrev list_with : (Ty → Ty) → Ty → Ty
list_with f whole = odd
list_with f tenth = odd
list_with f flag = odd
list_with f (to c d) = odd
list_with f (list c) = list (f c)
list_with f (record_of r) = odd

abbrev record_with : (Row → Row) → Ty → Ty
record_with f whole = odd
record_with f tenth = odd
record_with f flag = odd
record_with f (to c d) = odd
record_with f (list c) = odd
record_with f (record_of r) = record_of (f r)

abbrev has_with : (Ty → Ty) → Field → Field
has_with f absent = absent
has_with f (has t) = has (f t)

-- a row behind its first labels, and behind absent ones
abbrev beyond : ℕ → Row → Row
beyond zero r = rest r
beyond (suc g) r = beyond g (rest r)

abbrev behind : ℕ → Row → Row
behind zero r = r
behind (suc g) r = before absent (behind g r)

abbrev mutual
  pub mix : Ty → Ty → Ty
  mix whole u = whole_with u
  mix tenth u = tenth_with u
  mix flag u = flag_with u
  mix (to a b) u = to_with (mix a) (mix b) u
  mix (list a) u = list_with (mix a) u
  mix (record_of r) u = record_with (mix_row r) u

  pub mix_row : Row → Row → Row
  mix_row end q = end
  mix_row (next g t r) q = behind g (before (has_with (mix t) (at q g)) (mix_row r (beyond g q)))

abbrev pub mix_field : Field → Field → Field
mix_field absent f = absent
mix_field (has t) f = has_with (mix t) f

abbrev pub mix_value : Value → Value → Value
mix_value (of_type t) (of_type u) = of_type (mix t u)
mix_value (of_type t) (of_field g) = of_type t
mix_value (of_type t) (of_row q) = of_type t
mix_value (of_field f) (of_type u) = of_field f
mix_value (of_field f) (of_field g) = of_field (mix_field f g)
mix_value (of_field f) (of_row q) = of_field f
mix_value (of_row r) (of_type u) = of_row r
mix_value (of_row r) (of_field g) = of_row r
mix_value (of_row r) (of_row q) = of_row (mix_row r q)

-- rows mix label by label
at_next :
    (t : Ty) (r : Row) → ((q : Row) (l : ℕ) → at (mix_row r q) l ≡ mix_field (at r l) (at q l)) → (g : ℕ) (q : Row) (l : ℕ)
    → at (behind g (before (has_with (mix t) (at q g)) (mix_row r (beyond g q)))) l ≡ mix_field (at (next g t r) l) (at q l)
at_next t r ih zero q zero = first_before (has_with (mix t) (first q)) (mix_row r (rest q))
at_next t r ih zero q (suc l) = ap (λ x. at x l) (rest_before (has_with (mix t) (first q)) (mix_row r (rest q))) ∙ ih (rest q) l
at_next t r ih (suc g) q zero = first_before absent (behind g (before (has_with (mix t) (at q (suc g))) (mix_row r (beyond (suc g) q))))
at_next t r ih (suc g) q (suc l) = ap (λ x. at x l) (rest_before absent (behind g (before (has_with (mix t) (at q (suc g))) (mix_row r (beyond (suc g) q))))) ∙ at_next t r ih g (rest q) l

pub at_mix : (r q : Row) (l : ℕ) → at (mix_row r q) l ≡ mix_field (at r l) (at q l)
at_mix end q l = at_end l ∙ ap (λ f. mix_field f (at q l)) (sym (at_end l))
at_mix (next g t r) q l = at_next t r (at_mix r) g q l

mix_put : (r q : Row) (l : ℕ) (f g : Field) → mix_row (put r l f) (put q l g) ≡ put (mix_row r q) l (mix_field f g)
mix_put r q l f g =
    row_by l (mix_row (put r l f) (put q l g)) (put (mix_row r q) l (mix_field f g))
    (at_mix (put r l f) (put q l g) l ∙ ap₂ mix_field (at_put r l f) (at_put q l g) ∙ sym (at_put (mix_row r q) l (mix_field f g)))
    (λ k d. at_mix (put r l f) (put q l g) k ∙ ap₂ mix_field (at_other r l k f d) (at_other q l k g d) ∙ sym (at_mix r q k) ∙ sym (at_other (mix_row r q) l k (mix_field f g) d))

-- the mix is of the sort of both
pub mix_of : (o : Sort) (x y : Value) → Of o x → Of o y → Of o (mix_value x y)
mix_of OfType (of_type t) (of_type u) h j = tt
mix_of OfType (of_type t) (of_field g) h j = absurd j
mix_of OfType (of_type t) (of_row q) h j = absurd j
mix_of OfType (of_field f) (of_type u) h j = absurd h
mix_of OfType (of_field f) (of_field g) h j = absurd h
mix_of OfType (of_field f) (of_row q) h j = absurd h
mix_of OfType (of_row r) (of_type u) h j = absurd h
mix_of OfType (of_row r) (of_field g) h j = absurd h
mix_of OfType (of_row r) (of_row q) h j = absurd h
mix_of OfField (of_type t) (of_type u) h j = absurd h
mix_of OfField (of_type t) (of_field g) h j = absurd h
mix_of OfField (of_type t) (of_row q) h j = absurd h
mix_of OfField (of_field f) (of_type u) h j = absurd j
mix_of OfField (of_field f) (of_field g) h j = tt
mix_of OfField (of_field f) (of_row q) h j = absurd j
mix_of OfField (of_row r) (of_type u) h j = absurd h
mix_of OfField (of_row r) (of_field g) h j = absurd h
mix_of OfField (of_row r) (of_row q) h j = absurd h
mix_of (OfRow m) (of_type t) (of_type u) h j = absurd h
mix_of (OfRow m) (of_type t) (of_field g) h j = absurd h
mix_of (OfRow m) (of_type t) (of_row q) h j = absurd h
mix_of (OfRow m) (of_field f) (of_type u) h j = absurd h
mix_of (OfRow m) (of_field f) (of_field g) h j = absurd h
mix_of (OfRow m) (of_field f) (of_row q) h j = absurd h
mix_of (OfRow m) (of_row r) (of_type u) h j = absurd j
mix_of (OfRow m) (of_row r) (of_field g) h j = absurd j
mix_of (OfRow m) (of_row r) (of_row q) h j = λ l i. at_mix r q l ∙ ap (λ f. mix_field f (at q l)) (h l i)

-- heads build the mix
pub mix_builds : (h : Head) (l : ℕ) (x y z u v w : Value) → Builds h l x y z → Builds h l u v w → Builds h l (mix_value x u) (mix_value y v) (mix_value z w)
mix_builds Whole l x y z u v w p q = ap₂ mix_value p q
mix_builds Tenth l x y z u v w p q = ap₂ mix_value p q
mix_builds Flag l x y z u v w p q = ap₂ mix_value p q
mix_builds To l x y z u v w p q = (mix p.0 q.0, mix p.1 q.1, ap₂ mix_value p.2 q.2, ap₂ mix_value p.3 q.3, ap₂ mix_value p.4 q.4)
mix_builds ListOf l x y z u v w p q = (mix p.0 q.0, ap₂ mix_value p.1 q.1, ap₂ mix_value p.2 q.2)
mix_builds Record l x y z u v w p q = (mix_row p.0 q.0, ap₂ mix_value p.1 q.1, ap₂ mix_value p.2 q.2)
mix_builds Absent l x y z u v w p q = ap₂ mix_value p q
mix_builds Has l x y z u v w p q = (mix p.0 q.0, ap₂ mix_value p.1 q.1, ap₂ mix_value p.2 q.2)
mix_builds Empty l x y z u v w p q = ap₂ mix_value p q
mix_builds RowWith l x y z u v w p q =
    (mix_field p.0 q.0, mix_row p.1 q.1, ap₂ mix_value p.2 q.2, ap₂ mix_value p.3 q.3, ap₂ mix_value p.4 q.4 ∙ ap of_row (mix_put p.1 q.1 l p.0 q.0))

-- two types of a class whose mix is in it are one
pub mix_class : (k : ℕ) (t u : Ty) → InClass k t → InClass k u → InClass k (mix t u) → t ≡ u
mix_class k whole whole p s i = refl
mix_class k whole tenth p s i = absurd (to_in_none k whole whole i)
mix_class k whole flag p s i = absurd (to_in_none k whole whole i)
mix_class k whole (to c d) p s i = absurd (to_in_none k whole whole i)
mix_class k whole (list c) p s i = absurd (to_in_none k whole whole i)
mix_class k whole (record_of r) p s i = absurd (to_in_none k whole whole i)
mix_class k tenth whole p s i = absurd (to_in_none k whole whole i)
mix_class k tenth tenth p s i = refl
mix_class k tenth flag p s i = absurd (to_in_none k whole whole i)
mix_class k tenth (to c d) p s i = absurd (to_in_none k whole whole i)
mix_class k tenth (list c) p s i = absurd (to_in_none k whole whole i)
mix_class k tenth (record_of r) p s i = absurd (to_in_none k whole whole i)
mix_class k flag whole p s i = absurd (to_in_none k whole whole i)
mix_class k flag tenth p s i = absurd (to_in_none k whole whole i)
mix_class k flag flag p s i = refl
mix_class k flag (to c d) p s i = absurd (to_in_none k whole whole i)
mix_class k flag (list c) p s i = absurd (to_in_none k whole whole i)
mix_class k flag (record_of r) p s i = absurd (to_in_none k whole whole i)
mix_class k (to a b) whole p s i = absurd (to_in_none k a b p)
mix_class k (to a b) tenth p s i = absurd (to_in_none k a b p)
mix_class k (to a b) flag p s i = absurd (to_in_none k a b p)
mix_class k (to a b) (to c d) p s i = absurd (to_in_none k a b p)
mix_class k (to a b) (list c) p s i = absurd (to_in_none k a b p)
mix_class k (to a b) (record_of r) p s i = absurd (to_in_none k a b p)
mix_class k (list a) whole p s i = absurd (to_in_none k whole whole i)
mix_class k (list a) tenth p s i = absurd (to_in_none k whole whole i)
mix_class k (list a) flag p s i = absurd (to_in_none k whole whole i)
mix_class k (list a) (to c d) p s i = absurd (to_in_none k whole whole i)
mix_class k (list a) (list c) p s i = ap list (mix_class k a c (of_list k a p).1 (of_list k c s).1 (of_list k (mix a c) i).1)
mix_class k (list a) (record_of r) p s i = absurd (to_in_none k whole whole i)
mix_class k (record_of q) whole p s i = absurd (record_in_none k q p)
mix_class k (record_of q) tenth p s i = absurd (record_in_none k q p)
mix_class k (record_of q) flag p s i = absurd (record_in_none k q p)
mix_class k (record_of q) (to c d) p s i = absurd (record_in_none k q p)
mix_class k (record_of q) (list c) p s i = absurd (record_in_none k q p)
mix_class k (record_of q) (record_of r) p s i = absurd (record_in_none k q p)
