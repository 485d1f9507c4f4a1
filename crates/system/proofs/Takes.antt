-- What a head takes, child by child.
use Rattle.std.proofs.Common.{◌≡◌, ℕ, ◌/◌, ◌%◌, ◌^◌, ◌<◌, Bool, true, false, ◌&&◌, eqb, ltb, leb, ◌⊎◌, sym, refl, ap, subst, arith, lt-ltb, eq-eqb, eqb-true, leb-true}
use mathlib.Core.Option.{Option, some, none}
use Rattle.ground.specs.Values.{Value, of_row}
use Rattle.ground.specs.Sorts.{Of}
use Rattle.ground.specs.Heads.{gives, none_lacked, has_first, has_second, first_sort, second_sort}
use Rattle.ground.specs.declared.sort.Sort.{Sort}
use Rattle.ground.specs.declared.sort.Sort.TheVariants.{«Type» as OfType, Field as OfField, Row as OfRow}
use Rattle.ground.specs.declared.sort.Labels.{Labels}
use Rattle.ground.specs.declared.head.Head.{Head}
use Rattle.ground.specs.declared.head.Head.TheVariants.{Whole, Tenth, Flag, To, List as ListOf, Record, Absent, Has, Empty, Row as RowWith}
use Rattle.ground.proofs.Built.{no_way, Apt}
use Rattle.system.specs.Meaning.{Kind, State, Meaning, small, knows_sort}
use Rattle.system.specs.Requests.{same_sort, is_of, alike, holds, takes, labelled, head_number, fits, build}

pub both : (a b : Bool) → (a && b) ≡ true → (a ≡ true) × (b ≡ true)
both true b e = (refl, e)
both false b e = absurd (no_way e)

pub both_of : (a b : Bool) → a ≡ true → b ≡ true → (a && b) ≡ true
both_of true b p q = q
both_of false b p q = absurd (no_way p)

same_sort_holds : (k o : Sort) → same_sort k o ≡ true → k ≡ o
same_sort_holds OfType OfType e = refl
same_sort_holds OfType OfField e = absurd (no_way e)
same_sort_holds OfType (OfRow n) e = absurd (no_way e)
same_sort_holds OfField OfType e = absurd (no_way e)
same_sort_holds OfField OfField e = refl
same_sort_holds OfField (OfRow n) e = absurd (no_way e)
same_sort_holds (OfRow m) OfType e = absurd (no_way e)
same_sort_holds (OfRow m) OfField e = absurd (no_way e)
same_sort_holds (OfRow m) (OfRow n) e = let p = eqb-true m.0 n.0 e in λ i. OfRow (record { 0 = p i })

sort_same : (o : Sort) → same_sort o o ≡ true
sort_same OfType = refl
sort_same OfField = refl
sort_same (OfRow m) = eq-eqb m.0 m.0 refl

pub is_of_holds : (o : Option Sort) (k : Sort) → is_of o k ≡ true → o ≡ some k
is_of_holds none k e = absurd (no_way e)
is_of_holds (some j) k e = ap some (same_sort_holds j k e)

pub of_is : (o : Option Sort) (k : Sort) → o ≡ some k → is_of o k ≡ true
of_is o k e = subst (λ (x : Option Sort). is_of x k ≡ true) (sym e) (sort_same k)

pub alike_of : (a b : Option Sort) (k : Sort) → a ≡ some k → b ≡ some k → alike a b ≡ true
alike_of a b k p q = subst (λ (x : Option Sort). alike x b ≡ true) (sym p) (subst (λ (x : Option Sort). alike (some k) x ≡ true) (sym q) (sort_same k))

pub takes_first : (s : State) (h : Head) (x y l : ℕ) (m : Labels) → takes s h x y l m ≡ true → has_first h ≡ true → s.sort_of x ≡ some (first_sort h)
takes_first s Whole x y l m t f = absurd (no_way f)
takes_first s Tenth x y l m t f = absurd (no_way f)
takes_first s Flag x y l m t f = absurd (no_way f)
takes_first s To x y l m t f = is_of_holds (s.sort_of x) OfType (both (is_of (s.sort_of x) OfType) (is_of (s.sort_of y) OfType) t).0
takes_first s ListOf x y l m t f = is_of_holds (s.sort_of x) OfType t
takes_first s Record x y l m t f = is_of_holds (s.sort_of x) (OfRow none_lacked) t
takes_first s Absent x y l m t f = absurd (no_way f)
takes_first s Has x y l m t f = is_of_holds (s.sort_of x) OfType t
takes_first s Empty x y l m t f = absurd (no_way f)
takes_first s RowWith x y l m t f =
    is_of_holds (s.sort_of x) OfField (both (small m && holds m l) (is_of (s.sort_of x) OfField) (both (small m && holds m l && is_of (s.sort_of x) OfField) (is_of (s.sort_of y) (OfRow m)) t).0).1

pub takes_second : (s : State) (h : Head) (x y l : ℕ) (m : Labels) → takes s h x y l m ≡ true → has_second h ≡ true → s.sort_of y ≡ some (second_sort h m)
takes_second s Whole x y l m t f = absurd (no_way f)
takes_second s Tenth x y l m t f = absurd (no_way f)
takes_second s Flag x y l m t f = absurd (no_way f)
takes_second s To x y l m t f = is_of_holds (s.sort_of y) OfType (both (is_of (s.sort_of x) OfType) (is_of (s.sort_of y) OfType) t).1
takes_second s ListOf x y l m t f = absurd (no_way f)
takes_second s Record x y l m t f = absurd (no_way f)
takes_second s Absent x y l m t f = absurd (no_way f)
takes_second s Has x y l m t f = absurd (no_way f)
takes_second s Empty x y l m t f = absurd (no_way f)
takes_second s RowWith x y l m t f = is_of_holds (s.sort_of y) (OfRow m) (both (small m && holds m l && is_of (s.sort_of x) OfField) (is_of (s.sort_of y) (OfRow m)) t).1

pub takes_label : (s : State) (h : Head) (x y l : ℕ) (m : Labels) → takes s h x y l m ≡ true → labelled h l m ≡ true
takes_label s Whole x y l m t = refl
takes_label s Tenth x y l m t = refl
takes_label s Flag x y l m t = refl
takes_label s To x y l m t = refl
takes_label s ListOf x y l m t = refl
takes_label s Record x y l m t = refl
takes_label s Absent x y l m t = refl
takes_label s Has x y l m t = refl
takes_label s Empty x y l m t = t
takes_label s RowWith x y l m t =
    (both (small m && holds m l) (is_of (s.sort_of x) OfField) (both (small m && holds m l && is_of (s.sort_of x) OfField) (is_of (s.sort_of y) (OfRow m)) t).0).0

pub takes_of : (s : State) (h : Head) (x y l : ℕ) (m : Labels) → labelled h l m ≡ true → (has_first h ≡ true → s.sort_of x ≡ some (first_sort h)) → (has_second h ≡ true → s.sort_of y ≡ some (second_sort h m)) → takes s h x y l m ≡ true
takes_of s Whole x y l m t f g = refl
takes_of s Tenth x y l m t f g = refl
takes_of s Flag x y l m t f g = refl
takes_of s To x y l m t f g = both_of (is_of (s.sort_of x) OfType) (is_of (s.sort_of y) OfType) (of_is (s.sort_of x) OfType (f refl)) (of_is (s.sort_of y) OfType (g refl))
takes_of s ListOf x y l m t f g = of_is (s.sort_of x) OfType (f refl)
takes_of s Record x y l m t f g = of_is (s.sort_of x) (OfRow none_lacked) (f refl)
takes_of s Absent x y l m t f g = refl
takes_of s Has x y l m t f g = of_is (s.sort_of x) OfType (f refl)
takes_of s Empty x y l m t f g = t
takes_of s RowWith x y l m t f g =
    both_of (small m && holds m l && is_of (s.sort_of x) OfField) (is_of (s.sort_of y) (OfRow m))
    (both_of (small m && holds m l) (is_of (s.sort_of x) OfField) t (of_is (s.sort_of x) OfField (f refl)))
    (of_is (s.sort_of y) (OfRow m) (g refl))

-- a second child of its sort is one from which the value can be told
pub apt : (h : Head) (l : ℕ) (m : Labels) (y : Value) → labelled h l m ≡ true → Of (second_sort h m) y → Apt h l y
apt Whole l m y t o = tt
apt Tenth l m y t o = tt
apt Flag l m y t o = tt
apt To l m y t o = tt
apt ListOf l m y t o = tt
apt Record l m y t o = tt
apt Absent l m y t o = tt
apt Has l m y t o = tt
apt Empty l m y t o = tt
apt RowWith l m y t o = λ r e.
    let lacks : Of (OfRow m) (of_row r) = subst (Of (OfRow m)) e o in
    lacks l (eqb-true ((m.0 / 2 ^ l) % 2) 1 (both (leb l 23) (eqb ((m.0 / 2 ^ l) % 2) 1) (both (small m) (holds m l) t).1).1)

-- a head is known where the sorts are that it has to do with
pub head_known : (K : Kind) (s : State) (h : Head) (x y l c : ℕ) (m : Labels) → ((K.heads ≡ 5) ⊎ (K.heads ≡ 10)) → ((c : ℕ) (o : Sort) → s.sort_of c ≡ some o → knows_sort K o ≡ true) → takes s h x y l m ≡ true → s.sort_of c ≡ some (gives h m l) → head_number h < K.heads
head_known K s Whole x y l c m f k t g = omega arith
head_known K s Tenth x y l c m f k t g = omega arith
head_known K s Flag x y l c m f k t g = omega arith
head_known K s To x y l c m f k t g = omega arith
head_known K s ListOf x y l c m f k t g = omega arith
head_known K s Record x y l c m f k t g =
    let z = leb-true 10 K.heads (both (leb 10 K.heads) (small none_lacked) (k x (OfRow none_lacked) (is_of_holds (s.sort_of x) (OfRow none_lacked) t))).0 in omega arith
head_known K s Absent x y l c m f k t g = let z = leb-true 10 K.heads (k c OfField g) in omega arith
head_known K s Has x y l c m f k t g = let z = leb-true 10 K.heads (k c OfField g) in omega arith
head_known K s Empty x y l c m f k t g = let z = leb-true 10 K.heads (both (leb 10 K.heads) (small m) (k c (OfRow m) g)).0 in omega arith
head_known K s RowWith x y l c m f k t g =
    let z = leb-true 10 K.heads (k x OfField (takes_first s RowWith x y l m t refl)) in omega arith

-- a build that fits
pub fit_build : (K : Kind) (m : Meaning) (h : Head) (x y l : ℕ) (s : Labels) → head_number h < K.heads → labelled h l s ≡ true → (has_first h ≡ true → m.state.sort_of x ≡ some (first_sort h)) → (has_second h ≡ true → m.state.sort_of y ≡ some (second_sort h s)) → fits K m (build h x y l s) ≡ true
fit_build K m h x y l s b t f g = both_of (ltb (head_number h) K.heads) (takes m.state h x y l s) (lt-ltb (head_number h) K.heads b) (takes_of m.state h x y l s t f g)
