-- A new code has a value: each old solution goes on with one, of the sort or as the head builds it.
use Rattle.std.proofs.Common.{◌≡◌, ℕ, Bool, true, cond, eqb, sym, refl, ap, ◌∙◌, subst, arith, eq-eqb, ne_eqb}
use mathlib.Core.Option.{some, none}
use Rattle.ground.specs.Values.{Ty, whole, tenth, flag, to, list, record_of, Row, end, put, Field, absent, has, Value, of_type, of_field, of_row}
use Rattle.ground.specs.Sorts.{Of}
use Rattle.ground.specs.Heads.{Builds, has_first, has_second, first_sort, second_sort, none_lacked}
use Rattle.ground.specs.declared.sort.Sort.{Sort}
use Rattle.ground.specs.declared.sort.Sort.TheVariants.{«Type» as OfType, Field as OfField, Row as OfRow}
use Rattle.ground.specs.declared.sort.Labels.{Labels}
use Rattle.ground.specs.declared.head.Head.{Head}
use Rattle.ground.specs.declared.head.Head.TheVariants.{Whole, Tenth, Flag, To, List as ListOf, Record, Absent, Has, Empty, Row as RowWith}
use Rattle.ground.proofs.Built.{builds_swap}
use Rattle.ground.proofs.Rows.{at_end}
use Rattle.system.proofs.Takes.{takes_first, takes_second}
use Rattle.system.specs.Meaning.{Kind, Valuation, State, Meaning, Sound, Known, Agree}
use Rattle.system.specs.Requests.{takes}

-- a value of each sort, and one that each head builds of children of the right sorts
value_of : (o : Sort) → (x : Value) × Of o x
value_of OfType = (of_type whole, tt)
value_of OfField = (of_field absent, tt)
value_of (OfRow m) = (of_row end, λ l i. at_end l)

as_type : (v : Value) → Of OfType v → (t : Ty) × (v ≡ of_type t)
as_type (of_type t) o = (t, refl)
as_type (of_field f) o = absurd o
as_type (of_row r) o = absurd o

as_field : (v : Value) → Of OfField v → (f : Field) × (v ≡ of_field f)
as_field (of_type t) o = absurd o
as_field (of_field f) o = (f, refl)
as_field (of_row r) o = absurd o

as_row : (m : Labels) (v : Value) → Of (OfRow m) v → (r : Row) × (v ≡ of_row r)
as_row m (of_type t) o = absurd o
as_row m (of_field f) o = absurd o
as_row m (of_row r) o = (r, refl)

value_built : (h : Head) (l : ℕ) (m : Labels) (x y : Value) → (has_first h ≡ true → Of (first_sort h) x) → (has_second h ≡ true → Of (second_sort h m) y) → (u : Value) × Builds h l x y u
value_built Whole l m x y p q = (of_type whole, refl)
value_built Tenth l m x y p q = (of_type tenth, refl)
value_built Flag l m x y p q = (of_type flag, refl)
value_built To l m x y p q = let a = as_type x (p refl) in let b = as_type y (q refl) in (of_type (to a.0 b.0), (a.0, b.0, a.1, b.1, refl))
value_built ListOf l m x y p q = let a = as_type x (p refl) in (of_type (list a.0), (a.0, a.1, refl))
value_built Record l m x y p q = let a = as_row none_lacked x (p refl) in (of_type (record_of a.0), (a.0, a.1, refl))
value_built Absent l m x y p q = (of_field absent, refl)
value_built Has l m x y p q = let a = as_type x (p refl) in (of_field (has a.0), (a.0, a.1, refl))
value_built Empty l m x y p q = (of_row end, refl)
value_built RowWith l m x y p q = let a = as_field x (p refl) in let b = as_row m y (q refl) in (of_row (put b.0 l a.0), (a.0, b.0, a.1, b.1, refl))

-- another value of one code
abbrev pub put_at : Valuation → ℕ → Value → Valuation
put_at v d x c = cond (eqb c d) x (v c)

pub put_here : (v : Valuation) (d : ℕ) (x : Value) → put_at v d x d ≡ x
put_here v d x = ap (λ (b : Bool). cond b x (v d)) (eq-eqb d d refl)

pub known_not : (s : State) (c d : ℕ) → Known s c → s.sort_of d ≡ none → c ≡ d → ⊥
known_not s c d k e i = never (sym e ∙ ap s.sort_of (sym i) ∙ k.1)
  where
    never : {o : Sort} → none ≡ some o → ⊥
    never {o} q = let z : ◌≡◌ {A = ℕ} 0 1 = cc in let y : ⊥ = omega (arith, z) in y

pub put_agrees : (s : State) (v : Valuation) (d : ℕ) (x : Value) → s.sort_of d ≡ none → Agree s v (put_at v d x)
put_agrees s v d x e c k = sym (ap (λ (b : Bool). cond b x (v c)) (ne_eqb c d (known_not s c d k e)))

-- the unknown code d can be given a value, the known ones keeping theirs, so that P holds
abbrev pub Fill : Meaning → (ℕ → Valuation → Type 0) → Type 0
Fill m P = (v : Valuation) → m.state.solves v → (d : ℕ) → m.state.sort_of d ≡ none → (w : Valuation) × Agree m.state v w × P d w

pub fill_fresh : (m : Meaning) (o : Sort) → Fill m (λ c v. Of o (v c))
fill_fresh m o v s d u =
    let x = value_of o in
    (put_at v d x.0, put_agrees m.state v d x.0 u, subst (λ (i : Value). Of o i) (sym (put_here v d x.0)) x.1)

pub fill_build : (K : Kind) (m : Meaning) (h : Head) (x y l : ℕ) (s : Labels) → Sound K m → takes m.state h x y l s ≡ true → Fill m (λ c v. Builds h l (v x) (v y) (v c))
fill_build K m h x y l s sm t v k d u =
    let kx : has_first h ≡ true → m.state.sort_of x ≡ some (first_sort h) = takes_first m.state h x y l s t in
    let ky : has_second h ≡ true → m.state.sort_of y ≡ some (second_sort h s) = takes_second m.state h x y l s t in
    let z = value_built h l s (v x) (v y) (λ f. sm.sorted v k x (first_sort h) (kx f)) (λ f. sm.sorted v k y (second_sort h s) (ky f)) in
    let g = put_agrees m.state v d z.0 u in (
      put_at v d z.0,
      g,
      subst (λ (i : Value). Builds h l (put_at v d z.0 x) (put_at v d z.0 y) i) (sym (put_here v d z.0))
          (builds_swap h l (v x) (v y) (put_at v d z.0 x) (put_at v d z.0 y) z.0 (λ f. g x (first_sort h, kx f)) (λ f. g y (second_sort h s, ky f)) z.1),
    )
