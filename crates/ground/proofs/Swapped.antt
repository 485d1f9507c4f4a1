-- Swapping two labels: each field goes with its label, and to swap twice changes nothing.
use Rattle.std.proofs.Common.{◌≡◌, ℕ, zero, suc, cond, eqb, sym, refl, ap, ◌∙◌, subst, ap₂, eq-eqb, ne_eqb}
use native.Mathlib.Decide.{ℕ_discrete}
use Rattle.ground.specs.Values.{Ty, whole, tenth, flag, to, list, record_of, Row, end, next, at, put, Field, absent, has, Value, of_type, of_field, of_row}
use Rattle.ground.specs.Swaps.{swap_label, exchange, swap_ty, swap_inside, swap_row, swap_field, swap_value}
use Rattle.ground.proofs.Rows.{at_put, at_other, row_ext, at_end}

-- what becomes of a label
label_left : (a b : ℕ) → swap_label a b a ≡ b
label_left a b = ap (λ t. cond t b (cond (eqb a b) a a)) (eq-eqb a a refl)

label_right : (a b : ℕ) → swap_label a b b ≡ a
label_right a b = go (ℕ_discrete b a)
  where
    go : Dec (b ≡ a) → swap_label a b b ≡ a
    go (yes e) = ap (λ t. cond t b (cond (eqb b b) a b)) (eq-eqb b a e) ∙ e
    go (no d) = ap (λ t. cond t b (cond (eqb b b) a b)) (ne_eqb b a d) ∙ ap (λ t. cond t a b) (eq-eqb b b refl)

pub label_other : (a b l : ℕ) → (l ≡ a → ⊥) → (l ≡ b → ⊥) → swap_label a b l ≡ l
label_other a b l p q = ap (λ t. cond t b (cond (eqb l b) a l)) (ne_eqb l a p) ∙ ap (λ t. cond t a l) (ne_eqb l b q)

-- by the three cases of a label
by_label : (a b : ℕ) (P : ℕ → Type 0) → P a → P b → ((l : ℕ) → (l ≡ a → ⊥) → (l ≡ b → ⊥) → P l) → (l : ℕ) → P l
by_label a b P p q o l = go (ℕ_discrete l a) (ℕ_discrete l b)
  where
    go : Dec (l ≡ a) → Dec (l ≡ b) → P l
    go (yes e) d = subst P (sym e) p
    go (no n) (yes e) = subst P (sym e) q
    go (no n) (no m) = o l n m

pub label_twice : (a b l : ℕ) → swap_label a b (swap_label a b l) ≡ l
label_twice a b = by_label a b (λ l. swap_label a b (swap_label a b l) ≡ l)
    (ap (swap_label a b) (label_left a b) ∙ label_right a b)
    (ap (swap_label a b) (label_right a b) ∙ label_left a b)
    (λ l p q. ap (swap_label a b) (label_other a b l p q) ∙ label_other a b l p q)

-- the fields of an exchanged row
exchange_left : (a b : ℕ) (r : Row) → at (exchange a b r) b ≡ at r a
exchange_left a b r = at_put (put r a (at r b)) b (at r a)

exchange_right : (a b : ℕ) (r : Row) → at (exchange a b r) a ≡ at r b
exchange_right a b r = go (ℕ_discrete a b)
  where
    go : Dec (a ≡ b) → at (exchange a b r) a ≡ at r b
    go (yes e) = ap (at (exchange a b r)) e ∙ exchange_left a b r ∙ ap (at r) e
    go (no d) = at_other (put r a (at r b)) b a (at r a) d ∙ at_put r a (at r b)

exchange_at : (a b : ℕ) (r : Row) (l : ℕ) → at (exchange a b r) (swap_label a b l) ≡ at r l
exchange_at a b r = by_label a b (λ l. at (exchange a b r) (swap_label a b l) ≡ at r l)
    (ap (at (exchange a b r)) (label_left a b) ∙ exchange_left a b r)
    (ap (at (exchange a b r)) (label_right a b) ∙ exchange_right a b r)
    (λ l p q. ap (at (exchange a b r)) (label_other a b l p q) ∙ at_other (put r a (at r b)) b l (at r a) q ∙ at_other r a l (at r b) p)

-- the fields of a row swapped inside
inside_at : (a b : ℕ) (r : Row) (l : ℕ) → at (swap_inside a b r) l ≡ swap_field a b (at r l)
inside_at a b end l = at_end l ∙ sym (ap (swap_field a b) (at_end l))
inside_at a b (next zero t r) zero = refl
inside_at a b (next zero t r) (suc l) = inside_at a b r l
inside_at a b (next (suc g) t r) zero = refl
inside_at a b (next (suc g) t r) (suc l) = inside_at a b (next g t r) l

pub swapped_at : (a b : ℕ) (r : Row) (l : ℕ) → at (swap_row a b r) (swap_label a b l) ≡ swap_field a b (at r l)
swapped_at a b r l = exchange_at a b (swap_inside a b r) l ∙ inside_at a b r l

exchange_twice : (a b : ℕ) (r : Row) → exchange a b (exchange a b r) ≡ r
exchange_twice a b r = row_ext (exchange a b (exchange a b r)) r (λ l.
    ap (at (exchange a b (exchange a b r))) (sym (label_twice a b l)) ∙ exchange_at a b (exchange a b r) (swap_label a b l) ∙ exchange_at a b r l)

-- to exchange a row's own labels and to swap inside it may change places
inside_exchange : (a b : ℕ) (r : Row) → swap_inside a b (exchange a b r) ≡ exchange a b (swap_inside a b r)
inside_exchange a b r = row_ext (swap_inside a b (exchange a b r)) (exchange a b (swap_inside a b r)) (λ l.
    let k = swap_label a b l in
    inside_at a b (exchange a b r) l ∙ ap (λ x. swap_field a b (at (exchange a b r) x)) (sym (label_twice a b l)) ∙ ap (swap_field a b) (exchange_at a b r k)
    ∙ sym (inside_at a b r k) ∙ sym (exchange_at a b (swap_inside a b r) k) ∙ ap (at (exchange a b (swap_inside a b r))) (label_twice a b l))

mutual
  pub type_twice : (a b : ℕ) (t : Ty) → swap_ty a b (swap_ty a b t) ≡ t
  type_twice a b whole = refl
  type_twice a b tenth = refl
  type_twice a b flag = refl
  type_twice a b (to t u) = ap₂ to (type_twice a b t) (type_twice a b u)
  type_twice a b (list t) = ap list (type_twice a b t)
  type_twice a b (record_of r) =
      ap (λ q. record_of (exchange a b q)) (inside_exchange a b (swap_inside a b r))
      ∙ ap record_of (exchange_twice a b (swap_inside a b (swap_inside a b r)))
      ∙ ap record_of (inside_twice a b r)

  inside_twice : (a b : ℕ) (r : Row) → swap_inside a b (swap_inside a b r) ≡ r
  inside_twice a b end = refl
  inside_twice a b (next g t r) = ap₂ (next g) (type_twice a b t) (inside_twice a b r)

pub row_twice : (a b : ℕ) (r : Row) → swap_row a b (swap_row a b r) ≡ r
row_twice a b r =
    ap (exchange a b) (inside_exchange a b (swap_inside a b r)) ∙ exchange_twice a b (swap_inside a b (swap_inside a b r)) ∙ inside_twice a b r

pub value_twice : (a b : ℕ) (v : Value) → swap_value a b (swap_value a b v) ≡ v
value_twice a b (of_type t) = ap of_type (type_twice a b t)
value_twice a b (of_field absent) = refl
value_twice a b (of_field (has t)) = ap (λ x. of_field (has x)) (type_twice a b t)
value_twice a b (of_row r) = ap of_row (row_twice a b r)

-- a row is swapped when it has the swapped fields
pub swapped_is : (a b : ℕ) (q r : Row) → ((l : ℕ) → at q (swap_label a b l) ≡ swap_field a b (at r l)) → swap_row a b r ≡ q
swapped_is a b q r h = row_ext (swap_row a b r) q (λ l.
    let k = swap_label a b l in
    ap (at (swap_row a b r)) (sym (label_twice a b l)) ∙ swapped_at a b r k ∙ sym (h k) ∙ ap (at q) (label_twice a b l))

pub swap_end : (a b : ℕ) → swap_row a b end ≡ end
swap_end a b = swapped_is a b end end (λ l. at_end (swap_label a b l) ∙ sym (ap (swap_field a b) (at_end l)))

pub swap_put : (a b : ℕ) (r : Row) (l : ℕ) (f : Field) → swap_row a b (put r l f) ≡ put (swap_row a b r) (swap_label a b l) (swap_field a b f)
swap_put a b r l f = swapped_is a b (put (swap_row a b r) (swap_label a b l) (swap_field a b f)) (put r l f) (λ k. go k (ℕ_discrete k l))
  where
    go : (k : ℕ) → Dec (k ≡ l) → at (put (swap_row a b r) (swap_label a b l) (swap_field a b f)) (swap_label a b k) ≡ swap_field a b (at (put r l f) k)
    go k (yes e) =
        ap (λ x. at (put (swap_row a b r) (swap_label a b l) (swap_field a b f)) (swap_label a b x)) e ∙ at_put (swap_row a b r) (swap_label a b l) (swap_field a b f)
        ∙ ap (swap_field a b) (sym (at_put r l f)) ∙ ap (λ x. swap_field a b (at (put r l f) x)) (sym e)
    go k (no d) =
        at_other (swap_row a b r) (swap_label a b l) (swap_label a b k) (swap_field a b f) (λ e. d (sym (label_twice a b k) ∙ ap (swap_label a b) e ∙ label_twice a b l))
        ∙ swapped_at a b r k ∙ ap (swap_field a b) (sym (at_other r l k f d))
