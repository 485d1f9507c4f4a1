-- Heads build every value.
use Rattle.std.proofs.Common.{◌≡◌, ℕ, zero, suc, ◌^◌, Bool, true, false, sym, refl, ap, ◌∙◌, arith}
use Rattle.ground.specs.Values.{Ty, whole, tenth, flag, to, list, record_of, Row, end, next, rest, before, put, at, Field, absent, has, Value, of_type, of_field, of_row}
use Rattle.ground.specs.Sorts.{Of}
use Rattle.ground.specs.Heads.{Builds, Suits, none_lacked, has_first, has_second, first_sort}
use Rattle.ground.specs.declared.sort.Labels.{Labels}
use Rattle.ground.specs.declared.head.Head.{Head}
use Rattle.ground.specs.declared.head.Head.TheVariants.{Whole, Tenth, Flag, To, List as ListOf, Record, Absent, Has, Empty, Row as RowWith}
use Rattle.ground.proofs.Rows.{first_before, rest_before}
use Rattle.ground.proofs.Alone.{alone_has, alone_only}
use Rattle.ground.proofs.Without.{none_in}
use Rattle.ground.proofs.Built.{no_way}

-- the row with n absent labels before it
abbrev behind : ℕ → Row → Row
behind zero r = r
behind (suc n) r = before absent (behind n r)

abbrev past : ℕ → ℕ → ℕ
past zero g = g
past (suc n) g = suc (past n g)

behind_next : (n g : ℕ) (t : Ty) (r : Row) → behind n (next g t r) ≡ next (past n g) t r
behind_next zero g t r = refl
behind_next (suc n) g t r = ap (before absent) (behind_next n g t r)

behind_absent : (k : ℕ) (r : Row) → at (behind (suc k) r) k ≡ absent
behind_absent zero r = first_before absent r
behind_absent (suc k) r = ap (λ q. at q k) (rest_before absent (behind (suc k) r)) ∙ behind_absent k r

behind_put : (k : ℕ) (t : Ty) (r : Row) → put (behind (suc k) r) k (has t) ≡ next k t r
behind_put zero t r = ap (next zero t) (rest_before absent r)
behind_put (suc k) t r =
    ap (λ f. before f (put (rest (behind (suc (suc k)) r)) k (has t))) (first_before absent (behind (suc k) r))
    ∙ ap (λ q. before absent (put q k (has t))) (rest_before absent (behind (suc k) r))
    ∙ ap (before absent) (behind_put k t r)

-- what suits a head without children, and a head with one
leaf_suits : (h : Head) (x : Value) → has_first h ≡ false → has_second h ≡ false → Suits h none_lacked 0 x x
leaf_suits h x f s = record {
  label = λ e. absurd (no_way (sym f ∙ ap has_first e));
  first = λ t. absurd (no_way (sym f ∙ t));
  second = λ t. absurd (no_way (sym s ∙ t));
}

over_suits : (h : Head) (x : Value) → has_second h ≡ false → Of (first_sort h) x → Suits h none_lacked 0 x x
over_suits h x s o = record { label = λ e. absurd (no_way (sym s ∙ ap has_second e)); first = λ t. o; second = λ t. absurd (no_way (sym s ∙ t)) }

to_suits : (a b : Ty) → Suits To none_lacked 0 (of_type a) (of_type b)
to_suits a b = record { label = λ e. absurd (let z : ◌≡◌ {A = ℕ} 0 1 = cc in omega arith); first = λ t. tt; second = λ t. tt }

row_suits : (k : ℕ) (f : Field) (r : Row) → Suits RowWith (record { 0 = 2 ^ k }) k (of_field f) (of_row (behind (suc k) r))
row_suits k f r = record {
  label = λ e. alone_has k;
  first = λ t. tt;
  second = λ t l i. ap (at (behind (suc k) r)) (alone_only k l i) ∙ behind_absent k r;
}

behind_end : (n : ℕ) → behind n end ≡ end
behind_end zero = refl
behind_end (suc n) = ap (before absent) (behind_end n)

module _ (test : Value → Bool)
    (step : (h : Head) (m : Labels) (l : ℕ) (x y v : Value) → Suits h m l x y → (has_first h ≡ true → test x ≡ true) → (has_second h ≡ true → test y ≡ true) → Builds h l x y v → test v ≡ true) where
  leaf : (h : Head) (v : Value) → has_first h ≡ false → has_second h ≡ false → Builds h 0 v v v → test v ≡ true
  leaf h v f s b = step h none_lacked 0 v v v (leaf_suits h v f s) (λ t. absurd (no_way (sym f ∙ t))) (λ t. absurd (no_way (sym s ∙ t))) b

  over : (h : Head) (x v : Value) → has_second h ≡ false → Of (first_sort h) x → test x ≡ true → Builds h 0 x x v → test v ≡ true
  over h x v s o p b = step h none_lacked 0 x x v (over_suits h x s o) (λ t. p) (λ t. absurd (no_way (sym s ∙ t))) b

  mutual
    type_passes : (t : Ty) → test (of_type t) ≡ true
    type_passes whole = leaf Whole (of_type whole) refl refl refl
    type_passes tenth = leaf Tenth (of_type tenth) refl refl refl
    type_passes flag = leaf Flag (of_type flag) refl refl refl
    type_passes (to a b) = step To none_lacked 0 (of_type a) (of_type b) (of_type (to a b)) (to_suits a b) (λ t. type_passes a) (λ t. type_passes b) (a, b, refl, refl, refl)
    type_passes (list a) = over ListOf (of_type a) (of_type (list a)) refl tt (type_passes a) (a, refl, refl)
    type_passes (record_of r) = over Record (of_row r) (of_type (record_of r)) refl (λ l i. absurd (none_in l i)) (row_passes r 0) (r, refl, refl)

    row_passes : (r : Row) (n : ℕ) → test (of_row (behind n r)) ≡ true
    row_passes end n = ap (λ q. test (of_row q)) (behind_end n) ∙ leaf Empty (of_row end) refl refl refl
    row_passes (next g t r) n =
        ap (λ q. test (of_row q)) (behind_next n g t r)
        ∙ step RowWith (record { 0 = 2 ^ past n g }) (past n g) (of_field (has t)) (of_row (behind (suc (past n g)) r)) (of_row (next (past n g) t r))
        (row_suits (past n g) (has t) r) (λ e. over Has (of_type t) (of_field (has t)) refl tt (type_passes t) (t, refl, refl)) (λ e. row_passes r (suc (past n g)))
        (has t, behind (suc (past n g)) r, refl, refl, ap of_row (sym (behind_put (past n g) t r)))

  field_passes : (f : Field) → test (of_field f) ≡ true
  field_passes absent = leaf Absent (of_field absent) refl refl refl
  field_passes (has t) = over Has (of_type t) (of_field (has t)) refl tt (type_passes t) (t, refl, refl)

  pub reached : (v : Value) → test v ≡ true
  reached (of_type t) = type_passes t
  reached (of_field f) = field_passes f
  reached (of_row r) = row_passes r 0
