-- Values that agree to every depth are equal, and equal values agree.
use Rattle.std.proofs.Common.{◌≡◌, ℕ, zero, suc, ◌<◌, ◌≤◌, true, false, sym, refl, ap, ◌∙◌, subst, arith}
use Rattle.ground.specs.Values.{Ty, whole, tenth, flag, to, list, record_of, Row, at, Field, absent, has, Value, of_type, of_field, of_row}
use Rattle.ground.specs.Heads.{Builds, has_first, has_second}
use Rattle.ground.specs.Depths.{SameHead, Agree}
use Rattle.ground.specs.declared.head.Head.{Head}
use Rattle.ground.specs.declared.head.Head.TheVariants.{Whole, Tenth, Flag, To, List as ListOf, Record, Absent, Has}
use Rattle.ground.proofs.Built.{no_way}
use Rattle.ground.proofs.Rows.{row_ext}
use Rattle.ground.proofs.Sizes.{size_ty, size_row, size_field, size_at}
use Rattle.ground.proofs.Told.{head_of, its_head, no_type, no_field}

-- what w is, where one head builds it and v, by the case of v
abbrev pub Matches : (Value → Value → Type 0) → Value → Value → Type 0
Matches A (of_type whole) w = w ≡ of_type whole
Matches A (of_type tenth) w = w ≡ of_type tenth
Matches A (of_type flag) w = w ≡ of_type flag
Matches A (of_type (to a b)) w = (c : Ty) × (d : Ty) × (w ≡ of_type (to c d)) × A (of_type a) (of_type c) × A (of_type b) (of_type d)
Matches A (of_type (list a)) w = (c : Ty) × (w ≡ of_type (list c)) × A (of_type a) (of_type c)
Matches A (of_type (record_of q)) w = (r : Row) × (w ≡ of_type (record_of r)) × A (of_row q) (of_row r)
Matches A (of_field absent) w = w ≡ of_field absent
Matches A (of_field (has a)) w = (c : Ty) × (w ≡ of_field (has c)) × A (of_type a) (of_type c)
Matches A (of_row r) w = Unit {0}

-- both built by the head g
abbrev Shared : (Value → Value → Type 0) → Head → Value → Value → Type 0
Shared A g v w = (l : ℕ) × (x : Value) × (y : Value) × (z : Value) × (u : Value) × Builds g l x y v × Builds g l z u w
    × (has_first g ≡ true → A x z) × (has_second g ≡ true → A y u)

shared : (A : Value → Value → Type 0) (v w : Value) → ((r : Row) → v ≡ of_row r → ⊥) → SameHead A v w → Shared A (head_of v) v w
shared A v w n (h, l, x, y, z, u, b, d, f, s) = subst (λ (g : Head). Shared A g v w) (sym (its_head h l x y v b n)) (l, x, y, z, u, b, d, f, s)

carried : (A : Value → Value → Type 0) (x y z u : Value) → x ≡ y → z ≡ u → A x z → A y u
carried A x y z u p q a = subst (λ (t : Value). A t u) p (subst (λ (t : Value). A x t) q a)

matches : (A : Value → Value → Type 0) (v w : Value) → Shared A (head_of v) v w → Matches A v w
matches A (of_type whole) w (l, x, y, z, u, b, d, f, s) = d
matches A (of_type tenth) w (l, x, y, z, u, b, d, f, s) = d
matches A (of_type flag) w (l, x, y, z, u, b, d, f, s) = d
matches A (of_type (to a b)) w (l, x, y, z, u, (a', b', p, q, e), (c, d, p', q', e'), f, s) = (
  c,
  d,
  e',
  carried A x (of_type a) z (of_type c) (cc) p' (f refl),
  carried A y (of_type b) u (of_type d) (cc) q' (s refl),
)
matches A (of_type (list a)) w (l, x, y, z, u, (a', p, e), (c, p', e'), f, s) = (c, e', carried A x (of_type a) z (of_type c) (cc) p' (f refl))
matches A (of_type (record_of q)) w (l, x, y, z, u, (a', p, e), (c, p', e'), f, s) = (c, e', carried A x (of_row q) z (of_row c) (cc) p' (f refl))
matches A (of_field absent) w (l, x, y, z, u, b, d, f, s) = d
matches A (of_field (has a)) w (l, x, y, z, u, (a', p, e), (c, p', e'), f, s) = (c, e', carried A x (of_type a) z (of_type c) (cc) p' (f refl))
matches A (of_row r) w k = tt

pub type_matches : (A : Value → Value → Type 0) (t : Ty) (w : Value) → SameHead A (of_type t) w → Matches A (of_type t) w
type_matches A t w h = matches A (of_type t) w (shared A (of_type t) w (λ r e. no_type r t (sym e)) h)

pub field_matches : (A : Value → Value → Type 0) (f : Field) (w : Value) → SameHead A (of_field f) w → Matches A (of_field f) w
field_matches A f w h = matches A (of_field f) w (shared A (of_field f) w (λ r e. no_field r f (sym e)) h)

-- types smaller than n that agree to every depth are equal
abbrev Tells : ℕ → Type 0
Tells n = (t u : Ty) → size_ty t < n → ((d : ℕ) → Agree d (of_type t) (of_type u)) → t ≡ u

fields_equal : (n : ℕ) → Tells n → (f : Field) (w : Value) → size_field f ≤ n → ((d : ℕ) → SameHead (Agree d) (of_field f) w) → of_field f ≡ w
fields_equal n tell absent w s h = sym (field_matches (Agree 0) absent w (h 0))
fields_equal n tell (has a) w s h =
    let k = field_matches (Agree 0) (has a) w (h 0) in
    ap (λ t. of_field (has t)) (tell a k.0 (omega arith) (λ d. let j = field_matches (Agree d) (has a) w (h d) in
    let q = j.1 in let p = k.1 in let e : j.0 ≡ k.0 = cc in subst (λ (t : Ty). Agree d (of_type a) (of_type t)) e j.2)) ∙ sym k.1

rows_equal : (n : ℕ) → Tells n → (q r : Row) → size_row q ≤ n → ((d : ℕ) → Agree d (of_row q) (of_row r)) → q ≡ r
rows_equal n tell q r s h = row_ext q r (λ l. let p = size_at q l in
    let e = fields_equal n tell (at q l) (of_field (at r l)) (omega arith) (λ d. h (suc d) l) in let i : at q l ≡ at r l = cc in i)

pair_equal : (a b c d : Ty) (u : Ty) → of_type u ≡ of_type (to c d) → a ≡ c → b ≡ d → to a b ≡ u
pair_equal a b c d u e p q = cc

types_equal : (n : ℕ) → Tells n
types_equal zero t u s h = absurd (omega arith)
types_equal (suc n) whole u s h = let e = type_matches (Agree 0) whole (of_type u) (h 1) in cc
types_equal (suc n) tenth u s h = let e = type_matches (Agree 0) tenth (of_type u) (h 1) in cc
types_equal (suc n) flag u s h = let e = type_matches (Agree 0) flag (of_type u) (h 1) in cc
types_equal (suc n) (to a b) u s h =
    let k = type_matches (Agree 0) (to a b) (of_type u) (h 1) in
    let p = k.2 in
    pair_equal a b k.0 k.1 u p
    (types_equal n a k.0 (omega arith) (λ d. let j = type_matches (Agree d) (to a b) (of_type u) (h (suc d)) in
    let q = j.2 in let e : j.0 ≡ k.0 = cc in subst (λ (t : Ty). Agree d (of_type a) (of_type t)) e j.3))
    (types_equal n b k.1 (omega arith) (λ d. let j = type_matches (Agree d) (to a b) (of_type u) (h (suc d)) in
    let q = j.2 in let e : j.1 ≡ k.1 = cc in subst (λ (t : Ty). Agree d (of_type b) (of_type t)) e j.4))
types_equal (suc n) (list a) u s h =
    let k = type_matches (Agree 0) (list a) (of_type u) (h 1) in
    let p = k.1 in
    let i = types_equal n a k.0 (omega arith) (λ d. let j = type_matches (Agree d) (list a) (of_type u) (h (suc d)) in
    let q = j.1 in let e : j.0 ≡ k.0 = cc in subst (λ (t : Ty). Agree d (of_type a) (of_type t)) e j.2) in
    cc
types_equal (suc n) (record_of q) u s h =
    let k = type_matches (Agree 0) (record_of q) (of_type u) (h 1) in
    let p = k.1 in
    let i = rows_equal n (types_equal n) q k.0 (omega arith) (λ d. let j = type_matches (Agree d) (record_of q) (of_type u) (h (suc d)) in
    let y = j.1 in let e : j.0 ≡ k.0 = cc in subst (λ (r : Row). Agree d (of_row q) (of_row r)) e j.2) in
    cc

type_only : (t : Ty) (w : Value) → Agree 1 (of_type t) w → (u : Ty) × (w ≡ of_type u)
type_only whole w h = (whole, type_matches (Agree 0) whole w h)
type_only tenth w h = (tenth, type_matches (Agree 0) tenth w h)
type_only flag w h = (flag, type_matches (Agree 0) flag w h)
type_only (to a b) w h = let k = type_matches (Agree 0) (to a b) w h in (to k.0 k.1, k.2)
type_only (list a) w h = let k = type_matches (Agree 0) (list a) w h in (list k.0, k.1)
type_only (record_of q) w h = let k = type_matches (Agree 0) (record_of q) w h in (record_of k.0, k.1)

all_equal : (v w : Value) → ((d : ℕ) → Agree d v w) → v ≡ w
all_equal (of_type t) w h =
    let k = type_only t w (h 1) in
    ap of_type (types_equal (suc (size_ty t)) t k.0 (omega arith) (λ d. subst (Agree d (of_type t)) k.1 (h d))) ∙ sym k.1
all_equal (of_field f) w h = fields_equal (suc (size_field f)) (types_equal (suc (size_field f))) f w (omega arith) (λ d. h (suc d))
all_equal (of_row q) (of_type t) h = absurd (h 1)
all_equal (of_row q) (of_field f) h = absurd (h 1)
all_equal (of_row q) (of_row r) h = ap of_row (rows_equal (suc (size_row q)) (types_equal (suc (size_row q))) q r (omega arith) h)

-- a head that takes no child, one, or two, builds a value beside itself
alone : (A : Value → Value → Type 0) (h : Head) (v : Value) → has_first h ≡ false → has_second h ≡ false → Builds h 0 v v v → SameHead A v v
alone A h v f s b = (h, 0, v, v, v, v, b, b, λ t. absurd (no_way (sym f ∙ t)), λ t. absurd (no_way (sym s ∙ t)))

over : (A : Value → Value → Type 0) (h : Head) (x v : Value) → has_second h ≡ false → Builds h 0 x x v → A x x → SameHead A v v
over A h x v s b a = (h, 0, x, x, x, x, b, b, λ t. a, λ t. absurd (no_way (sym s ∙ t)))

type_itself : (A : Value → Value → Type 0) → ((v : Value) → A v v) → (t : Ty) → SameHead A (of_type t) (of_type t)
type_itself A r whole = alone A Whole (of_type whole) refl refl refl
type_itself A r tenth = alone A Tenth (of_type tenth) refl refl refl
type_itself A r flag = alone A Flag (of_type flag) refl refl refl
type_itself A r (to a b) = (To, 0, of_type a, of_type b, of_type a, of_type b, (a, b, refl, refl, refl), (a, b, refl, refl, refl), λ t. r (of_type a), λ t. r (of_type b))
type_itself A r (list a) = over A ListOf (of_type a) (of_type (list a)) refl (a, refl, refl) (r (of_type a))
type_itself A r (record_of q) = over A Record (of_row q) (of_type (record_of q)) refl (q, refl, refl) (r (of_row q))

field_itself : (A : Value → Value → Type 0) → ((v : Value) → A v v) → (f : Field) → SameHead A (of_field f) (of_field f)
field_itself A r absent = alone A Absent (of_field absent) refl refl refl
field_itself A r (has a) = over A Has (of_type a) (of_field (has a)) refl (a, refl, refl) (r (of_type a))

itself : (d : ℕ) (v : Value) → Agree d v v
itself zero v = tt
itself (suc d) (of_type t) = type_itself (Agree d) (itself d) t
itself (suc d) (of_field f) = field_itself (Agree d) (itself d) f
itself (suc d) (of_row r) = λ l. field_itself (Agree d) (itself d) (at r l)

pub agreeing : (v w : Value) → (((d : ℕ) → Agree d v w) → v ≡ w) × (v ≡ w → (d : ℕ) → Agree d v w)
agreeing v w = (all_equal v w, λ e d. subst (Agree d v) e (itself d v))
