-- Values that agree to a depth are seen alike to it, and those seen alike to twice a depth agree to it.
use Rattle.std.proofs.Common.{◌≡◌, ℕ, zero, suc, ◌<◌, Bool, true, false, sym, refl, ap, ◌∙◌, ap₂, arith}
use Rattle.ground.specs.Values.{Ty, whole, tenth, flag, to, list, record_of, Row, Field, absent, has, Value, of_type, of_field, of_row, at}
use Rattle.ground.specs.Sorts.{Of}
use Rattle.ground.specs.Depths.{Agree, SameHead}
use Rattle.ground.specs.declared.sort.Sort.{Sort}
use Rattle.ground.specs.declared.sort.Sort.TheVariants.{«Type» as OfType, Field as OfField, Row as OfRow}
use Rattle.ground.specs.declared.head.Head.TheVariants.{Whole, Tenth, Flag, To, List as ListOf, Record, Absent, Has}
use Rattle.ground.proofs.Built.{no_way}
use Rattle.ground.proofs.Agreeing.{type_matches, field_matches}
use Rattle.cells.specs.Cuts.{cut, cut_ty, cut_field, cut_row}
use Rattle.cells.proofs.Cutting.{record_cut, rows_agree, fields_agree, less}

-- agreement is seen
field_seen : (d : ℕ) → ((t u : Ty) → Agree d (of_type t) (of_type u) → cut_ty d t ≡ cut_ty d u) → (f g : Field) → SameHead (Agree d) (of_field f) (of_field g) → cut_field (suc d) f ≡ cut_field (suc d) g
field_seen d ih absent g h = let e = field_matches (Agree d) absent (of_field g) h in let q : absent ≡ g = cc in ap (cut_field (suc d)) q
field_seen d ih (has a) g h =
    let m = field_matches (Agree d) (has a) (of_field g) h in
    let e = m.1 in
    let q : has m.0 ≡ g = cc in
    ap has (ih a m.0 m.2) ∙ ap (cut_field (suc d)) q

field_less : (d : ℕ) (f g : Field) → cut_field (suc d) f ≡ cut_field (suc d) g → cut_field d f ≡ cut_field d g
field_less d f g e = let q = less d (of_field f) (of_field g) (ap of_field e) in let z : cut_field d f ≡ cut_field d g = cc in z

row_seen : (d : ℕ) → ((t u : Ty) → Agree d (of_type t) (of_type u) → cut_ty d t ≡ cut_ty d u) → (q r : Row) → ((l : ℕ) → SameHead (Agree d) (of_field (at q l)) (of_field (at r l))) → cut_row (suc d) q ≡ cut_row (suc d) r
row_seen d ih q r h = rows_agree d q r (λ l. field_less d (at q l) (at r l) (field_seen d ih (at q l) (at r l) (h l)))

type_seen : (d : ℕ) (t u : Ty) → Agree d (of_type t) (of_type u) → cut_ty d t ≡ cut_ty d u
type_seen zero t u h = refl
type_seen (suc d) whole u h = let e = type_matches (Agree d) whole (of_type u) h in let q : whole ≡ u = cc in ap (cut_ty (suc d)) q
type_seen (suc d) tenth u h = let e = type_matches (Agree d) tenth (of_type u) h in let q : tenth ≡ u = cc in ap (cut_ty (suc d)) q
type_seen (suc d) flag u h = let e = type_matches (Agree d) flag (of_type u) h in let q : flag ≡ u = cc in ap (cut_ty (suc d)) q
type_seen (suc d) (to a b) u h =
    let m = type_matches (Agree d) (to a b) (of_type u) h in
    let e = m.2 in
    let q : to m.0 m.1 ≡ u = cc in
    ap₂ to (type_seen d a m.0 m.3) (type_seen d b m.1 m.4) ∙ ap (cut_ty (suc d)) q
type_seen (suc d) (list a) u h =
    let m = type_matches (Agree d) (list a) (of_type u) h in
    let e = m.1 in
    let q : list m.0 ≡ u = cc in
    ap list (type_seen d a m.0 m.2) ∙ ap (cut_ty (suc d)) q
type_seen (suc zero) (record_of p) u h =
    let m = type_matches (Agree zero) (record_of p) (of_type u) h in
    let e = m.1 in
    let q : record_of m.0 ≡ u = cc in
    ap (cut_ty (suc zero)) q
type_seen (suc (suc d)) (record_of p) u h =
    let m = type_matches (Agree (suc d)) (record_of p) (of_type u) h in
    let e = m.1 in
    let q : record_of m.0 ≡ u = cc in
    record_cut (suc d) p ∙ ap record_of (row_seen d (type_seen d) p m.0 m.2) ∙ sym (record_cut (suc d) m.0) ∙ ap (cut_ty (suc (suc d))) q

rows_seen : (d : ℕ) (q r : Row) → Agree d (of_row q) (of_row r) → cut_row d q ≡ cut_row d r
rows_seen zero q r h = refl
rows_seen (suc d) q r h = row_seen d (type_seen d) q r h

pub agree_seen : (d : ℕ) (s : Sort) (u v : Value) → Of s u → Of s v → Agree d u v → cut d u ≡ cut d v
agree_seen d OfType (of_type t) (of_type u) p q h = ap of_type (type_seen d t u h)
agree_seen d OfType (of_type t) (of_field u) p q h = absurd q
agree_seen d OfType (of_type t) (of_row u) p q h = absurd q
agree_seen d OfType (of_field t) v p q h = absurd p
agree_seen d OfType (of_row t) v p q h = absurd p
agree_seen d OfField (of_type t) v p q h = absurd p
agree_seen d OfField (of_field t) (of_type u) p q h = absurd q
agree_seen zero OfField (of_field t) (of_field u) p q h = refl
agree_seen (suc d) OfField (of_field t) (of_field u) p q h = ap of_field (field_seen d (type_seen d) t u h)
agree_seen d OfField (of_field t) (of_row u) p q h = absurd q
agree_seen d OfField (of_row t) v p q h = absurd p
agree_seen d (OfRow m) (of_type t) v p q h = absurd p
agree_seen d (OfRow m) (of_field t) v p q h = absurd p
agree_seen d (OfRow m) (of_row t) (of_type u) p q h = absurd q
agree_seen d (OfRow m) (of_row t) (of_field u) p q h = absurd q
agree_seen d (OfRow m) (of_row t) (of_row u) p q h = ap of_row (rows_seen d t u h)

-- and back, at half the depth
abbrev pub twice : ℕ → ℕ
twice zero = zero
twice (suc d) = suc (suc (twice d))

-- which head a type has, at whatever depth it is seen
abbrev tag : Ty → ℕ
tag whole = 0
tag tenth = 1
tag flag = 2
tag (to a b) = 3
tag (list a) = 4
tag (record_of r) = 5

tag_cut : (d : ℕ) (t : Ty) → tag (cut_ty (suc d) t) ≡ tag t
tag_cut d whole = refl
tag_cut d tenth = refl
tag_cut d flag = refl
tag_cut d (to a b) = refl
tag_cut d (list a) = refl
tag_cut d (record_of r) = ap tag (record_cut d r)

type_less : (d : ℕ) (t u : Ty) → cut_ty (suc d) t ≡ cut_ty (suc d) u → cut_ty d t ≡ cut_ty d u
type_less d t u e = let q = less d (of_type t) (of_type u) (ap of_type e) in let z : cut_ty d t ≡ cut_ty d u = cc in z

row_less : (d : ℕ) (q r : Row) → cut_row (suc d) q ≡ cut_row (suc d) r → cut_row d q ≡ cut_row d r
row_less d q r e = let p = less d (of_row q) (of_row r) (ap of_row e) in let z : cut_row d q ≡ cut_row d r = cc in z

-- a head that both have, by the agreement of their children
abbrev Types : ℕ → Type 0
Types d = (t u : Ty) → cut_ty (twice d) t ≡ cut_ty (twice d) u → Agree d (of_type t) (of_type u)

no_child : {A : Type 0} → ◌≡◌ {A = Bool} false true → A
no_child e = absurd (no_way e)

field_agrees : (d : ℕ) → Types d → (f g : Field) → cut_field (suc (twice d)) f ≡ cut_field (suc (twice d)) g → SameHead (Agree d) (of_field f) (of_field g)
field_agrees d ih absent absent e = (Absent, 0, of_field absent, of_field absent, of_field absent, of_field absent, refl, refl, no_child, no_child)
field_agrees d ih absent (has b) e = let z : ◌≡◌ {A = ℕ} 0 1 = cc in absurd (let y : ⊥ = omega (arith, z) in y)
field_agrees d ih (has a) absent e = let z : ◌≡◌ {A = ℕ} 0 1 = cc in absurd (let y : ⊥ = omega (arith, z) in y)
field_agrees d ih (has a) (has b) e =
    let q : cut_ty (twice d) a ≡ cut_ty (twice d) b = cc in
    (Has, 0, of_type a, of_field absent, of_type b, of_field absent, (a, refl, refl), (b, refl, refl), λ t. ih a b q, no_child)

row_agrees : (d : ℕ) → Types d → (q r : Row) → cut_row (suc (suc (twice d))) q ≡ cut_row (suc (suc (twice d))) r → (l : ℕ) → SameHead (Agree d) (of_field (at q l)) (of_field (at r l))
row_agrees d ih q r e l = field_agrees d ih (at q l) (at r l) (fields_agree (suc (twice d)) q r e l)

leaf_agrees : (d : ℕ) (t u : Ty) → tag t < 3 → t ≡ u → SameHead (Agree d) (of_type t) (of_type u)
leaf_agrees d whole u l e = (Whole, 0, of_type whole, of_type whole, of_type whole, of_type whole, refl, ap of_type (sym e), no_child, no_child)
leaf_agrees d tenth u l e = (Tenth, 0, of_type whole, of_type whole, of_type whole, of_type whole, refl, ap of_type (sym e), no_child, no_child)
leaf_agrees d flag u l e = (Flag, 0, of_type whole, of_type whole, of_type whole, of_type whole, refl, ap of_type (sym e), no_child, no_child)
leaf_agrees d (to a b) u l e = absurd (let y : ⊥ = omega (arith, l) in y)
leaf_agrees d (list a) u l e = absurd (let y : ⊥ = omega (arith, l) in y)
leaf_agrees d (record_of r) u l e = absurd (let y : ⊥ = omega (arith, l) in y)

head_agrees : (d : ℕ) → Types d → ((q r : Row) → cut_row (suc (twice d)) q ≡ cut_row (suc (twice d)) r → Agree d (of_row q) (of_row r)) → (t u : Ty) → tag t ≡ tag u → cut_ty (suc (suc (twice d))) t ≡ cut_ty (suc (suc (twice d))) u → SameHead (Agree d) (of_type t) (of_type u)
head_agrees d ih rows whole whole g h = leaf_agrees d whole whole (omega arith) refl
head_agrees d ih rows whole tenth g h = absurd (let y : ⊥ = omega (arith, g) in y)
head_agrees d ih rows whole flag g h = absurd (let y : ⊥ = omega (arith, g) in y)
head_agrees d ih rows whole (to c e) g h = absurd (let y : ⊥ = omega (arith, g) in y)
head_agrees d ih rows whole (list c) g h = absurd (let y : ⊥ = omega (arith, g) in y)
head_agrees d ih rows whole (record_of s) g h = absurd (let y : ⊥ = omega (arith, g) in y)
head_agrees d ih rows tenth whole g h = absurd (let y : ⊥ = omega (arith, g) in y)
head_agrees d ih rows tenth tenth g h = leaf_agrees d tenth tenth (omega arith) refl
head_agrees d ih rows tenth flag g h = absurd (let y : ⊥ = omega (arith, g) in y)
head_agrees d ih rows tenth (to c e) g h = absurd (let y : ⊥ = omega (arith, g) in y)
head_agrees d ih rows tenth (list c) g h = absurd (let y : ⊥ = omega (arith, g) in y)
head_agrees d ih rows tenth (record_of s) g h = absurd (let y : ⊥ = omega (arith, g) in y)
head_agrees d ih rows flag whole g h = absurd (let y : ⊥ = omega (arith, g) in y)
head_agrees d ih rows flag tenth g h = absurd (let y : ⊥ = omega (arith, g) in y)
head_agrees d ih rows flag flag g h = leaf_agrees d flag flag (omega arith) refl
head_agrees d ih rows flag (to c e) g h = absurd (let y : ⊥ = omega (arith, g) in y)
head_agrees d ih rows flag (list c) g h = absurd (let y : ⊥ = omega (arith, g) in y)
head_agrees d ih rows flag (record_of s) g h = absurd (let y : ⊥ = omega (arith, g) in y)
head_agrees d ih rows (to a b) whole g h = absurd (let y : ⊥ = omega (arith, g) in y)
head_agrees d ih rows (to a b) tenth g h = absurd (let y : ⊥ = omega (arith, g) in y)
head_agrees d ih rows (to a b) flag g h = absurd (let y : ⊥ = omega (arith, g) in y)
head_agrees d ih rows (to a b) (to c e) g h =
    let p : cut_ty (suc (twice d)) a ≡ cut_ty (suc (twice d)) c = cc in
    let q : cut_ty (suc (twice d)) b ≡ cut_ty (suc (twice d)) e = cc in
    (To, 0, of_type a, of_type b, of_type c, of_type e, (a, b, refl, refl, refl), (c, e, refl, refl, refl), λ t. ih a c (type_less (twice d) a c p), λ t. ih b e (type_less (twice d) b e q))
head_agrees d ih rows (to a b) (list c) g h = absurd (let y : ⊥ = omega (arith, g) in y)
head_agrees d ih rows (to a b) (record_of s) g h = absurd (let y : ⊥ = omega (arith, g) in y)
head_agrees d ih rows (list a) whole g h = absurd (let y : ⊥ = omega (arith, g) in y)
head_agrees d ih rows (list a) tenth g h = absurd (let y : ⊥ = omega (arith, g) in y)
head_agrees d ih rows (list a) flag g h = absurd (let y : ⊥ = omega (arith, g) in y)
head_agrees d ih rows (list a) (to c e) g h = absurd (let y : ⊥ = omega (arith, g) in y)
head_agrees d ih rows (list a) (list c) g h =
    let p : cut_ty (suc (twice d)) a ≡ cut_ty (suc (twice d)) c = cc in
    (ListOf, 0, of_type a, of_type a, of_type c, of_type a, (a, refl, refl), (c, refl, refl), λ t. ih a c (type_less (twice d) a c p), no_child)
head_agrees d ih rows (list a) (record_of s) g h = absurd (let y : ⊥ = omega (arith, g) in y)
head_agrees d ih rows (record_of r) whole g h = absurd (let y : ⊥ = omega (arith, g) in y)
head_agrees d ih rows (record_of r) tenth g h = absurd (let y : ⊥ = omega (arith, g) in y)
head_agrees d ih rows (record_of r) flag g h = absurd (let y : ⊥ = omega (arith, g) in y)
head_agrees d ih rows (record_of r) (to c e) g h = absurd (let y : ⊥ = omega (arith, g) in y)
head_agrees d ih rows (record_of r) (list c) g h = absurd (let y : ⊥ = omega (arith, g) in y)
head_agrees d ih rows (record_of r) (record_of s) g h =
    let k = sym (record_cut (suc (twice d)) r) ∙ h ∙ record_cut (suc (twice d)) s in
    let p : cut_row (suc (twice d)) r ≡ cut_row (suc (twice d)) s = cc in
    (Record, 0, of_row r, of_row r, of_row s, of_row r, (r, refl, refl), (s, refl, refl), λ t. rows r s p, no_child)

type_agrees : (d : ℕ) → Types d
type_agrees zero t u e = tt
type_agrees (suc zero) t u e =
    head_agrees zero (λ a b q. tt) (λ q r p. tt) t u (sym (tag_cut (suc zero) t) ∙ ap tag e ∙ tag_cut (suc zero) u) e
type_agrees (suc (suc d)) t u e =
    head_agrees (suc d) (type_agrees (suc d))
    (λ q r p. row_agrees d (type_agrees d) q r (row_less (suc (suc (twice d))) q r p)) t u
    (sym (tag_cut (suc (twice (suc d))) t) ∙ ap tag e ∙ tag_cut (suc (twice (suc d))) u) e

pub seen_agrees : (d : ℕ) (u v : Value) → cut (twice d) u ≡ cut (twice d) v → Agree d u v
seen_agrees zero u v e = tt
seen_agrees (suc d) (of_type t) (of_type u) e = let q : cut_ty (twice (suc d)) t ≡ cut_ty (twice (suc d)) u = cc in type_agrees (suc d) t u q
seen_agrees (suc d) (of_field f) (of_field g) e =
    let q : cut_field (suc (suc (twice d))) f ≡ cut_field (suc (suc (twice d))) g = cc in field_agrees d (type_agrees d) f g (field_less (suc (twice d)) f g q)
seen_agrees (suc d) (of_row q) (of_row r) e = let p : cut_row (suc (suc (twice d))) q ≡ cut_row (suc (suc (twice d))) r = cc in row_agrees d (type_agrees d) q r p
seen_agrees (suc d) (of_type t) (of_field g) e = let z : ◌≡◌ {A = ℕ} 0 1 = cc in absurd (let y : ⊥ = omega (arith, z) in y)
seen_agrees (suc d) (of_type t) (of_row r) e = let z : ◌≡◌ {A = ℕ} 0 1 = cc in absurd (let y : ⊥ = omega (arith, z) in y)
seen_agrees (suc d) (of_field f) (of_type u) e = let z : ◌≡◌ {A = ℕ} 0 1 = cc in absurd (let y : ⊥ = omega (arith, z) in y)
seen_agrees (suc d) (of_field f) (of_row r) e = let z : ◌≡◌ {A = ℕ} 0 1 = cc in absurd (let y : ⊥ = omega (arith, z) in y)
seen_agrees (suc d) (of_row q) (of_type u) e = let z : ◌≡◌ {A = ℕ} 0 1 = cc in absurd (let y : ⊥ = omega (arith, z) in y)
seen_agrees (suc d) (of_row q) (of_field g) e = let z : ◌≡◌ {A = ℕ} 0 1 = cc in absurd (let y : ⊥ = omega (arith, z) in y)
