-- Two heads that differ: no values of theirs are equal, even at the depth 1.
use Rattle.std.proofs.Common.{◌≡◌, ℕ, zero, suc, ◌<◌, cond, eqb, List, length, sym, refl, ap, ◌∙◌, arith}
use Rattle.std.proofs.lemmas.Bool.{eq-eqb, cond-true}
use Rattle.ground.specs.Values.{Ty, whole, tenth, flag, to, list, record_of, Field, absent, has, Value, of_type, of_field, of_row}
use Rattle.cells.specs.declared.What.{What}
use Rattle.cells.specs.declared.What.TheVariants.{Open, Link, Leaf, One, Two, Row as RowAt}
use Rattle.cells.specs.declared.Cell.{Cell}
use Rattle.cells.specs.Cuts.{cut}
use Rattle.cells.specs.Cells.{leaf, one, what_at, Valuation, Says, Root}
use Rattle.cells.specs.Steps.{pair, Denied}
use Rattle.unifier.specs.declared.meet.Meet.{Meet}
use Rattle.unifier.specs.declared.meet.Meet.TheVariants.{Clash, Left, Right, Same, One as OnePair, Two as TwoPairs, Over, Under}
use Rattle.unifier.specs.Meets.{bare_place, wrap_place, meet_of}
use Rattle.cells.specs.declared.Bare.{Bare}
use Rattle.cells.specs.declared.Bare.TheVariants.{Whole, Tenth, Flag, Absent, Empty}
use Rattle.cells.specs.declared.Wrap.{Wrap}
use Rattle.cells.specs.declared.Wrap.TheVariants.{List as ListOf, Record as RecordOf, Has as HasOf}

-- the head of a value, by its number: leaves, heads of one child, of two; a row counts as its empty one
abbrev head_ty : Ty → ℕ × ℕ
head_ty whole = (0, 0)
head_ty tenth = (0, 1)
head_ty flag = (0, 2)
head_ty (to a b) = (2, 0)
head_ty (list a) = (1, 0)
head_ty (record_of r) = (1, 1)

abbrev head_field : Field → ℕ × ℕ
head_field absent = (0, 3)
head_field (has t) = (1, 2)

abbrev head : Value → ℕ × ℕ
head (of_type t) = head_ty t
head (of_field f) = head_field f
head (of_row r) = (0, 4)

abbrev tag : What ℕ → ℕ × ℕ
tag Open = (0, 0)
tag (Link p) = (0, 0)
tag (Leaf h) = (0, bare_place h)
tag (One h x) = (1, wrap_place h)
tag (Two x y) = (2, 0)
tag (RowAt l x y) = (0, 4)

leaf_head_cut : (h : Bare) → head (cut (suc zero) (leaf h)) ≡ (0, bare_place h)
leaf_head_cut Whole = refl
leaf_head_cut Tenth = refl
leaf_head_cut Flag = refl
leaf_head_cut Absent = refl
leaf_head_cut Empty = refl

one_head : (h : Wrap) (u : Value) → head (cut (suc zero) (one h u)) ≡ (1, wrap_place h)
one_head ListOf u = refl
one_head RecordOf u = refl
one_head HasOf u = refl

abbrev Headed : What ℕ → Type 0
Headed Open = ⊥
Headed (Link p) = ⊥
Headed (Leaf h) = Unit {0}
Headed (One h x) = Unit {0}
Headed (Two x y) = Unit {0}
Headed (RowAt l x y) = Unit {0}

says_head : (v : Valuation) (i : ℕ) (w : What ℕ) → Headed w → Says (cut (suc zero)) v i w → head (cut (suc zero) (v i)) ≡ tag w
says_head v i Open h s = absurd h
says_head v i (Link q) h s = absurd h
says_head v i (Leaf k) h s = ap head s ∙ leaf_head_cut k
says_head v i (One k x) h s = ap head s ∙ one_head k (v x)
says_head v i (Two x y) h s = ap head s
says_head v i (RowAt l x y) h s = ap head s

-- tags differ where heads clash
abbrev Apart : What ℕ → What ℕ → Type 0
Apart w u = tag w ≡ tag u → ⊥

kinds : (a b c d : ℕ) → (a ≡ c → ⊥) → ◌≡◌ {A = ℕ × ℕ} (a, b) (c, d) → ⊥
kinds a b c d n e = n (ap (λ (p : ℕ × ℕ). p.0) e)

numbers : (a b c d : ℕ) → (b ≡ d → ⊥) → ◌≡◌ {A = ℕ × ℕ} (a, b) (c, d) → ⊥
numbers a b c d n e = n (ap (λ (p : ℕ × ℕ). p.1) e)

abbrev answers : Meet → ℕ
answers Clash = 0
answers Left = 1
answers Right = 1
answers Same = 1
answers (OnePair p) = 1
answers (TwoPairs p q) = 1
answers Over = 1
answers Under = 1

no_clash : (m : Meet) {X : Type 0} → answers m ≡ 1 → m ≡ Clash → X
no_clash m a e = absurd (let z : ◌≡◌ {A = ℕ} 1 0 = sym a ∙ ap answers e in let w : ⊥ = omega arith in w)

other_head : (m : Meet) (h k : ℕ) → answers m ≡ 1 → cond (eqb h k) m Clash ≡ Clash → h ≡ k → ⊥
other_head m h k a e q = no_clash m a (sym (cond-true (eqb h k) m Clash (eq-eqb h k q)) ∙ e)

no_root : (p : ℕ) {X : Type 0} → Root (Link p) → X
no_root p r = absurd (let w : ⊥ = omega arith in w)

clash_leaf : (h : Bare) (u : What ℕ) → Root u → meet_of (Leaf h) u ≡ Clash → Headed u × Apart (Leaf h) u
clash_leaf h Open r e = no_clash Right refl e
clash_leaf h (Link p) r e = no_root p r
clash_leaf h (Leaf k) r e = (tt, numbers 0 (bare_place h) 0 (bare_place k) (other_head Same (bare_place h) (bare_place k) refl e))
clash_leaf h (One k x) r e = (tt, kinds 0 (bare_place h) 1 (wrap_place k) (λ q. omega arith))
clash_leaf h (Two x y) r e = (tt, kinds 0 (bare_place h) 2 0 (λ q. omega arith))
clash_leaf h (RowAt l x y) r e = no_clash Under refl e

clash_one : (h : Wrap) (x : ℕ) (u : What ℕ) → Root u → meet_of (One h x) u ≡ Clash → Headed u × Apart (One h x) u
clash_one h x Open r e = no_clash Right refl e
clash_one h x (Link p) r e = no_root p r
clash_one h x (Leaf k) r e = (tt, kinds 1 (wrap_place h) 0 (bare_place k) (λ q. omega arith))
clash_one h x (One k y) r e = (tt, numbers 1 (wrap_place h) 1 (wrap_place k) (other_head (OnePair (pair x y)) (wrap_place h) (wrap_place k) refl e))
clash_one h x (Two y z) r e = (tt, kinds 1 (wrap_place h) 2 0 (λ q. omega arith))
clash_one h x (RowAt l y z) r e = (tt, kinds 1 (wrap_place h) 0 4 (λ q. omega arith))

clash_two : (x y : ℕ) (u : What ℕ) → Root u → meet_of (Two x y) u ≡ Clash → Headed u × Apart (Two x y) u
clash_two x y Open r e = no_clash Right refl e
clash_two x y (Link p) r e = no_root p r
clash_two x y (Leaf k) r e = (tt, kinds 2 0 0 (bare_place k) (λ q. omega arith))
clash_two x y (One k z) r e = (tt, kinds 2 0 1 (wrap_place k) (λ q. omega arith))
clash_two x y (Two z w) r e = no_clash (TwoPairs (pair x z) (pair y w)) refl e
clash_two x y (RowAt l z w) r e = (tt, kinds 2 0 0 4 (λ q. omega arith))

clash_row : (l x y : ℕ) (u : What ℕ) → Root u → meet_of (RowAt l x y) u ≡ Clash → Headed u × Apart (RowAt l x y) u
clash_row l x y Open r e = no_clash Right refl e
clash_row l x y (Link p) r e = no_root p r
clash_row l x y (Leaf k) r e = no_clash Over refl e
clash_row l x y (One k z) r e = (tt, kinds 0 4 1 (wrap_place k) (λ q. omega arith))
clash_row l x y (Two z w) r e = (tt, kinds 0 4 2 0 (λ q. omega arith))
clash_row l x y (RowAt k z w) r e = no_clash Over refl e

clash_apart : (w u : What ℕ) → Root w → Root u → meet_of w u ≡ Clash → Headed w × Headed u × Apart w u
clash_apart Open u rw ru e = no_clash Left refl e
clash_apart (Link p) u rw ru e = no_root p rw
clash_apart (Leaf h) u rw ru e = let c = clash_leaf h u ru e in (tt, c.0, c.1)
clash_apart (One h x) u rw ru e = let c = clash_one h x u ru e in (tt, c.0, c.1)
clash_apart (Two x y) u rw ru e = let c = clash_two x y u ru e in (tt, c.0, c.1)
clash_apart (RowAt l x y) u rw ru e = let c = clash_row l x y u ru e in (tt, c.0, c.1)

pub clash_denied : (cs : List (Cell ℕ)) (a b : ℕ) → a < length cs → b < length cs → Root (what_at cs a) → Root (what_at cs b) →
    meet_of (what_at cs a) (what_at cs b) ≡ Clash → Denied cs a b
clash_denied cs a b al bl ra rb e v h q =
    let c = clash_apart (what_at cs a) (what_at cs b) ra rb e in
    c.2 (sym (says_head v a (what_at cs a) c.0 (h a al).0) ∙ ap head q ∙ says_head v b (what_at cs b) c.1 (h b bl).0)
