-- What a look shows follows from the cells.
use Rattle.std.specs.Prelude.{◌≡◌, ℕ, zero, suc, ◌/◌, ◌%◌, ◌^◌, ◌<◌, ◌≤◌, Bool, true, false, List, length, ◌==◌, ◌≢◌, nat_le, refl}
use Rattle.std.proofs.Common.{sym, ◌∙◌, ap, ap₂, subst, arith, lt-ltb, le-leb, eq-eqb}
use Rattle.std.proofs.Math.Option.{some}
use Rattle.ground.specs.Values.{Value}
use Rattle.ground.specs.Sorts.{Of}
use Rattle.ground.specs.Heads.{Builds, gives, has_first, has_second, none_lacked, without, first_sort}
use Rattle.ground.specs.declared.sort.Sort.{Sort}
use Rattle.ground.specs.declared.sort.Sort.TheVariants.{«Type» as OfType, Field as OfField, Row as OfRow}
use Rattle.ground.specs.declared.sort.Labels.{Labels}
use Rattle.ground.specs.declared.classes.Classes.{Classes}
use Rattle.ground.specs.declared.head.Head.TheVariants.{To, Row as RowWith}
use Rattle.ground.proofs.Built.{no_way}
use Rattle.system.proofs.Takes.{takes_of, both_of}
use Rattle.system.specs.Meaning.{Valuation, Listed, small}
use Rattle.system.specs.Requests.{labelled, holds}
use Rattle.system.specs.Replies.{Stands, Shaped, Looks, open_code, built}
use Rattle.cells.specs.declared.What.{What}
use Rattle.cells.specs.declared.What.TheVariants.{Open, Link, Leaf, One, Two, Row as RowAt}
use Rattle.cells.specs.declared.Cell.{Cell}
use Rattle.cells.specs.Cells.{as_type, as_field, as_row, leaf, one, two, row_of, what_at, sort_at, Says, Holds, Refers, Root, Leads, stay, on, Adds, Over, one_sort, one_gives}
use Rattle.cells.specs.Weights.{same, Lower}
use Rattle.cells.proofs.Building.{type_is, field_is, row_is}
use Rattle.cells.proofs.Chains.{lead, lead_sort, over_is}
use Rattle.cells.proofs.Labelling.{adds_without}
use Rattle.unifier.specs.declared.undo.Undo.{Undo}
use Rattle.unifier.specs.declared.saved.Saved.{Saved}
use Rattle.unifier.specs.Fine.{Fine, Proper, Small}
use Rattle.unifier.specs.States.{seated, sort_in, unclassed, opens, state_of, meaning_of, Good}
use Rattle.unifier.specs.Solvers.{height}
use Rattle.unifier.specs.Views.{leaf_head, one_head}
use Rattle.unifier.specs.Codes.{code_known, seat, open_listed, listed_open, kinds_apart}
use Rattle.unifier.specs.Heights.{tall_falls}
use Rattle.unifier.specs.Sound.{open_code as open-no-owned}
use Rattle.cells.specs.declared.Bare.{Bare}
use Rattle.cells.specs.declared.Bare.TheVariants.{Whole as BareWhole, Tenth as BareTenth, Flag as BareFlag, Absent as BareAbsent, Empty as BareEmpty}
use Rattle.cells.specs.declared.Wrap.{Wrap}
use Rattle.cells.specs.declared.Wrap.TheVariants.{List as OneList, Record as OneRecord, Has as OneHas}

-- what a head of no child, or one, says of its value
leaf_builds : (h : Bare) (l : ℕ) (x y v : Value) → v ≡ leaf h → Builds (leaf_head h) l x y v
leaf_builds BareWhole l x y v e = e
leaf_builds BareTenth l x y v e = e
leaf_builds BareFlag l x y v e = e
leaf_builds BareAbsent l x y v e = e
leaf_builds BareEmpty l x y v e = e

leaf_none : (h : Bare) → (has_first (leaf_head h) ≡ false) × (has_second (leaf_head h) ≡ false)
leaf_none BareWhole = (refl, refl)
leaf_none BareTenth = (refl, refl)
leaf_none BareFlag = (refl, refl)
leaf_none BareAbsent = (refl, refl)
leaf_none BareEmpty = (refl, refl)

-- a value of a sort is a leaf of that sort
leaf_gives : (h : Bare) (s : Sort) (l : ℕ) → Of s (leaf h) → Small s → (m : Labels) × (s ≡ gives (leaf_head h) m l) × (labelled (leaf_head h) l m ≡ true)
leaf_gives BareWhole OfType l o q = (none_lacked, refl, refl)
leaf_gives BareWhole OfField l o q = absurd o
leaf_gives BareWhole (OfRow m) l o q = absurd o
leaf_gives BareTenth OfType l o q = (none_lacked, refl, refl)
leaf_gives BareTenth OfField l o q = absurd o
leaf_gives BareTenth (OfRow m) l o q = absurd o
leaf_gives BareFlag OfType l o q = (none_lacked, refl, refl)
leaf_gives BareFlag OfField l o q = absurd o
leaf_gives BareFlag (OfRow m) l o q = absurd o
leaf_gives BareAbsent OfType l o q = absurd o
leaf_gives BareAbsent OfField l o q = (none_lacked, refl, refl)
leaf_gives BareAbsent (OfRow m) l o q = absurd o
leaf_gives BareEmpty OfType l o q = absurd o
leaf_gives BareEmpty OfField l o q = absurd o
leaf_gives BareEmpty (OfRow m) l o q = (m, refl, lt-ltb m.0 (2 ^ 24) q)

one_builds : (h : Wrap) (l : ℕ) (s : Sort) (x y v : Value) → one_sort h s → Of s x → v ≡ one h x → Builds (one_head h) l x y v
one_builds OneList l s x y v q o e = (as_type x, type_is x (subst (λ (k : Sort). Of k x) q o), e)
one_builds OneRecord l s x y v q o e = (as_row x, row_is none_lacked x (subst (λ (k : Sort). Of k x) q o), e)
one_builds OneHas l s x y v q o e = (as_type x, type_is x (subst (λ (k : Sort). Of k x) q o), e)

one_first : (h : Wrap) (s : Sort) → one_sort h s → s ≡ first_sort (one_head h)
one_first OneList s q = q
one_first OneRecord s q = q
one_first OneHas s q = q

one_second : (h : Wrap) → has_second (one_head h) ≡ false
one_second OneList = refl
one_second OneRecord = refl
one_second OneHas = refl

one_labelled : (h : Wrap) (l : ℕ) (m : Labels) → labelled (one_head h) l m ≡ true
one_labelled OneList l m = refl
one_labelled OneRecord l m = refl
one_labelled OneHas l m = refl

one_gives_holds : (h : Wrap) (l : ℕ) (m : Labels) → one_gives h ≡ gives (one_head h) m l
one_gives_holds OneList l m = refl
one_gives_holds OneRecord l m = refl
one_gives_holds OneHas l m = refl

-- a child that is of a sort a head takes is no owned cell
child_code : (cs : List (Cell ℕ)) → Fine cs → (x : ℕ) → (sort_at cs x ≢ OfField) → 0 < x
child_code cs f zero n = absurd (n f.field)
child_code cs f (suc x) n = omega arith

one_no_field : (h : Wrap) (s : Sort) → one_sort h s → s ≢ OfField
one_no_field OneList s q e = let a : OfType ≡ OfField = sym q ∙ e in let z : ◌≡◌ {A = ℕ} 0 1 = cc in let y : ⊥ = omega (arith, z) in y
one_no_field OneRecord s q e = let a : OfRow none_lacked ≡ OfField = sym q ∙ e in let z : ◌≡◌ {A = ℕ} 0 1 = cc in let y : ⊥ = omega (arith, z) in y
one_no_field OneHas s q e = let a : OfType ≡ OfField = sym q ∙ e in let z : ◌≡◌ {A = ℕ} 0 1 = cc in let y : ⊥ = omega (arith, z) in y

type_no_field : OfType ≡ OfField → ⊥
type_no_field e = let z : ◌≡◌ {A = ℕ} 0 1 = cc in let y : ⊥ = omega (arith, z) in y

row_no_field : (m : Labels) → OfRow m ≢ OfField
row_no_field m e = let z : ◌≡◌ {A = ℕ} 0 1 = cc in let y : ⊥ = omega (arith, z) in y

module _ (h z n : ℕ) (cs : List (Cell ℕ)) (tr : List Undo) (ss : List Saved) (good : Good h z n cs tr ss) (c : ℕ) (cp : 0 < c) (cl : c < length cs) (r : ℕ) (rl : r < length cs) (leads : Leads cs c r) where
  abbrev fine : Fine cs
  fine = good.sane.fine

  abbrev tall : ℕ → ℕ
  tall = height cs (suc z)

  falls : (i : ℕ) → i < length cs → Lower tall i (what_at cs i)
  falls i l = tall_falls cs good.sane.order good.sane.falls fine.formed z (omega (arith, good.cells)) i l

  -- along links it does not rise, and values and sorts stay
  descends : {a b : ℕ} → a < length cs → Leads cs a b → (b < length cs) × (tall b ≤ tall a)
  descends al stay = (al, omega arith)
  descends {b = b} al (on {i = i} l e) =
      let d = descends al l in
      let q = subst (Refers cs i) e (fine.formed.refers i d.0) in
      (q.0, omega (arith, d.1, subst (Lower tall i) e (falls i d.0)))

  moves : (a b : ℕ) → Leads cs a b → what_at cs a ≡ Open → b ≡ a
  moves a b stay o = refl
  moves a b (on {i = i} {p = p} l e) o = absurd (kinds_apart Open (Link p) (λ q. let w : ⊥ = omega (arith, q) in w) (sym o ∙ ap (what_at cs) (sym (moves a i l o)) ∙ e))

  value : (v : Valuation) → Holds same cs (seated v) → v c ≡ seated v r
  value v s = sym (seat v c cp) ∙ lead same cs (seated v) s leads

  says : (v : Valuation) → Holds same cs (seated v) → (w : What ℕ) → what_at cs r ≡ w → Says same (seated v) r w
  says v s w e = subst (Says same (seated v) r) e (s r rl).0

  pub look_open : what_at cs r ≡ Open → Stands (meaning_of z n cs tr ss) c r unclassed
  look_open e =
      let rp = open-no-owned cs fine r e in
      record {
        listed = listed_open cs (length cs) r rl e;
        sort = code_known cs r rp rl ∙ ap some (sym (lead_sort cs fine.formed leads)) ∙ sym (code_known cs c cp cl);
        equal = λ v s. value v s ∙ seat v r rp;
        itself = λ j l. moves c r leads (open_listed cs (length cs) c j l).1;
      }

  not_open : (w : What ℕ) → what_at cs r ≡ w → (w ≢ Open) → (j : Classes) → Listed (opens cs (length cs)) c j → ⊥
  not_open w e q j l = let o = (open_listed cs (length cs) c j l).1 in q (sym e ∙ ap (what_at cs) (moves c r leads o) ∙ o)

  refers : (w : What ℕ) → what_at cs r ≡ w → Refers cs r w
  refers w e = subst (Refers cs r) e (fine.formed.refers r rl)

  under : (w : What ℕ) → what_at cs r ≡ w → Lower tall r w
  under w e = subst (Lower tall r) e (falls r rl)

  sorted : (s : Sort) → sort_at cs r ≡ s → sort_in cs c ≡ some s
  sorted s e = code_known cs c cp cl ∙ ap some (lead_sort cs fine.formed leads ∙ e)

  below : tall r ≤ tall c
  below = (descends cl leads).1

  at_least : (w : What ℕ) → what_at cs r ≡ w → 0 < Rattle.unifier.specs.Solvers.taller (height cs z) w → 0 < tall c
  at_least w e p = omega (arith, below, ap (Rattle.unifier.specs.Solvers.taller (height cs z)) e, p)

  known_as : (x : ℕ) (s : Sort) → 0 < x → x < length cs → sort_at cs x ≡ s → sort_in cs x ≡ some s
  known_as x s p l e = code_known cs x p l ∙ ap some e

  no_child : {A : Type 0} (b : Bool) → b ≡ false → b ≡ true → A
  no_child b e f = absurd (no_way (sym e ∙ f))

  pub look_leaf : (k : Bare) → what_at cs r ≡ Leaf k → Shaped tall (meaning_of z n cs tr ss) c (leaf_head k) 0 0 0
  look_leaf k e =
      let g = leaf_gives k (sort_at cs r) 0 (refers (Leaf k) e) (fine.small r rl) in
      let none = leaf_none k in
      record {
        bound = not_open (Leaf k) e (kinds_apart (Leaf k) Open (λ q. let w : ⊥ = omega (arith, q) in w));
        lacked = g.0;
        takes = takes_of (state_of n cs) (leaf_head k) 0 0 0 g.0 g.2 (no_child (has_first (leaf_head k)) none.0) (no_child (has_second (leaf_head k)) none.1);
        gives = sorted (gives (leaf_head k) g.0 0) g.1;
        builds = λ v s. leaf_builds k 0 (v 0) (v 0) (v c) (value v s ∙ says v s (Leaf k) e);
        counts = at_least (Leaf k) e (omega arith);
        first_falls = no_child (has_first (leaf_head k)) none.0;
        second_falls = no_child (has_second (leaf_head k)) none.1;
      }

  pub look_one : (k : Wrap) (x : ℕ) → what_at cs r ≡ One k x → Shaped tall (meaning_of z n cs tr ss) c (one_head k) x 0 0
  look_one k x e =
      let f = refers (One k x) e in
      let xp = child_code cs fine x (one_no_field k (sort_at cs x) f.1) in
      record {
        bound = not_open (One k x) e (kinds_apart (One k x) Open (λ q. let w : ⊥ = omega (arith, q) in w));
        lacked = none_lacked;
        takes = takes_of (state_of n cs) (one_head k) x 0 0 none_lacked (one_labelled k 0 none_lacked) (λ t. known_as x (first_sort (one_head k)) xp f.0 (one_first k (sort_at cs x) f.1)) (no_child (has_second (one_head k)) (one_second k));
        gives = sorted (gives (one_head k) none_lacked 0) (f.2 ∙ one_gives_holds k 0 none_lacked);
        builds = λ v s. one_builds k 0 (sort_at cs x) (v x) (v 0) (v c) f.1 (subst (λ (u : Value). Of (sort_at cs x) u) (seat v x xp) (s x f.0).1) (value v s ∙ says v s (One k x) e ∙ ap (one k) (seat v x xp));
        counts = at_least (One k x) e (omega arith);
        first_falls = λ t. omega (arith, below, under (One k x) e);
        second_falls = no_child (has_second (one_head k)) (one_second k);
      }

  pub look_two : (x y : ℕ) → what_at cs r ≡ Two x y → Shaped tall (meaning_of z n cs tr ss) c To x y 0
  look_two x y e =
      let f = refers (Two x y) e in
      let xp = child_code cs fine x (λ q. type_no_field (sym f.2 ∙ q)) in
      let yp = child_code cs fine y (λ q. type_no_field (sym f.3 ∙ q)) in
      let u = under (Two x y) e in
      record {
        bound = not_open (Two x y) e (kinds_apart (Two x y) Open (λ q. let w : ⊥ = omega (arith, q) in w));
        lacked = none_lacked;
        takes = takes_of (state_of n cs) To x y 0 none_lacked refl (λ t. known_as x OfType xp f.0 f.2) (λ t. known_as y OfType yp f.1 f.3);
        gives = sorted OfType f.4;
        builds = λ v s. (
          as_type (v x),
          as_type (v y),
          type_is (v x) (subst (λ (k : Value). Of OfType k) (seat v x xp) (subst (λ (k : Sort). Of k (seated v x)) f.2 (s x f.0).1)),
          type_is (v y) (subst (λ (k : Value). Of OfType k) (seat v y yp) (subst (λ (k : Sort). Of k (seated v y)) f.3 (s y f.1).1)),
          value v s ∙ says v s (Two x y) e ∙ ap₂ two (seat v x xp) (seat v y yp),
        );
        counts = at_least (Two x y) e (omega arith);
        first_falls = λ t. omega (arith, below, u.0);
        second_falls = λ t. omega (arith, below, u.1);
      }

  row_is_over : (l x y : ℕ) → what_at cs r ≡ RowAt l x y → (m : Labels) × (k : Labels) × (sort_at cs r ≡ OfRow m) × (sort_at cs y ≡ OfRow k) × Adds m l k
  row_is_over l x y e = go (sort_at cs r) refl (refers (RowAt l x y) e).3
    where
      go : (s : Sort) → sort_at cs r ≡ s → Over s l (sort_at cs y) → (m : Labels) × (k : Labels) × (sort_at cs r ≡ OfRow m) × (sort_at cs y ≡ OfRow k) × Adds m l k
      go OfType q o = absurd o
      go OfField q o = absurd o
      go (OfRow m) q o = let p = over_is (OfRow m) (sort_at cs y) l m refl o in (m, p.0, q, p.1, p.2)

  pub look_row : (l x y : ℕ) → what_at cs r ≡ RowAt l x y → Shaped tall (meaning_of z n cs tr ss) c RowWith x y l
  look_row l x y e =
      let f = refers (RowAt l x y) e in
      let p = subst Proper e (fine.proper r rl) in
      let o = row_is_over l x y e in
      let m = o.0 in
      let k = o.1 in
      let yp = child_code cs fine y (λ q. row_no_field k (sym o.3 ∙ q)) in
      let u = under (RowAt l x y) e in
      let ks : k.0 < 2 ^ 24 = subst Small o.3 (fine.small y f.1) in
      let ms : m.0 < 2 ^ 24 = subst Small o.2 (fine.small r rl) in
      record {
        bound = not_open (RowAt l x y) e (kinds_apart (RowAt l x y) Open (λ q. let w : ⊥ = omega (arith, q) in w));
        lacked = k;
        takes = takes_of (state_of n cs) RowWith x y l k
            (both_of (small k) (holds k l) (lt-ltb k.0 (2 ^ 24) ks) (both_of (nat_le l 23) ((k.0 / 2 ^ l) % 2 == 1) (le-leb l 23 (omega (arith, p.0))) (eq-eqb ((k.0 / 2 ^ l) % 2) 1 o.4.here)))
            (λ t. known_as x OfField p.1 f.0 f.2) (λ t. known_as y (OfRow k) yp f.1 o.3);
        gives = sorted (OfRow (without k l)) (o.2 ∙ ap OfRow (adds_without m k l o.4 ms ks));
        builds = λ v s. (
          as_field (v x),
          as_row (v y),
          field_is (v x) (subst (λ (i : Value). Of OfField i) (seat v x p.1) (subst (λ (i : Sort). Of i (seated v x)) f.2 (s x f.0).1)),
          row_is k (v y) (subst (λ (i : Value). Of (OfRow k) i) (seat v y yp) (subst (λ (i : Sort). Of i (seated v y)) o.3 (s y f.1).1)),
          value v s ∙ says v s (RowAt l x y) e ∙ ap₂ (row_of l) (seat v x p.1) (seat v y yp),
        );
        counts = at_least (RowAt l x y) e (omega arith);
        first_falls = λ t. omega (arith, below, u.0);
        second_falls = λ t. omega (arith, below, u.1);
      }

  pub looks_at : Root (what_at cs r) → Looks tall (meaning_of z n cs tr ss) c
  looks_at root = go (what_at cs r) refl root
    where
      go : (w : What ℕ) → what_at cs r ≡ w → Root w → Looks tall (meaning_of z n cs tr ss) c
      go Open e q = open_code r unclassed (look_open e)
      go (Link p) e q = absurd (let w : ⊥ = omega (arith, q) in w)
      go (Leaf k) e q = built (leaf_head k) 0 0 0 (look_leaf k e)
      go (One k x) e q = built (one_head k) x 0 0 (look_one k x e)
      go (Two x y) e q = built To x y 0 (look_two x y e)
      go (RowAt l x y) e q = built RowWith x y l (look_row l x y e)
