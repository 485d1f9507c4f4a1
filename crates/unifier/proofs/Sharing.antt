-- A label that one of two rows shows alone, lent to the other.
use Rattle.std.proofs.Common.{◌≡◌, ℕ, suc, ◌+◌, ◌^◌, ◌<◌, ◌≤◌, Bool, true, false, cond, eqb, ◌⊎◌, List, [], ◌∷◌, ◌++◌, length, get_or, Some, None, Option, sym, refl, ap, ◌∙◌, subst, ap₂, inl, inr, ⊎_elim, arith, length-set, Ok, Err, Result}
use Rattle.std.proofs.lemmas.List.{get_or-set_same, get_or-set_other, get_or_past}
use Rattle.std.proofs.lemmas.Bool.{false≢true, cases_eq, cases_lt}
use Rattle.ground.specs.Sorts.{Of, In}
use Rattle.ground.specs.declared.sort.Sort.{Sort}
use Rattle.ground.specs.declared.sort.Sort.TheVariants.{«Type» as OfType, Field as OfField, Row as OfRow}
use Rattle.ground.specs.declared.sort.Labels.{Labels}
use Rattle.cells.specs.declared.What.{What}
use Rattle.cells.specs.declared.What.TheVariants.{Open, Link, Leaf, One, Two, Row as RowAt}
use Rattle.cells.specs.declared.Cell.{Cell}
use Rattle.cells.specs.Cuts.{cut}
use Rattle.cells.specs.Cells.{leaf, none, what_at, sort_at, Adds, Refers, one_gives, extended}
use Rattle.cells.specs.Rooms.{used, spare, spare_of, spare_sort}
use Rattle.cells.specs.Rows.{Shown, Chain, shown, lookup, Tail, ends, shows}
use Rattle.cells.specs.Widths.{Widened}
use Rattle.cells.proofs.Extending.{length_extended}
use Rattle.cells.proofs.Spending.{spares_one, spare_adds}
use Rattle.cells.proofs.Chains.{known, chain_sort, chain_stays}
use Rattle.cells.proofs.Labelling.{including_adds}
use Rattle.cells.proofs.Widening.{widened_none, widened_turn, widened_more, may_add, chain_extended}
use Rattle.cells.proofs.Meeting.{tails_apart}
use Rattle.unifier.specs.declared.side.Side.{Side}
use Rattle.unifier.specs.Fine.{Fine, Proper, Small}
use Rattle.unifier.specs.Sides.{found, Ended, Tabled, Facing, Lone, Covered, including, showing, Lent, Widens, Shared}
use Rattle.unifier.proofs.Numbers.{put_small}
use Rattle.unifier.proofs.Walking.{table_more}
use Rattle.unifier.proofs.Extended.{what_other, what_tail, fine_extended}
use Rattle.cells.specs.Weights.{same}
use Rattle.unifier.specs.declared.misfit.NoRoom.{NoRoom}
use Rattle.cells.specs.declared.Bare.{Bare}
use Rattle.cells.specs.declared.Bare.TheVariants.{Whole, Tenth, Flag, Absent, Empty}
use Rattle.cells.specs.declared.Wrap.{Wrap}
use Rattle.cells.specs.declared.Wrap.TheVariants.{List as ListOf, Record as RecordOf, Has as HasOf}

-- constructors are apart
pub some_none : (x : ℕ) → ◌≡◌ {A = Option ℕ} (Some x) None → ⊥
some_none x e = let z : ◌≡◌ {A = ℕ} 0 1 = cc in let w : ⊥ = omega arith in w

pub type_row : (m : Labels) → OfType ≡ OfRow m → ⊥
type_row m e = let z : ◌≡◌ {A = ℕ} 0 1 = cc in let w : ⊥ = omega arith in w

pub field_row : (m : Labels) → OfField ≡ OfRow m → ⊥
field_row m e = let z : ◌≡◌ {A = ℕ} 0 1 = cc in let w : ⊥ = omega arith in w

pub open_leaf : (h : Bare) → ◌≡◌ {A = What ℕ} Open (Leaf h) → ⊥
open_leaf h e = let z : ◌≡◌ {A = ℕ} 0 1 = cc in let w : ⊥ = omega arith in w

-- what a table tells of its chain
pub found_shown : (fs : List Shown) (k x z : ℕ) → found fs k ≡ Some x → (shown fs k ≡ true) × (lookup fs k z ≡ x)
found_shown [] k x z e = absurd (some_none x (sym e))
found_shown (s ∷ fs) k x z e = go (eqb k s.label) (λ q. found_shown fs k x z q) e
  where
    go : (t : Bool) → (found fs k ≡ Some x → (shown fs k ≡ true) × (lookup fs k z ≡ x)) → cond t (Some s.field) (found fs k) ≡ Some x →
        (cond t true (shown fs k) ≡ true) × (cond t s.field (lookup fs k z) ≡ x)
    go true h e = (refl, let w : s.field ≡ x = cc in w)
    go false h e = h e

pub found_hidden : (fs : List Shown) (k z : ℕ) → found fs k ≡ None → (shown fs k ≡ false) × (lookup fs k z ≡ z)
found_hidden [] k z e = (refl, refl)
found_hidden (s ∷ fs) k z e = go (eqb k s.label) (λ q. found_hidden fs k z q) e
  where
    go : (t : Bool) → (found fs k ≡ None → (shown fs k ≡ false) × (lookup fs k z ≡ z)) → cond t (Some s.field) (found fs k) ≡ None →
        (cond t true (shown fs k) ≡ false) × (cond t s.field (lookup fs k z) ≡ z)
    go true h e = absurd (some_none s.field e)
    go false h e = h e

pub row_known : (cs : List (Cell ℕ)) (i : ℕ) (m : Labels) → sort_at cs i ≡ OfRow m → i < length cs
row_known cs i m e =
    ⊎_elim (λ (l : i < length cs). l)
    (λ (g : length cs ≤ i). absurd (type_row m (ap (λ (c : Cell ℕ). c.sort) (sym (get_or_past cs i none g)) ∙ e)))
    (cases_lt i (length cs))

-- a row where no chain goes on is open or empty
one_no_row : (h : Wrap) (m : Labels) → one_gives h ≡ OfRow m → ⊥
one_no_row ListOf m e = type_row m e
one_no_row RecordOf m e = type_row m e
one_no_row HasOf m e = field_row m e

leaf_empty : (h : Bare) (m : Labels) → Of (OfRow m) (leaf h) → h ≡ Empty
leaf_empty Whole m o = absurd o
leaf_empty Tenth m o = absurd o
leaf_empty Flag m o = absurd o
leaf_empty Absent m o = absurd o
leaf_empty Empty m o = refl

pub tail_is : (cs : List (Cell ℕ)) (t : ℕ) (m : Labels) → Fine cs → t < length cs → Ended (what_at cs t) → sort_at cs t ≡ OfRow m → (what_at cs t ≡ Open) ⊎ (what_at cs t ≡ Leaf Empty)
tail_is cs t m f tl en s = go (what_at cs t) en (f.proper t tl) (f.formed.refers t tl)
  where
    go : (w : What ℕ) → Ended w → Proper w → Refers cs t w → (w ≡ Open) ⊎ (w ≡ Leaf Empty)
    go Open e p r = inl refl
    go (Link q) e p r = absurd e
    go (Leaf h) e p r = inr (ap Leaf (leaf_empty h m (subst (λ (x : Sort). Of x (leaf h)) s r)))
    go (One h x) e p r = absurd (one_no_row h m (sym r.2 ∙ s))
    go (Two x y) e p r = absurd (type_row m (sym r.4 ∙ s))
    go (RowAt l x y) e p r = absurd e

-- no chain shows the owned cell
chain_positive : (cs : List (Cell ℕ)) {c t : ℕ} {fs : List Shown} → Fine cs → Chain cs c fs t → (k : ℕ) → shown fs k ≡ true → 0 < lookup fs k 0
chain_positive cs f (ends p) k e = absurd (false≢true e)
chain_positive cs f (shows {z = z} {l = l} {x = x} {y = y} {fs = fs} p w ch) k e =
    go (eqb k l) (subst Proper w (f.proper z (known cs z (RowAt l x y) w refl))).1 (λ q. chain_positive cs f ch k q) e
  where
    go : (t : Bool) → 0 < x → (shown fs k ≡ true → 0 < lookup fs k 0) → cond t true (shown fs k) ≡ true → 0 < cond t x (lookup fs k 0)
    go true a b e = a
    go false a b e = b e

pub facing_turn : (cs : List (Cell ℕ)) (a b : Side) → Facing cs a b → Facing cs b a
facing_turn cs a b f = record { fine = f.fine; left = f.right; right = f.left; lacked = f.lacked; left_sort = f.right_sort; right_sort = f.left_sort }

pub covered_turn : (cs : List (Cell ℕ)) (a b : Side) (n : ℕ) → Covered cs a b n → Covered cs b a n
covered_turn cs a b n h k kl = ((h k kl).1, (h k kl).0)

pub widens_turn : (cs : List (Cell ℕ)) (a b : Side) (ds : List (Cell ℕ)) (s t : Side) → Widens cs a b ds s t → Widens cs b a ds t s
widens_turn cs a b ds s t w = record
    { wide = widened_turn cs a.root b.root ds w.wide; facing = facing_turn ds s t w.facing; left_root = w.right_root; right_root = w.left_root }

pub widens_none : (cs : List (Cell ℕ)) (a b : Side) → Facing cs a b → Widens cs a b cs a b
widens_none cs a b f = record { wide = widened_none cs a.root b.root f.fine.formed; facing = f; left_root = refl; right_root = refl }

widened_both : (cs : List (Cell ℕ)) (a b : ℕ) (es ds : List (Cell ℕ)) → a < length cs → b < length cs → Widened cs a b es → Widened es a b ds → Widened cs a b ds
widened_both cs a b es ds al bl w u = record {
  formed = u.formed;
  stays = λ i k e p. u.stays i k (w.stays i k e p) p;
  sorts = λ i il. u.sorts i (omega (arith, w.cells, il)) ∙ w.sorts i il;
  times = w.times + u.times;
  cells = omega (arith, w.cells, u.cells);
  trees = omega (arith, w.trees, u.trees);
  paid = u.paid ∙ w.paid;
  grow = λ v. u.grow (w.grow v);
  agree = λ v i il. u.agree (w.grow v) i (omega (arith, w.cells, il)) ∙ w.agree v i il;
  down = λ d v h e. u.down d (w.grow v) (w.down d v h e) (ap (cut (suc d)) (w.agree v a al) ∙ e ∙ sym (ap (cut (suc d)) (w.agree v b bl)));
  up = λ f v h. w.up f v (u.up f v h);
  fixed = λ v x p q e. u.fixed v x p q (w.fixed v x (u.up same v p) (u.up same x q) e);
}

pub widens_more : (cs : List (Cell ℕ)) (a b : Side) (es : List (Cell ℕ)) (p q : Side) (ds : List (Cell ℕ)) (s t : Side) → Facing cs a b → Widens cs a b es p q → Widens es p q ds s t → Widens cs a b ds s t
widens_more cs a b es p q ds s t f w u = record {
  wide =
      widened_both cs a.root b.root es ds (row_known cs a.root f.lacked f.left_sort) (row_known cs b.root f.lacked f.right_sort) w.wide
      (subst (λ (i : ℕ). Widened es i b.root ds) w.left_root (subst (λ (j : ℕ). Widened es p.root j ds) w.right_root u.wide));
  facing = u.facing;
  left_root = u.left_root ∙ w.left_root;
  right_root = u.right_root ∙ w.right_root;
}

-- b lacks the label l, which a shows with x
module _ (cs : List (Cell ℕ)) (a b : Side) (l x : ℕ) (f : Facing cs a b) (small : l < 24) (ea : get_or a.fields l None ≡ Some x) (eb : get_or b.fields l None ≡ None) where
  abbrev fs : List Shown
  fs = f.left.shows

  abbrev gs : List Shown
  gs = f.right.shows

  shown_a : shown fs l ≡ true
  shown_a = (found_shown fs l x 0 (sym (f.left.table l small) ∙ ea)).0

  field_a : lookup fs l 0 ≡ x
  field_a = (found_shown fs l x 0 (sym (f.left.table l small) ∙ ea)).1

  hidden_b : shown gs l ≡ false
  hidden_b = (found_hidden gs l 0 (sym (f.right.table l small) ∙ eb)).0

  sort_a : (n : Labels) × (sort_at cs a.tail ≡ OfRow n) × Tail fs f.lacked n
  sort_a = chain_sort cs f.lacked f.fine.formed f.left.chain f.left_sort

  pub sort_b : (n : Labels) × (sort_at cs b.tail ≡ OfRow n) × Tail gs f.lacked n
  sort_b = chain_sort cs f.lacked f.fine.formed f.right.chain f.right_sort

  lacks : (m : Labels) → sort_at cs b.tail ≡ OfRow m → In l m → ⊥
  lacks m s i =
      let q : OfRow m ≡ OfRow sort_b.0 = sym s ∙ sort_b.1 in
      let e : m ≡ sort_b.0 = cc in
      may_add fs gs f.lacked sort_a.0 sort_b.0 l sort_a.2 sort_b.2 shown_a hidden_b (subst (λ (n : Labels). In l n) e i)

  tails_differ : a.tail ≡ b.tail → ⊥
  tails_differ = tails_apart cs fs gs f.lacked sort_a.0 sort_b.0 l a.tail b.tail sort_a.2 sort_b.2 sort_a.1 sort_b.1 shown_a hidden_b

  zl : 0 < length cs
  zl = known cs 0 (Leaf Absent) f.fine.absent refl

  -- the tail is open: it is extended
  module _ (m : Labels) (oo : what_at cs b.tail ≡ Open) (os : sort_at cs b.tail ≡ OfRow m) where
    abbrev o : ℕ
    o = b.tail

    abbrev n : Labels
    n = including m l

    abbrev ds : List (Cell ℕ)
    ds = extended cs o l x n

    abbrev t : Side
    t = showing b l x (suc (length cs))

    adds : Adds m l n
    adds = including_adds m l (lacks m os)

    few : n.0 < 2 ^ 24
    few = put_small 24 l m.0 (subst Small os (f.fine.small o f.right.known)) small (lacks m os)

    al : a.root < length cs
    al = row_known cs a.root f.lacked f.left_sort

    bl : b.root < length cs
    bl = row_known cs b.root f.lacked f.right_sort

    wide_by : Widened cs a.root b.root (extended cs o l (lookup fs l 0) n)
    wide_by =
        widened_more cs a.root b.root cs al bl (widened_none cs a.root b.root f.fine.formed) fs gs a.tail o l 0 m n f.left.chain f.right.chain f.right.known oo os adds small
        zl f.fine.field shown_a hidden_b

    wide : Widened cs a.root b.root ds
    wide = subst (λ (y : ℕ). Widened cs a.root b.root (extended cs o l y n)) field_a wide_by

    xl : x < length cs
    xl = subst (λ (y : ℕ). y < length cs) field_a (Rattle.cells.proofs.Chains.chain_field cs 0 f.fine.formed f.left.chain zl f.fine.field l).0

    positive : 0 < x
    positive = subst (λ (y : ℕ). 0 < y) field_a (chain_positive cs f.fine f.left.chain l shown_a)

    stands : (i : ℕ) → i < length cs → (i ≡ o → ⊥) → what_at ds i ≡ what_at cs i
    stands = what_other cs o l x m n f.right.known xl oo os adds

    left : Tabled ds a
    left = record {
      shows = fs;
      chain = chain_stays cs ds wide.stays f.left.chain;
      table = f.left.table;
      size = f.left.size;
      known = omega (arith, wide.cells, f.left.known);
      ended = subst Ended (sym (stands a.tail f.left.known tails_differ)) f.left.ended;
    }

    right : Tabled ds t
    right = record {
      shows = gs ++ record { label = l; field = x } ∷ [];
      chain = chain_extended cs o l x m n f.right.known xl oo os adds f.right.chain;
      table = table_more gs b.fields l x hidden_b (omega (arith, f.right.size, small)) f.right.table;
      size = length-set b.fields l (Some x) ∙ f.right.size;
      known = omega (arith, length_extended cs o l x m n f.right.known xl oo os adds);
      ended = subst Ended (sym (what_tail cs o l x m n f.right.known xl oo os adds)) tt;
    }

    pub lent_widens : Widens cs a b ds a t
    lent_widens = record {
      wide = wide;
      facing = record {
        fine = fine_extended cs o l x m n f.right.known xl oo os adds f.fine small positive few wide.formed;
        left = left;
        right = right;
        lacked = f.lacked;
        left_sort = wide.sorts a.root al ∙ f.left_sort;
        right_sort = wide.sorts b.root bl ∙ f.right_sort;
      };
      left_root = refl;
      right_root = refl;
    }

    at_l : get_or t.fields l None ≡ Some x
    at_l = get_or-set_same b.fields l (Some x) None (omega (arith, f.right.size, small))

    at_k : (k : ℕ) → (k ≡ l → ⊥) → get_or t.fields k None ≡ get_or b.fields k None
    at_k k q = get_or-set_other b.fields l k (Some x) None q

    open_no_leaf : what_at cs o ≡ Leaf Empty → ⊥
    open_no_leaf e = open_leaf Empty (sym oo ∙ e)

    pub lent_covers : Covered cs a b l → Covered ds a t (suc l)
    lent_covers h k kl =
        ⊎_elim
        (λ (e : k ≡ l). (
          (λ y p q. absurd (some_none x (sym at_l ∙ ap (λ (j : ℕ). get_or t.fields j None) (sym e) ∙ q))),
          (λ y p q. absurd (some_none x (sym ea ∙ ap (λ (j : ℕ). get_or a.fields j None) (sym e) ∙ q))),
        ))
        (λ (e : k ≡ l → ⊥).
        let c = h k (omega (arith, kl, e)) in (
          (λ y p q. absurd (open_no_leaf (c.0 y p (sym (at_k k e) ∙ q)))),
          (λ y p q. wide.stays a.tail (Leaf Empty) (c.1 y (sym (at_k k e) ∙ p) q) refl),
        ))
        (cases_eq k l)

  -- the tail is empty: nothing to do
  pub kept_covers : (what_at cs b.tail ≡ Open → ⊥) → Covered cs a b l → Covered cs a b (suc l)
  kept_covers shut h k kl =
      ⊎_elim
      (λ (e : k ≡ l). (
        (λ y p q. ⊎_elim (λ (w : what_at cs b.tail ≡ Open). absurd (shut w)) (λ (w : what_at cs b.tail ≡ Leaf Empty). w)
            (tail_is cs b.tail sort_b.0 f.fine f.right.known f.right.ended sort_b.1)),
        (λ y p q. absurd (some_none x (sym ea ∙ ap (λ (j : ℕ). get_or a.fields j None) (sym e) ∙ q))),
      ))
      (λ (e : k ≡ l → ⊥). h k (omega (arith, kl, e)))
      (cases_eq k l)

  -- and there is no cell for it only where the cells pass the limit
  pub lent_full : (limit : ℕ) → what_at cs b.tail ≡ Open → limit < length cs + 2 → limit < used cs
  lent_full limit oo h =
      let m = sort_b.0 in
      let s : spare (get_or cs b.tail none) ≡ spare_sort (OfRow (including m l)) + 1 = ap₂ spare_of oo sort_b.1 ∙ spare_adds m (including m l) l (including_adds m l (lacks m sort_b.1)) small in
      omega (arith, spares_one cs b.tail f.right.known, s, h)

  pub lent_shared : (limit : ℕ) (r : Result (Unit {0}) NoRoom) (ds : List (Cell ℕ)) (t : Side) → Lent limit cs b l x r ds t → Shared limit cs a b l r ds a t
  lent_shared limit (Ok _) ds t h =
      ⊎_elim
      (λ (p : (m : Labels) × (what_at cs b.tail ≡ Open) × (sort_at cs b.tail ≡ OfRow m) × (ds ≡ extended cs b.tail l x (including m l)) × (t ≡ showing b l x (suc (length cs)))).
      subst (λ (e : List (Cell ℕ)). Shared limit cs a b l (Ok tt) e a t) (sym p.3)
      (subst (λ (s : Side). Shared limit cs a b l (Ok tt) (extended cs b.tail l x (including p.0 l)) a s) (sym p.4)
      (lent_widens p.0 p.1 p.2, lent_covers p.0 p.1 p.2)))
      (λ (p : (what_at cs b.tail ≡ Open → ⊥) × (ds ≡ cs) × (t ≡ b)).
      subst (λ (e : List (Cell ℕ)). Shared limit cs a b l (Ok tt) e a t) (sym p.1)
      (subst (λ (s : Side). Shared limit cs a b l (Ok tt) cs a s) (sym p.2) (widens_none cs a b f, kept_covers p.0)))
      h
  lent_shared limit (Err _) ds t h = (lent_full limit h.0 h.1, subst (λ (e : List (Cell ℕ)). limit < length e + 2) (sym h.2) h.1)

pub shared_turn : (limit : ℕ) (cs : List (Cell ℕ)) (a b : Side) (l : ℕ) (r : Result (Unit {0}) NoRoom) (ds : List (Cell ℕ)) (s t : Side) → Shared limit cs b a l r ds t s → Shared limit cs a b l r ds s t
shared_turn limit cs a b l (Ok _) ds s t h = (widens_turn cs b a ds t s h.0, λ c. covered_turn ds t s (suc l) (h.1 (covered_turn cs a b l c)))
shared_turn limit cs a b l (Err _) ds s t h = h

-- both rows show the label, or neither
pub shared_same : (limit : ℕ) (cs : List (Cell ℕ)) (a b : Side) (l : ℕ) → Facing cs a b →
    ((x : ℕ) → get_or a.fields l None ≡ Some x → get_or b.fields l None ≡ None → ⊥) → ((x : ℕ) → get_or b.fields l None ≡ Some x → get_or a.fields l None ≡ None → ⊥) → Shared limit cs a b l (Ok tt) cs a b
shared_same limit cs a b l f na nb = (
  widens_none cs a b f,
  λ h k kl.
      ⊎_elim
      (λ (e : k ≡ l). subst (λ (j : ℕ). Lone cs a b j × Lone cs b a j) (sym e) ((λ x p q. absurd (na x p q)), (λ x p q. absurd (nb x p q))))
      (λ (e : k ≡ l → ⊥). h k (omega (arith, kl, e)))
      (cases_eq k l),
)
