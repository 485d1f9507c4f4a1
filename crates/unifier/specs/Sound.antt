-- Cells in order mean what every system means.
use Rattle.std.specs.Prelude.{◌≡◌, ℕ, zero, suc, ◌+◌, ◌/◌, ◌%◌, ◌^◌, ◌<◌, ◌≤◌, Bool, true, false, cond, List, length, nat_lt, refl}
use Rattle.std.proofs.Common.{sym, ◌∙◌, ap, subst, inl, arith}
use Rattle.std.proofs.Math.Nat.{zero-div, zero-mod}
use Rattle.std.proofs.lemmas.Bool.{lt-ltb, ltb-true}
use Rattle.ground.specs.Values.{Value, of_type, of_field, of_row}
use Rattle.ground.specs.Sorts.{Of}
use Rattle.ground.specs.Classes.{Asked, Allowed}
use Rattle.ground.specs.declared.sort.Sort.{Sort}
use Rattle.ground.specs.declared.classes.Classes.{Classes}
use Rattle.system.specs.Meaning.{Valuation, Agree, Fitting, Chosen, Sound, knows_sort}
use Rattle.system.specs.Replies.{kind_of}
use Rattle.cells.specs.declared.What.{What}
use Rattle.cells.specs.declared.What.TheVariants.{Open, Link, Leaf, One, Two, Row as RowAt}
use Rattle.cells.specs.declared.Cell.{Cell}
use Rattle.cells.specs.Cells.{what_at, sort_at, Holds, Formed}
use Rattle.cells.specs.Weights.{same}
use Rattle.cells.proofs.Chains.{known}
use Rattle.cells.proofs.Cyclic.{plain, plain_of}
use Rattle.cells.proofs.Freely.{solved, solves, solves_open, only}
use Rattle.unifier.specs.declared.undo.Undo.{Undo}
use Rattle.unifier.specs.declared.saved.Saved.{Saved}
use Rattle.unifier.specs.Fine.{Fine}
use Rattle.unifier.specs.States.{seated, unclassed, opens, state_of, meaning_of, Sane, Good}
use Rattle.unifier.specs.Labels.{labels_few}
use Rattle.unifier.specs.Codes.{known_code, code_known, seat, seat_same, holds_same, open_listed, listed_open, opens_once, opens_most, kinds_apart}
use Rattle.cells.specs.declared.Bare.TheVariants.{Absent}

-- no class is in the empty set
not_asked : (k : ℕ) → Asked k unclassed → ⊥
not_asked k e =
    let p : (0 / 2 ^ k) % 2 ≡ 0 = ap (λ (x : ℕ). x % 2) (zero-div (2 ^ k)) ∙ zero-mod 2 in
    let y : ⊥ = omega (arith, p, e) in y

allowed_all : (v : Value) → Allowed unclassed v
allowed_all (of_type t) = λ k e. absurd (not_asked k e)
allowed_all (of_field f) = λ k e. not_asked k e
allowed_all (of_row r) = λ k e. not_asked k e

-- the owned cell comes first
pub owned : (cs : List (Cell ℕ)) → Fine cs → 0 < length cs
owned cs f = known cs 0 (Leaf Absent) f.absent refl

pub open_code : (cs : List (Cell ℕ)) → Fine cs → (c : ℕ) → what_at cs c ≡ Open → 0 < c
open_code cs f zero e = absurd (kinds_apart (Leaf Absent) Open (λ q. let z : ⊥ = omega (arith, q) in z) (sym f.absent ∙ e))
open_code cs f (suc c) e = omega arith

-- the value chosen for an open cell, and some value for each other
abbrev pick : Valuation → List (Cell ℕ) → ℕ → What ℕ → Value
pick a cs i Open = a i
pick a cs i (Link p) = plain (sort_at cs i)
pick a cs i (Leaf h) = plain (sort_at cs i)
pick a cs i (One h x) = plain (sort_at cs i)
pick a cs i (Two x y) = plain (sort_at cs i)
pick a cs i (RowAt l x y) = plain (sort_at cs i)

abbrev picked : Valuation → List (Cell ℕ) → Valuation
picked a cs i = cond (nat_lt i (length cs)) (pick a cs i (what_at cs i)) (plain (sort_at cs i))

pick_of : (a : Valuation) (cs : List (Cell ℕ)) (i : ℕ) (w : What ℕ) → (w ≡ Open → Of (sort_at cs i) (a i)) → Of (sort_at cs i) (pick a cs i w)
pick_of a cs i Open h = h refl
pick_of a cs i (Link p) h = plain_of (sort_at cs i)
pick_of a cs i (Leaf k) h = plain_of (sort_at cs i)
pick_of a cs i (One k x) h = plain_of (sort_at cs i)
pick_of a cs i (Two x y) h = plain_of (sort_at cs i)
pick_of a cs i (RowAt l x y) h = plain_of (sort_at cs i)

-- any values of the open codes give a solution
module _ (h n : ℕ) (cs : List (Cell ℕ)) (tr : List Undo) (sane : Sane h n cs tr) where
  agreed : (v w : Valuation) → Agree (state_of n cs) v w → (i : ℕ) → i < length cs → seated w i ≡ seated v i
  agreed v w a = seat_same (length cs) v w (λ c p l. sym (a c (sort_at cs c, code_known cs c p l)))

  module _ (a : Valuation) (fit : Fitting (state_of n cs) a) where
    picked_of : (i : ℕ) → Of (sort_at cs i) (picked a cs i)
    picked_of i = go (nat_lt i (length cs)) refl
      where
        go : (t : Bool) → nat_lt i (length cs) ≡ t → Of (sort_at cs i) (cond t (pick a cs i (what_at cs i)) (plain (sort_at cs i)))
        go true e =
            let l = ltb-true i (length cs) e in
            pick_of a cs i (what_at cs i) (λ o. (fit i unclassed (sort_at cs i) (listed_open cs (length cs) i l o) (code_known cs i (open_code cs sane.fine i o) l)).0)
        go false e = plain_of (sort_at cs i)

    abbrev chosen : Valuation
    chosen = solved (picked a cs) cs sane.order sane.falls sane.fine.formed picked_of (labels_few cs sane.fine)

    chosen_holds : Holds same cs chosen
    chosen_holds = solves (picked a cs) cs sane.order sane.falls sane.fine.formed picked_of (labels_few cs sane.fine)

    chosen_seated : (i : ℕ) → i < length cs → seated chosen i ≡ chosen i
    chosen_seated zero l = sym (subst (λ (w : What ℕ). Rattle.cells.specs.Cells.Says same chosen 0 w) sane.fine.absent (chosen_holds 0 l).0)
    chosen_seated (suc i) l = refl

    chosen_solves : (state_of n cs).solves chosen
    chosen_solves = holds_same cs chosen (seated chosen) sane.fine.formed chosen_seated chosen_holds

    picked_open : (i : ℕ) → i < length cs → what_at cs i ≡ Open → picked a cs i ≡ a i
    picked_open i l e = ap (λ (t : Bool). cond t (pick a cs i (what_at cs i)) (plain (sort_at cs i))) (lt-ltb i (length cs) l) ∙ ap (pick a cs i) e

    chosen_open : Chosen (state_of n cs) chosen a
    chosen_open c k l =
        let r = open_listed cs (length cs) c k l in
        solves_open (picked a cs) cs sane.order sane.falls sane.fine.formed picked_of (labels_few cs sane.fine) c r.1 ∙ picked_open c r.0 r.1

  -- values of their sorts for open codes
  plain_fits : Fitting (state_of n cs) (λ c. plain (sort_at cs c))
  plain_fits c k o l e =
      let r = known_code cs c o e in (
        subst (λ (s : Sort). Of s (plain (sort_at cs c))) r.2 (plain_of (sort_at cs c)),
        subst (λ (i : Classes). Allowed i (plain (sort_at cs c))) (sym (open_listed cs (length cs) c k l).2) (allowed_all (plain (sort_at cs c))),
      )

pub sound : (h z n : ℕ) (cs : List (Cell ℕ)) (tr : List Undo) (ss : List Saved) → Good h z n cs tr ss → Sound (kind_of h 0) (meaning_of z n cs tr ss)
sound h z n cs tr ss good =
    let sane = good.sane in
    let fine = sane.fine in
    let lc = owned cs fine in
    record {
      heads = good.heads;
      classes = inl refl;
      sorts = λ c o e. let r = known_code cs c o e in subst (λ (s : Sort). knows_sort (kind_of h 0) s ≡ true) r.2 (sane.sorts c r.0 r.1);
      least = good.least;
      most = good.most;
      counted = omega (arith, sane.each, good.cells);
      opened = few (length cs) refl lc good.cells;
      once = opens_once cs (length cs);
      known = λ c k l. let r = open_listed cs (length cs) c k l in (sort_at cs c, code_known cs c (open_code cs fine c r.1) r.0);
      classless = λ e c k l. ap (λ (s : Classes). s.0) (open_listed cs (length cs) c k l).2;
      blind = λ v w s a. holds_same cs (seated v) (seated w) fine.formed (agreed h n cs tr sane v w a) s;
      sorted = λ v s c o e. let r = known_code cs c o e in in_sort v s c o r;
      fitting = λ v s c k o l e.
          let r = known_code cs c o e in (
            in_sort v s c o r,
            subst (λ (i : Classes). Allowed i (v c)) (sym (open_listed cs (length cs) c k l).2) (allowed_all (v c)),
          );
      free = λ a f. (chosen h n cs tr sane a f, chosen_solves h n cs tr sane a f, chosen_open h n cs tr sane a f);
      one = λ v w s t f c k.
          let r = known_code cs c k.0 k.1 in
          sym (seat v c r.0)
          ∙ only cs sane.order sane.falls fine.formed (seated v) (seated w) s t
          (λ i il e. let p = open_code cs fine i e in seat v i p ∙ f i unclassed (listed_open cs (length cs) i il e) ∙ sym (seat w i p)) c r.1
          ∙ seat w c r.0;
      some = (chosen h n cs tr sane (λ c. plain (sort_at cs c)) (plain_fits h n cs tr sane), chosen_solves h n cs tr sane (λ c. plain (sort_at cs c)) (plain_fits h n cs tr sane));
    }
  where
    in_sort : (v : Valuation) → Holds same cs (seated v) → (c : ℕ) (o : Sort) → (0 < c) × (c < length cs) × (sort_at cs c ≡ o) → Of o (v c)
    in_sort v s c o r = subst (λ (x : Value). Of o x) (seat v c r.0) (subst (λ (k : Sort). Of k (seated v c)) r.2 (s c r.1).1)

    few : (m : ℕ) → length cs ≡ m → 0 < m → m ≤ z + 1 → length (opens cs m) ≤ z
    few zero e p l = absurd (let y : ⊥ = omega arith in y)
    few (suc m) e p l = omega (arith, opens_most cs m Absent good.sane.fine.absent, l)
