-- The tails of two rows: both wait, or one is made empty.
use Rattle.std.proofs.Common.{◌≡◌, ℕ, ◌<◌, ◌⊎◌, List, [], ◌∷◌, length, set, sym, refl, ap, ◌∙◌, subst, ⊎_elim, arith, length-set}
use Rattle.std.proofs.lemmas.List.{get_or-set_same, get_or-set_other}
use Rattle.std.proofs.lemmas.Bool.{cases_eq}
use Rattle.cells.specs.declared.What.{What}
use Rattle.cells.specs.declared.What.TheVariants.{Open, Leaf}
use Rattle.cells.specs.declared.Cell.{Cell}
use Rattle.cells.specs.declared.Pair.{Pair}
use Rattle.cells.specs.Cells.{none, what_at, rank_at, sort_at, Formed}
use Rattle.cells.specs.Steps.{pair, Stepped}
use Rattle.cells.proofs.Emptying.{empty_stepped, both_empty}
use Rattle.unifier.specs.declared.undo.Undo.{Undo}
use Rattle.unifier.specs.Trails.{Since}
use Rattle.unifier.specs.Fine.{Fine, Proper, Small}
use Rattle.unifier.specs.Turns.{Alike, Left, Tails}
use Rattle.unifier.proofs.Turning.{alike_among, alike_more, turned_none, turned_step, turned_less, stepped_turn}
use Rattle.cells.specs.declared.Bare.TheVariants.{Absent, Empty}

abbrev pub emptied : List (Cell ℕ) → ℕ → List (Cell ℕ)
emptied cs o = set cs o (record { what = Leaf Empty; rank = rank_at cs o; sort = sort_at cs o })

fine_emptied : (cs : List (Cell ℕ)) (o : ℕ) → o < length cs → what_at cs o ≡ Open → Fine cs → Formed (emptied cs o) → (tr ts : List Undo) → Since cs tr (emptied cs o) ts → Fine (emptied cs o)
fine_emptied cs o ol oo f formed tr ts s =
    let ek : Cell ℕ = record { what = Leaf Empty; rank = rank_at cs o; sort = sort_at cs o } in
    let l : (i : ℕ) → i < length (emptied cs o) → i < length cs = λ i il. omega (arith, length-set cs o ek, il) in
    record {
      formed = formed;
      proper = λ i il.
          ⊎_elim
          (λ (e : i ≡ o). subst (λ (j : ℕ). Proper (what_at (emptied cs o) j)) (sym e) (subst Proper (sym (ap (λ (c : Cell ℕ). c.what) (get_or-set_same cs o ek none ol))) tt))
          (λ (q : i ≡ o → ⊥). subst Proper (sym (ap (λ (c : Cell ℕ). c.what) (get_or-set_other cs o i ek none q))) (f.proper i (l i il)))
          (cases_eq i o);
      small = λ i il. subst Small (sym (s.sorts i (l i il))) (f.small i (l i il));
      absent = s.leaves 0 Absent f.absent;
      field = s.sorts 0 (Rattle.cells.proofs.Chains.known cs 0 (Leaf Absent) f.absent refl) ∙ f.field;
    }

module _ (cs : List (Cell ℕ)) (a b : ℕ) (hs : List (Pair ℕ)) (f : Fine cs) (t : Tails cs a b) (am : Alike cs hs) where
  -- both open
  pub tails_wait : (qs : List (Pair ℕ)) → qs ≡ pair a b ∷ hs → what_at cs a ≡ Open → what_at cs b ≡ Open → Left 0 cs (pair a b ∷ hs) cs qs
  tails_wait qs e p q =
      subst (λ (x : List (Pair ℕ)). Left 0 cs (pair a b ∷ hs) cs x) (sym e)
      (record { turned = turned_none cs (pair a b ∷ hs); fine = f; alike = (t.left_known, t.right_known, t.same p q, am) })

  -- a turn that leaves no pair
  left_none : (ds : List (Cell ℕ)) → Fine ds → Stepped cs a b [] ds → ((i : ℕ) → i < length cs → sort_at ds i ≡ sort_at cs i) → Left 0 cs (pair a b ∷ hs) ds hs
  left_none ds g s so = record {
    turned = turned_less cs (pair a b ∷ hs) ds hs (turned_step cs a b [] hs ds t.left_known t.right_known (alike_among cs hs am) s);
    fine = g;
    alike = alike_more cs ds s.more so hs am;
  }

  pub tails_left : (ds : List (Cell ℕ)) (tr ts : List Undo) → ds ≡ emptied cs a → Since cs tr ds ts → what_at cs a ≡ Open → what_at cs b ≡ Leaf Empty → Left 0 cs (pair a b ∷ hs) ds hs
  tails_left ds tr ts e si p q =
      let s = empty_stepped cs a b t.left_row.0 t.left_known t.right_known p t.left_row.1 q f.formed in
      let si2 = subst (λ (x : List (Cell ℕ)). Since cs tr x ts) e si in
      subst (λ (x : List (Cell ℕ)). Left 0 cs (pair a b ∷ hs) x hs) (sym e)
      (left_none (emptied cs a) (fine_emptied cs a t.left_known p f s.formed tr ts si2) s si2.sorts)

  pub tails_right : (ds : List (Cell ℕ)) (tr ts : List Undo) → ds ≡ emptied cs b → Since cs tr ds ts → what_at cs a ≡ Leaf Empty → what_at cs b ≡ Open → Left 0 cs (pair a b ∷ hs) ds hs
  tails_right ds tr ts e si p q =
      let s = empty_stepped cs b a t.right_row.0 t.right_known t.left_known q t.right_row.1 p f.formed in
      let si2 = subst (λ (x : List (Cell ℕ)). Since cs tr x ts) e si in
      subst (λ (x : List (Cell ℕ)). Left 0 cs (pair a b ∷ hs) x hs) (sym e)
      (left_none (emptied cs b) (fine_emptied cs b t.right_known q f s.formed tr ts si2) (stepped_turn cs b a [] (emptied cs b) s) si2.sorts)

  pub tails_none : what_at cs a ≡ Leaf Empty → what_at cs b ≡ Leaf Empty → Left 0 cs (pair a b ∷ hs) cs hs
  tails_none p q = left_none cs f (both_empty cs a b t.left_known t.right_known p q f.formed) (λ i l. refl)

-- not open: empty
pub is_empty : (w : What ℕ) → (w ≡ Open) ⊎ (w ≡ Leaf Empty) → (w ≡ Open → ⊥) → w ≡ Leaf Empty
is_empty w h n = ⊎_elim (λ (e : w ≡ Open). absurd (n e)) (λ (e : w ≡ Leaf Empty). e) h
