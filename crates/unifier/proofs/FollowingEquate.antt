-- Equate on cells is equate on what they mean.
use Rattle.std.proofs.Common.{◌≡◌, ℕ, zero, suc, ◌+◌, ◌^◌, ◌<◌, ◌≤◌, true, ◌⊎◌, List, [], ◌∷◌, reverse, length, Err, sym, refl, ap, ◌∙◌, subst, inl, inr, arith, lt-ltb}
use mathlib.Core.Option.{some}
use Rattle.ground.specs.Values.{Value}
use Rattle.ground.specs.Depths.{Agree as Alike}
use Rattle.ground.specs.declared.sort.Sort.{Sort}
use Rattle.ground.specs.declared.sort.Sort.TheVariants.{«Type» as OfType, Field as OfField, Row as OfRow}
use Rattle.ground.proofs.Built.{no_way}
use Rattle.ground.proofs.Agreeing.{agreeing}
use Rattle.system.specs.Meaning.{Valuation, Meaning, Agree as Agreed, knows_sort}
use Rattle.system.specs.Requests.{equate, done, fault, fits}
use Rattle.system.specs.Follows.{Goes}
use Rattle.system.specs.Replies.{kind_of}
use Rattle.system.specs.Faults.{system_number, system_layer}
use Rattle.system.specs.declared.fault.SystemFault.{SystemFault}
use Rattle.system.specs.declared.fault.SystemFault.TheVariants.{NoClasses, Clash, Cyclic, NoCells, Unknown, TooManyMarks}
use Rattle.system.proofs.Same.{same_same}
use Rattle.system.proofs.Takes.{alike_of}
use Rattle.cells.specs.declared.What.{What}
use Rattle.cells.specs.declared.What.TheVariants.{Open, Link, Leaf, One, Two, Row as RowAt}
use Rattle.cells.specs.declared.Cell.{Cell}
use Rattle.cells.specs.Cells.{none as blank, what_at, sort_at, Holds}
use Rattle.cells.specs.Rooms.{used, spares, spare_of, spare_sort}
use Rattle.cells.specs.Steps.{pair}
use Rattle.cells.specs.Weights.{same}
use Rattle.unifier.specs.declared.undo.Undo.{Undo}
use Rattle.unifier.specs.declared.saved.Saved.{Saved}
use Rattle.unifier.specs.Fine.{Small}
use Rattle.unifier.specs.Trails.{Since}
use Rattle.unifier.specs.Turns.{Left}
use Rattle.unifier.specs.Solutions.{Kept, Means}
use Rattle.unifier.specs.States.{seated, sort_in, state_of, meaning_of, Sane, Good}
use Rattle.unifier.specs.Solvers.{Told}
use Rattle.unifier.specs.Codes.{known_code, code_known, seat, holds_same}
use Rattle.unifier.proofs.Following.{Step}
use Rattle.unifier.proofs.Marking.{nested_along, states_along}
use Rattle.unifier.specs.Sound.{owned}
use Rattle.unifier.proofs.Trailing.{since_room, since_length}

-- where no sort is a row, extensions have nothing to spend
spare_none : (w : What ℕ) (s : Sort) → spare_sort s ≡ 0 → spare_of w s ≡ 0
spare_none Open s e = e
spare_none (Link p) s e = refl
spare_none (Leaf h) s e = refl
spare_none (One h x) s e = refl
spare_none (Two x y) s e = refl
spare_none (RowAt l x y) s e = refl

spares_none : (cs : List (Cell ℕ)) → ((i : ℕ) → i < length cs → spare_sort (sort_at cs i) ≡ 0) → spares cs ≡ 0
spares_none [] h = refl
spares_none (c ∷ cs) h = omega (arith, spare_none c.what c.sort (h 0 (omega arith)), spares_none cs (λ i il. h (suc i) (omega (arith, il))))

type_alone : (s : Sort) → knows_sort (kind_of 5 0) s ≡ true → spare_sort s ≡ 0
type_alone OfType e = refl
type_alone OfField e = refl
type_alone (OfRow m) e = absurd (no_way e)

known_small : (s : Sort) → Small s → knows_sort (kind_of 10 0) s ≡ true
known_small OfType e = refl
known_small OfField e = refl
known_small (OfRow m) e = lt-ltb m.0 (2 ^ 24) e

module _ (h z n : ℕ) (cs : List (Cell ℕ)) (tr : List Undo) (ss : List Saved) (good : Good h z n cs tr ss) where
  -- with five heads there is nothing to extend
  module _ (five : h ≡ 5) where
    none_at : (i : ℕ) → i < length cs → spare_sort (sort_at cs i) ≡ 0
    none_at zero il = ap spare_sort good.sane.fine.field
    none_at (suc i) il = type_alone (sort_at cs (suc i)) (subst (λ (k : ℕ). knows_sort (kind_of k 0) (sort_at cs (suc i)) ≡ true) five (good.sane.sorts (suc i) (omega arith) il))

    pub five_takes_none : (ds : List (Cell ℕ)) → used ds ≤ used cs → length ds ≤ length cs
    five_takes_none ds l = omega (arith, spares_none cs none_at, l)

    pub five_is_enough : (limit : ℕ) → limit < used cs → limit < length cs
    five_is_enough limit l = omega (arith, spares_none cs none_at, l)

module _ (h z n : ℕ) (cs : List (Cell ℕ)) (tr : List Undo) (ss : List Saved) (good : Good h z n cs tr ss) (a b : ℕ) where
  abbrev m : Meaning
  m = meaning_of z n cs tr ss

  abbrev sane : Sane h n cs tr
  sane = good.sane

  module _ (ap' : 0 < a) (al : a < length cs) (bp : 0 < b) (bl : b < length cs) (ss' : sort_at cs a ≡ sort_at cs b) where
    fitting : fits (kind_of h 0) m (equate a b) ≡ true
    fitting = alike_of (sort_in cs a) (sort_in cs b) (sort_at cs a) (code_known cs a ap' al) (code_known cs b bp bl ∙ ap some (sym ss'))

    -- both equal
    module _ (ds : List (Cell ℕ)) (ts : List Undo) (left : Left 0 cs (pair a b ∷ []) ds []) (since : Since cs tr ds ts) (order : ℕ → ℕ) (falls : Rattle.cells.specs.Weights.Falls ds order) (kept : Kept cs a b ds) (room : length ds ≤ z + 1) where
      grown : length cs ≤ length ds
      grown = since_length cs ds tr ts since

      no_more : h ≡ 5 → length ds ≤ length cs
      no_more e = five_takes_none h z n cs tr ss good e ds left.turned.paid

      sorts : (i : ℕ) → 0 < i → i < length ds → knows_sort (kind_of h 0) (sort_at ds i) ≡ true
      sorts i p il = go good.heads
        where
          go : (h ≡ 5) ⊎ (h ≡ 10) → knows_sort (kind_of h 0) (sort_at ds i) ≡ true
          go (inl e) = let l : i < length cs = omega (arith, no_more e, il) in subst (λ (s : Sort). knows_sort (kind_of h 0) s ≡ true) (sym (since.sorts i l)) (sane.sorts i p l)
          go (inr e) = subst (λ (k : ℕ). knows_sort (kind_of k 0) (sort_at ds i) ≡ true) (sym e) (known_small (sort_at ds i) (left.fine.small i il))

      good_after : Good h z n ds ts ss
      good_after = record {
        heads = good.heads;
        least = good.least;
        most = good.most;
        cells = room;
        sane = record {
          fine = left.fine;
          roomy = since_room cs ds tr ts since sane.roomy;
          sorts = sorts;
          order = order;
          falls = falls;
          worth = omega (arith, left.turned.paid, sane.worth);
          each = omega (arith, sane.each, grown);
        };
        marks = nested_along h cs ds tr ts since (reverse ss) good.marks;
        few = good.few;
      }

      -- a valuation that has the owned cell as it is
      seats : (v w : Valuation) → Rattle.cells.specs.Cells.Agree (length cs) (seated v) w → (i : ℕ) → i < length ds → seated w i ≡ w i
      seats v w g zero il = sym (g 0 (owned cs sane.fine))
      seats v w g (suc i) il = refl

      agreed : (v w : Valuation) → Agreed (state_of n cs) v w → (i : ℕ) → i < length cs → seated w i ≡ seated v i
      agreed v w f zero il = refl
      agreed v w f (suc i) il = sym (f (suc i) (sort_at cs (suc i), code_known cs (suc i) (omega arith) il))

      pub equate_done : Step h z n cs tr ss (equate a b) done n ds ts ss
      equate_done = (
        (
          λ u. absurd (no_way (sym u ∙ fitting)),
          λ u. record {
            capacity = refl;
            marks = states_along h cs ds tr ts since (reverse ss) good.marks;
            count = refl;
            old = λ c o e.
                let r = known_code cs c o e in
                code_known ds c r.0 (omega (arith, r.1, grown)) ∙ ap some (since.sorts c r.1 ∙ r.2);
            onto = λ v s. let k = kept.from (seated v) s in (k.0, sym (seat v a ap') ∙ k.1 ∙ seat v b bp);
            from = λ v s e.
                let k = kept.onto (seated v) s (seat v a ap' ∙ e ∙ sym (seat v b bp)) in (
                  k.0,
                  λ c i. (let r = known_code cs c i.0 i.1 in sym (seat v c r.0) ∙ sym (k.1 c r.1)),
                  holds_same ds k.0 (seated k.0) left.fine.formed (seats v k.0 k.1) k.2,
                );
            fixed = λ v w s t f c i.
                let r = known_code ds c i.0 i.1 in
                sym (seat v c r.0) ∙ sym (kept.fixed (seated v) (seated w) s t (agreed v w f) c r.1) ∙ seat w c r.0;
          },
        ),
        good_after,
      )

    -- denied
    denied : (f : SystemFault) → Goes (kind_of h 0) m (equate a b) (fault (system_number f) 4) m → Step h z n cs tr ss (equate a b) (fault (system_number f) 4) n cs tr ss
    denied f g = ((λ u. absurd (no_way (sym u ∙ fitting)), λ u. g), good)

    pub equate_denied : (f : SystemFault) (ds : List (Cell ℕ)) → Means (z + 1) cs a b (Err f) ds → Step h z n cs tr ss (equate a b) (fault (system_number f) (system_layer f)) n cs tr ss × Told m a b f
    equate_denied NoClasses ds k = absurd k
    equate_denied Clash ds k = (
      denied Clash (same_same m, inl (inl (inl refl, refl), λ v s e. k.1 (seated v) s ((agreeing (seated v a) (seated v b)).1 (seat v a ap' ∙ e ∙ sym (seat v b bp)) k.0))),
      (k.0, λ v s e. k.1 (seated v) s (subst (λ (y : Value). Alike k.0 (seated v a) y) (sym (seat v b bp)) (subst (λ (x : Value). Alike k.0 x (v b)) (sym (seat v a ap')) e))),
    )
    equate_denied Cyclic ds k = (
      denied Cyclic (same_same m, inl (inl (inr refl, refl), λ v s e. k.0 (seated v) s (seat v a ap' ∙ e ∙ sym (seat v b bp)))),
      λ d. (let x = k.1 sane.order sane.falls d in near_code d x.0 x.1 x.2),
    )
      where
        near_code : (d : ℕ) (v : Valuation) → Holds same cs v → Alike d (v a) (v b) → (w : Valuation) × Holds same cs (seated w) × Alike d (w a) (w b)
        near_code d v s e = (v, holds_same cs v (seated v) sane.fine.formed seats_of s, e)
          where
            seats_of : (i : ℕ) → i < length cs → seated v i ≡ v i
            seats_of zero il = sym (subst (λ (w : What ℕ). Rattle.cells.specs.Cells.Says same v 0 w) sane.fine.absent (s 0 il).0)
            seats_of (suc i) il = refl
    equate_denied NoCells ds k = (
      denied NoCells (same_same m, inr (inl (refl, refl, let w = k n sane.worth in omega (arith, w)))),
      tt,
    )
    equate_denied Unknown ds k = absurd k
    equate_denied TooManyMarks ds k = absurd k
