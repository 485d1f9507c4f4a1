-- Marks of the layer: those below, with the entries at their making.
use Rattle.std.proofs.Common.{◌≡◌, ℕ, suc, ◌+◌, ◌-◌, ◌<◌, ◌≤◌, Bool, true, false, List, [], ◌∷◌, ◌++◌, reverse, length, get_or, take, Some, None, Option, sym, refl, ap, ◌∙◌, subst, arith, eqb-true, vec_items}
use Rattle.std.proofs.Math.Seq.{take-length}
use Rattle.std.proofs.lemmas.List.{reverse-append, length-reverse, take_more}
use Rattle.std.specs.Option.{IsSome, option_to_list}
use Rattle.ground.proofs.Built.{no_way}
use Rattle.system.specs.Meaning.{State, SameMarks, Same}
use Rattle.system.specs.Requests.{Request, mark, keep, back, Reply, token, done, fault, fits}
use Rattle.system.specs.Follows.{Follows, Dropped}
use Rattle.system.specs.Replies.{kind_of}
use Rattle.system.proofs.Same.{same_same}
use Rattle.classes.specs.declared.entry.Entry.{Entry}
use Rattle.classes.specs.Layered.{layered, layered_marks, MarksInOrder}
use Rattle.classes.proofs.Answering.{classless, done_fits}
use Rattle.classes.specs.Lifting.{state_lift, marks_lift, same_lift, order_same, orders_same, orders_length, layered_length, fits_keep, fits_back}
use Rattle.classes.proofs.Adding.{standing_same}
use Rattle.ground.specs.declared.refusal.Refusal.{Ghosts as Numbers}
use Rattle.system.specs.declared.system.System.{Ghosts}
use Rattle.classes.specs.declared.layer.Layer.{Layer}
use Rattle.classes.specs.Layers.{sure as Sure}
use Rattle.classes.proofs.Laws.{Laws, Serves}

-- what was pushed last is the first of the reverse
pub popped : {A : Type 0} (ts us : List A) (x : A) → ts ≡ us ++ x ∷ [] → reverse ts ≡ x ∷ reverse us
popped ts us x e = ap reverse e ∙ reverse-append us (x ∷ [])

-- and there is one where something was pushed
pub pop_some : {A : Type 0} (ts us : List A) (o : Option A) → 0 < length (reverse ts) → (0 < length ts → IsSome o) → ts ≡ us ++ option_to_list o → (x : A) × (o ≡ Some x) × (reverse ts ≡ x ∷ reverse us)
pop_some ts us None h f e = absurd (no_way (f (omega (arith, h, length-reverse ts))))
pop_some ts us (Some x) h f e = (x, refl, popped ts us x e)

-- the last is the first of the reverse, too, where the others were kept
pub newest : {A : Type 0} (ts us : List A) (n : ℕ) (d x : A) → 0 < length (reverse ts) → n ≡ length ts → x ≡ get_or ts (n - 1) d → us ≡ take (n - 1) ts → reverse ts ≡ x ∷ reverse us
newest ts us n d x h l p q =
    let i : n - 1 < length ts = omega (arith, h, l, length-reverse ts) in
    let k : n - 1 + 1 ≡ length ts = omega (arith, i, l) in
    let e : ts ≡ take (n - 1) ts ++ get_or ts (n - 1) d ∷ [] = sym (take-length ts) ∙ ap (λ j. take j ts) (sym k) ∙ take_more ts (n - 1) d i in
    popped ts us x (e ∙ ap (λ y. take (n - 1) ts ++ y ∷ []) (sym p) ∙ ap (λ ys. ys ++ x ∷ []) (sym q))

dropped_lift : (ss rs : List State) (t : List Entry) (us : List (List Entry)) → MarksInOrder ss (t ∷ us) → Dropped ss rs → Dropped (layered_marks ss (t ∷ us)) (layered_marks rs us) × MarksInOrder rs us
dropped_lift [] rs t us o d = absurd d
dropped_lift (s ∷ ss) rs t us o d = (marks_lift ss rs us d, orders_same ss rs us d o.1)

module _ {S F M : Type 0} {D : Ghosts S F M} {N : Numbers F} (L : Laws D) (this : Layer S F M D N) (standing : Sure D.ok D.CLASSES D.meaning this) (t : S) where
  abbrev s : S
  s = this.below

  abbrev es : List Entry
  es = this.table

  abbrev ts : List (List Entry)
  ts = reverse (vec_items this.saved)

  below : (q : Request) (r : Reply) → D.asked s q r t → Follows (kind_of D.HEADS 0) (D.meaning s) q r (D.meaning t)
  below q r a = classless D.HEADS D.CLASSES (D.meaning s) (D.meaning t) q r standing.classless (L.told s t q r a)

  count : length (layered_marks (D.meaning s).marks ts) ≡ length ts
  count = layered_length (D.meaning s).marks ts standing.marks ∙ orders_length (D.meaning s).marks ts standing.marks

  -- mark
  pub mark_full : length ts ≡ 7 → Serves D s es ts mark (fault 23 3) s es ts
  mark_full e = ((λ i. absurd (no_way (sym i)), λ i. (count ∙ e, refl, refl, same_same (layered (D.meaning s) es ts))), standing, tt)

  pub mark_denied : (f l : ℕ) → length ts ≤ 7 → D.asked s mark (fault f l) t → ⊥
  mark_denied f l b a = let p = ((below mark (fault f l) a).1 refl).0 in omega (arith, p, b, orders_length (D.meaning s).marks ts standing.marks)

  pub mark_done : (d : ℕ) → length ts < 7 → D.asked s mark (token d) t → Serves D s es ts mark (token d) t es (es ∷ ts)
  mark_done d b a =
      let p = (below mark (token d) a).1 refl in (
        (
          λ i. absurd (no_way (sym i)),
          λ i. (
            omega (arith, b, count),
            p.1 ∙ sym (layered_length (D.meaning s).marks ts standing.marks),
            p.2,
            state_lift (D.meaning s).state (D.meaning t).state es p.3,
            marks_lift ((D.meaning s).state ∷ (D.meaning s).marks) (D.meaning t).marks (es ∷ ts) p.4,
          ),
        ),
        record {
          below = L.fine s t mark (token d) a;
          classless = standing.classless;
          order = order_same (D.meaning s).state (D.meaning t).state es p.3 standing.order;
          marks = orders_same ((D.meaning s).state ∷ (D.meaning s).marks) (D.meaning t).marks (es ∷ ts) p.4 (standing.order, standing.marks);
          few = omega arith;
        },
        tt,
      )

  -- keep and back, where the mark is not the newest
  refused_at : (q : Request) (f l : ℕ) → (fits (kind_of D.HEADS 0) (D.meaning s) q ≡ false → (fault f l ≡ fault 21 4) × Same (D.meaning s) (D.meaning t)) → (fits (kind_of D.HEADS 0) (D.meaning s) q ≡ true → ⊥) → (b : Bool) → fits (kind_of D.HEADS 0) (D.meaning s) q ≡ b → (fault f l ≡ fault 21 4) × Same (D.meaning s) (D.meaning t)
  refused_at q f l p ne true e = absurd (ne e)
  refused_at q f l p ne false e = p e

  pub keep_denied : (d f l : ℕ) → D.asked s (keep d) (fault f l) t → Serves D s es ts (keep d) (fault f l) t es ts
  keep_denied d f l a =
      let p = below (keep d) (fault f l) a in
      let q = refused_at (keep d) f l p.0 p.1 (fits (kind_of D.HEADS 0) (D.meaning s) (keep d)) refl in (
        (λ i. (q.0, same_lift (D.meaning s) (D.meaning t) es ts q.1), λ i. p.1 (sym (fits_keep D.HEADS (D.meaning s) es ts d standing.marks) ∙ i)),
        standing_same (D.ok s) (D.ok t) D.CLASSES (D.meaning s) (D.meaning t) es ts (L.fine s t (keep d) (fault f l) a) q.1 standing,
        tt,
      )

  pub back_denied : (d f l : ℕ) → D.asked s (back d) (fault f l) t → Serves D s es ts (back d) (fault f l) t es ts
  back_denied d f l a =
      let p = below (back d) (fault f l) a in
      let q = refused_at (back d) f l p.0 p.1 (fits (kind_of D.HEADS 0) (D.meaning s) (back d)) refl in (
        (λ i. (q.0, same_lift (D.meaning s) (D.meaning t) es ts q.1), λ i. p.1 (sym (fits_back D.HEADS (D.meaning s) es ts d standing.marks) ∙ i)),
        standing_same (D.ok s) (D.ok t) D.CLASSES (D.meaning s) (D.meaning t) es ts (L.fine s t (back d) (fault f l) a) q.1 standing,
        tt,
      )

  -- and where it is
  pub keep_some : (d : ℕ) → D.asked s (keep d) done t → 0 < length ts
  keep_some d a =
      let e = eqb-true (suc d) (length (D.meaning s).marks) (done_fits (kind_of D.HEADS 0) (D.meaning s) (D.meaning t) (keep d) (below (keep d) done a)) in
      omega (arith, e, orders_length (D.meaning s).marks ts standing.marks)

  pub back_some : (d : ℕ) → D.asked s (back d) done t → 0 < length ts
  back_some d a =
      let e = eqb-true (suc d) (length (D.meaning s).marks) (done_fits (kind_of D.HEADS 0) (D.meaning s) (D.meaning t) (back d) (below (back d) done a)) in
      omega (arith, e, orders_length (D.meaning s).marks ts standing.marks)

  pub keep_done : (d : ℕ) (x : List Entry) (us : List (List Entry)) → ts ≡ x ∷ us → D.asked s (keep d) done t → Serves D s es ts (keep d) done t es us
  keep_done d x us e a =
      let fit = done_fits (kind_of D.HEADS 0) (D.meaning s) (D.meaning t) (keep d) (below (keep d) done a) in
      let p = (below (keep d) done a).1 fit in
      let q = dropped_lift (D.meaning s).marks (D.meaning t).marks x us (subst (MarksInOrder (D.meaning s).marks) e standing.marks) p.2 in (
        (
          λ i. absurd (no_way (sym i ∙ fits_keep D.HEADS (D.meaning s) es ts d standing.marks ∙ fit)),
          λ i. (p.0, state_lift (D.meaning s).state (D.meaning t).state es p.1, subst (λ (y : List (List Entry)). Dropped (layered_marks (D.meaning s).marks y) (layered_marks (D.meaning t).marks us)) (sym e) q.0),
        ),
        record {
          below = L.fine s t (keep d) done a;
          classless = standing.classless;
          order = order_same (D.meaning s).state (D.meaning t).state es p.1 standing.order;
          marks = q.1;
          few = omega (arith, standing.few, ap length e);
        },
        tt,
      )

  pub back_done : (d : ℕ) (x : List Entry) (us : List (List Entry)) → ts ≡ x ∷ us → D.asked s (back d) done t → Serves D s es ts (back d) done t x us
  back_done d x us e a =
      let fit = done_fits (kind_of D.HEADS 0) (D.meaning s) (D.meaning t) (back d) (below (back d) done a) in
      let p = (below (back d) done a).1 fit in
      let q = orders_same (D.meaning s).marks ((D.meaning t).state ∷ (D.meaning t).marks) (x ∷ us) p.1 (subst (MarksInOrder (D.meaning s).marks) e standing.marks) in (
        (
          λ i. absurd (no_way (sym i ∙ fits_back D.HEADS (D.meaning s) es ts d standing.marks ∙ fit)),
          λ i. (p.0, subst (λ (y : List (List Entry)). SameMarks (layered_marks (D.meaning s).marks y) (layered_marks ((D.meaning t).state ∷ (D.meaning t).marks) (x ∷ us))) (sym e) (marks_lift (D.meaning s).marks ((D.meaning t).state ∷ (D.meaning t).marks) (x ∷ us) p.1)),
        ),
        record { below = L.fine s t (back d) done a; classless = standing.classless; order = q.0; marks = q.1; few = omega (arith, standing.few, ap length e) },
        tt,
      )
