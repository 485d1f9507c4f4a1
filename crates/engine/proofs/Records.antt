-- The record forms: their typing is exact.
use Rattle.std.proofs.Common.{◌≡◌, ℕ, ◌/◌, ◌%◌, ◌^◌, ◌<◌, ◌≤◌, true, eqb, leb, [], ◌∷◌, sym, refl, ap, ◌∙◌, subst, ap₂, arith, lt-ltb, eq-eqb, le-leb}
use mathlib.Core.Option.{some}
use native.Mathlib.Nat.{sub_self}
use lib.Pow.{pow-lt}
use Rattle.ground.specs.Values.{Ty, record_of, Row, end, Field, absent, has, at, put, Value, of_type, of_field, of_row}
use Rattle.ground.specs.Sorts.{Of, In}
use Rattle.ground.specs.Heads.{none_lacked, without}
use Rattle.ground.specs.Forms.{Form, empty_record, extend, select, remove}
use Rattle.ground.specs.Belongs.{Belongs}
use Rattle.ground.specs.declared.place.Place.{Place}
use Rattle.ground.specs.declared.sort.Sort.TheVariants.{«Type» as OfType, Field as OfField, Row as OfRow}
use Rattle.ground.specs.declared.sort.Labels.{Labels}
use Rattle.ground.specs.declared.head.Head.TheVariants.{Record, Absent, Has as HasHead, Empty, Row as RowWith}
use Rattle.ground.proofs.Built.{no_way}
use Rattle.ground.proofs.Rows.{at_put, at_other, row_by, put_back}
use Rattle.ground.proofs.Alone.{alone_has, alone_only}
use Rattle.ground.proofs.Belonging.{belongs_alike}
use Rattle.system.specs.Meaning.{Kind, Meaning, Sound, small}
use Rattle.system.specs.Requests.{Request, fresh, Reply, labelled, holds}
use Rattle.system.specs.Follows.{Follows}
use Rattle.system.proofs.Takes.{fit_build, both_of}
use Rattle.engine.specs.Trees.{env}
use Rattle.engine.specs.Calls.{Calls, ask, alone, make, make1, record_calls, split, typing}
use Rattle.engine.specs.Runs.{Outcome}
use Rattle.engine.proofs.Steps.{begin, Run, Res, after, finish}
use Rattle.engine.proofs.Asks.{ask_fresh, ask_build, ask_equate}
use Rattle.engine.proofs.Typers.{type_inj, row_inj, field_inj, moved, later, equal, Typer}

row_held : (m : Labels) (x : Value) → Of (OfRow m) x → (r : Row) × (x ≡ of_row r) × ((l : ℕ) → In l m → at r l ≡ absent)
row_held m (of_type t) o = absurd o
row_held m (of_field f) o = absurd o
row_held m (of_row r) o = (r, refl, o)

-- The set of one label.
alone_label : (l : ℕ) → l ≤ 23 → labelled RowWith l (alone l) ≡ true
alone_label l h =
    both_of (small (alone l)) (holds (alone l) l) (lt-ltb (2 ^ l) (2 ^ 24) (let p : l < 24 = omega arith in pow-lt p))
    (both_of (leb l 23) (eqb ((2 ^ l / 2 ^ l) % 2) 1) (le-leb l 23 h) (eq-eqb ((2 ^ l / 2 ^ l) % 2) 1 (alone_has l)))

alone_small : (l : ℕ) → l ≤ 23 → small (alone l) ≡ true
alone_small l h = lt-ltb (2 ^ l) (2 ^ 24) (let p : l < 24 = omega arith in pow-lt p)

alone_gone : (l : ℕ) → OfRow (without (alone l) l) ≡ OfRow none_lacked
alone_gone l = let e = sub_self (2 ^ l) in λ i. OfRow (record { 0 = e i })

module _ {S : Type 0} (K : Kind) (meaning : S → Meaning) (asked : S → Request → Reply → S → Type 0) (rank : S → ℕ → ℕ)
    (follows : (s t : S) (q : Request) (r : Reply) → asked s q r t → Follows K (meaning s) q r (meaning t))
    (sound : (s : S) → Sound K (meaning s)) where
  pub on_empty : (p : Place) → Typer K meaning asked rank (empty_record p)
  on_empty p s u E k out pr rd run =
      after meaning asked rank (begin (meaning s) Ty (λ v T. T ≡ record_of end))
      (ask_build K meaning asked rank follows sound (fit_build K (meaning s) Empty 0 0 0 none_lacked (omega arith) refl (λ f. absurd (no_way f)) (λ f. absurd (no_way f))) run)
      (λ h. of_row end) (λ h w sw nw ag mt. refl) λ t r e st r0.
      after meaning asked rank st
      (ask_build K meaning asked rank follows sound (fit_build K (meaning t) Record r 0 0 none_lacked (omega arith) refl (λ f. st.known.0) (λ f. absurd (no_way f))) r0)
      (λ h. of_type (record_of end)) (λ h w sw nw ag mt. (end, mt.0, refl)) λ t1 c e1 st1 r1.
      finish meaning asked rank st1 c (st1.known.0, tt)
      (λ v sv j.
      let b = j.0.ok in
      let q : b.0 ≡ end = row_inj (sym b.1 ∙ j.1.0.is.0 ∙ j.1.0.ok) in
      (record_of end, (j.0.is.0 ∙ b.2 ∙ ap (λ x. of_type (record_of x)) q, tt), refl))
      (λ h w mt. (mt.0 ∙ ap of_type (sym h.ok), tt))
      r1

  -- The record with the field f at l, and the row r elsewhere.
  ask_record : {s u : S} {k : ℕ → Calls} {out : Outcome} (p : Place) (l f r : ℕ) → 10 ≤ K.heads → l ≤ 23
      → (meaning s).state.sort_of f ≡ some OfField → (meaning s).state.sort_of r ≡ some (OfRow (alone l))
      → Run meaning asked rank s (record_calls p l f r k) out u
      → Res meaning asked rank s Ty (λ v T. (φ : Field) × (ρ : Row) × (v f ≡ of_field φ) × (v r ≡ of_row ρ) × (T ≡ record_of (put ρ l φ))) (λ c. (c, OfType) ∷ []) (λ T. of_type T ∷ []) k out u
  ask_record {s} p l f r hd hl sf sr run =
      after meaning asked rank (begin (meaning s) Ty (λ v T. (φ : Field) × (ρ : Row) × (v f ≡ of_field φ) × (v r ≡ of_row ρ) × (T ≡ record_of (put ρ l φ))))
      (ask_build K meaning asked rank follows sound (fit_build K (meaning s) RowWith f r l (alone l) (omega arith) (alone_label l hl) (λ x. sf) (λ x. sr)) run)
      (λ h. of_row (put h.ok.1 l h.ok.0))
      (λ h w sw nw ag mt. (h.ok.0, h.ok.1, sym (ag f (OfField, sf)) ∙ h.ok.2, sym (ag r (OfRow (alone l), sr)) ∙ h.ok.3, refl)) λ t b e st r0.
      after meaning asked rank st
      (ask_build K meaning asked rank follows sound (fit_build K (meaning t) Record b 0 0 none_lacked (omega arith) refl (λ x. st.known.0 ∙ ap some (alone_gone l)) (λ x. absurd (no_way x))) r0)
      (λ h. of_type (record_of (put h.ok.1 l h.ok.0))) (λ h w sw nw ag mt. (put h.ok.1 l h.ok.0, mt.0, refl)) λ t1 c e1 st1 r1.
      finish meaning asked rank st1 c (st1.known.0, tt)
      (λ v sv j.
      let b1 = j.0.ok in
      let b0 = j.1.0.ok in
      let q : b1.0 ≡ put b0.1 l b0.0 = row_inj (sym b1.1 ∙ j.1.0.is.0 ∙ b0.4) in
      (record_of (put b0.1 l b0.0), (j.0.is.0 ∙ b1.2 ∙ ap (λ x. of_type (record_of x)) q, tt), (b0.0, b0.1, b0.2, b0.3, refl)))
      (λ h w mt. (mt.0 ∙ ap of_type (sym h.ok.4), tt))
      r1

  -- The record x has the field f at l, and elsewhere a row that lacks l.
  ask_split : {s u : S} {k : ℕ → Calls} {out : Outcome} (p : Place) (x l f : ℕ) → 10 ≤ K.heads → l ≤ 23
      → (meaning s).state.sort_of x ≡ some OfType → (meaning s).state.sort_of f ≡ some OfField
      → Run meaning asked rank s (split p x l f k) out u
      → Res meaning asked rank s Row (λ v ρ. (φ : Field) × (v f ≡ of_field φ) × (at ρ l ≡ absent) × (v x ≡ of_type (record_of (put ρ l φ)))) (λ c. (c, OfRow (alone l)) ∷ []) (λ ρ. of_row ρ ∷ []) k out u
  ask_split {s} p x l f hd hl sx sf run =
      after meaning asked rank (begin (meaning s) Row (λ v ρ. (φ : Field) × (v f ≡ of_field φ) × (at ρ l ≡ absent) × (v x ≡ of_type (record_of (put ρ l φ)))))
      (ask_fresh K meaning asked rank follows sound (both_of (leb 10 K.heads) (small (alone l)) (le-leb 10 K.heads hd) (alone_small l hl)) run)
      (λ h. of_row h.ans) (λ h w sw nw ag mt. λ i y. ap (at h.ans) (alone_only l i y) ∙ h.ok.2) λ t r e st r0.
      after meaning asked rank st (ask_record p l f r hd hl (st.old f OfField sf) st.known.0 r0)
      (λ h. record_of (put h.ans l h.ok.0)) (λ h w sw nw ag mt. (h.ok.0, h.ans, sym (ag f (OfField, sf)) ∙ h.ok.1, mt.0, refl)) λ t1 y e1 st1 r1.
      after meaning asked rank st1 (ask_equate K meaning asked rank follows sound (equal K (meaning t1) x y (st1.old x OfType sx) st1.known.0) r1)
      (λ h. tt) (λ h w sw nw ag mt. sym (ag x (OfType, sx)) ∙ h.ok.3 ∙ sym mt.0) λ t2 z e2 st2 r2.
      finish meaning asked rank st2 r (st2.known.1.0, tt)
      (λ v sv j.
      let D = j.1.0 in
      let G = j.1.1.0 in
      let w = row_held (alone l) (v r) (subst (Of (OfRow (alone l))) (sym G.is.0) G.ok) in
      let q : D.ok.1 ≡ w.0 = row_inj (sym D.ok.3 ∙ w.1) in (
        w.0,
        (w.1, tt),
        (D.ok.0, D.ok.2, w.2 l (alone_has l), j.0.ok ∙ D.is.0 ∙ ap of_type D.ok.4 ∙ ap (λ i. of_type (record_of (put i l D.ok.0))) q),
      ))
      (λ h w mt. (mt.1.0, tt))
      r2

  pub on_extend : (p : Place) (R : Form) (l : ℕ) (A : Form) → Typer K meaning asked rank R → Typer K meaning asked rank A → Typer K meaning asked rank (extend p R l A)
  on_extend p R l A tR tA s u E k out pr rd run =
      after meaning asked rank (begin (meaning s) Ty (λ v T. Belongs (env v E) (extend p R l A) T))
      (tR s u E (λ x. typing A E (λ a. ask p (fresh OfField) (λ f. split p x l f (λ r. make1 p HasHead a (λ h. record_calls p l h r k))))) out pr.2 rd run) (λ h. record_of h.ok.1)
      (λ h w sw nw ag mt. belongs_alike R (env h.val E) (env w E) (moved K E rd h w sw ag) (record_of h.ok.1) h.ok.4) λ t x e st r.
      after meaning asked rank st (tA t u E (λ a. ask p (fresh OfField) (λ f. split p x l f (λ r. make1 p HasHead a (λ h. record_calls p l h r k)))) out pr.3 (later K st E rd) r) (λ h. h.ok.2)
      (λ h w sw nw ag mt. belongs_alike A (env h.val E) (env w E) (moved K E rd h w sw ag) h.ok.2 h.ok.5) λ t1 a e1 st1 r1.
      after meaning asked rank st1 (ask_fresh K meaning asked rank follows sound (le-leb 10 K.heads pr.0) r1) (λ h. of_field (at h.ok.1 l)) (λ h w sw nw ag mt. tt) λ t2 f e2 st2 r2.
      after meaning asked rank st2 (ask_split p x l f pr.0 pr.1 st2.known.1.1.0 st2.known.0 r2) (λ h. put h.ok.1 l absent)
      (λ h w sw nw ag mt. (at h.ok.1 l, mt.0, at_put h.ok.1 l absent, mt.1.1.0 ∙ ap (λ i. of_type (record_of i)) (sym (put_back h.ok.1 l)))) λ t3 b e3 st3 r3.
      after meaning asked rank st3
      (ask_build K meaning asked rank follows sound (fit_build K (meaning t3) HasHead a 0 0 none_lacked (let z = pr.0 in omega arith) refl (λ i. st3.known.1.1.0) (λ i. absurd (no_way i))) r3)
      (λ h. of_field (has h.ok.2)) (λ h w sw nw ag mt. (h.ok.2, mt.1.1.0, refl)) λ t4 g e4 st4 r4.
      after meaning asked rank st4 (ask_record p l g b pr.0 pr.1 st4.known.0 st4.known.1.0 r4) (λ h. record_of (put (put h.ok.1 l absent) l (has h.ok.2)))
      (λ h w sw nw ag mt. (has h.ok.2, put h.ok.1 l absent, mt.0, mt.1.0, refl)) λ t5 c e5 st5 r5.
      finish meaning asked rank st5 c (st5.known.0, tt)
      (λ v sv j.
      let C = j.0 in
      let G = j.1.0 in
      let D = j.1.1.0 in
      let X = j.1.1.1.1.0 in
      let Y = j.1.1.1.1.1.0 in
      let ρ = D.ans in
      let qr : C.ok.1 ≡ ρ = row_inj (sym C.ok.3 ∙ D.is.0) in
      let qg : C.ok.0 ≡ has G.ok.0 = field_inj (sym C.ok.2 ∙ G.is.0 ∙ G.ok.2) in
      let qa : G.ok.0 ≡ X.ans = type_inj (sym G.ok.1 ∙ X.is.0) in
      let qy : Y.ans ≡ record_of (put ρ l D.ok.0) = type_inj (sym Y.is.0 ∙ D.ok.3) in (
        record_of (put ρ l (has X.ans)),
        (C.is.0 ∙ ap of_type C.ok.4 ∙ ap₂ (λ i n. of_type (record_of (put i l n))) qr (qg ∙ ap has qa), tt),
        (
          put ρ l (has X.ans),
          put ρ l D.ok.0,
          X.ans,
          refl,
          subst (Belongs (env v E) R) qy Y.ok,
          X.ok,
          at_put ρ l (has X.ans),
          λ i d. at_other ρ l i (has X.ans) d ∙ sym (at_other ρ l i D.ok.0 d),
        ),
      ))
      (λ h w mt.
      let q = h.ok.0 in
      let r = h.ok.1 in
      let o : put (put r l absent) l (has h.ok.2) ≡ q =
      row_by l (put (put r l absent) l (has h.ok.2)) q (at_put (put r l absent) l (has h.ok.2) ∙ sym h.ok.6)
      (λ i d. at_other (put r l absent) l i (has h.ok.2) d ∙ at_other r l i absent d ∙ sym (h.ok.7 i d)) in
      (mt.0 ∙ ap (λ i. of_type (record_of i)) o ∙ ap of_type (sym h.ok.3), tt))
      r5

  pub on_select : (p : Place) (R : Form) (l : ℕ) → Typer K meaning asked rank R → Typer K meaning asked rank (select p R l)
  on_select p R l tR s u E k out pr rd run =
      after meaning asked rank (begin (meaning s) Ty (λ v T. Belongs (env v E) (select p R l) T))
      (tR s u E (λ x. ask p (fresh OfType) (λ t. make1 p HasHead t (λ h. split p x l h (λ r. k t)))) out pr.2 rd run) (λ h. record_of h.ok.0)
      (λ h w sw nw ag mt. belongs_alike R (env h.val E) (env w E) (moved K E rd h w sw ag) (record_of h.ok.0) h.ok.1) λ t x e st r.
      after meaning asked rank st (ask_fresh K meaning asked rank follows sound refl r) (λ h. of_type h.ans) (λ h w sw nw ag mt. tt) λ t1 a e1 st1 r1.
      after meaning asked rank st1
      (ask_build K meaning asked rank follows sound (fit_build K (meaning t1) HasHead a 0 0 none_lacked (let z = pr.0 in omega arith) refl (λ i. st1.known.0) (λ i. absurd (no_way i))) r1)
      (λ h. of_field (has h.ans)) (λ h w sw nw ag mt. (h.ans, mt.0, refl)) λ t2 f e2 st2 r2.
      after meaning asked rank st2 (ask_split p x l f pr.0 pr.1 st2.known.1.1.0 st2.known.0 r2) (λ h. put h.ok.0 l absent)
      (λ h w sw nw ag mt. (at h.ok.0 l, mt.0 ∙ ap of_field (sym h.ok.2), at_put h.ok.0 l absent, mt.1.1.0 ∙ ap (λ i. of_type (record_of i)) (sym (put_back h.ok.0 l)))) λ t3 b e3 st3 r3.
      finish meaning asked rank st3 a (st3.known.1.1.0, tt)
      (λ v sv j.
      let D = j.0 in
      let G = j.1.0 in
      let Y = j.1.1.1.0 in
      let qg : D.ok.0 ≡ has G.ok.0 = field_inj (sym D.ok.1 ∙ G.is.0 ∙ G.ok.2) in
      let qy : Y.ans ≡ record_of (put D.ans l D.ok.0) = type_inj (sym Y.is.0 ∙ D.ok.3) in
      (G.ok.0, (G.ok.1, tt), (put D.ans l D.ok.0, subst (Belongs (env v E) R) qy Y.ok, at_put D.ans l D.ok.0 ∙ qg)))
      (λ h w mt. (mt.1.1.0, tt))
      r3

  pub on_remove : (p : Place) (R : Form) (l : ℕ) → Typer K meaning asked rank R → Typer K meaning asked rank (remove p R l)
  on_remove p R l tR s u E k out pr rd run =
      after meaning asked rank (begin (meaning s) Ty (λ v T. Belongs (env v E) (remove p R l) T))
      (tR s u E (λ x. ask p (fresh OfField) (λ f. split p x l f (λ r. make p Absent (λ h. record_calls p l h r k)))) out pr.2 rd run) (λ h. record_of h.ok.1)
      (λ h w sw nw ag mt. belongs_alike R (env h.val E) (env w E) (moved K E rd h w sw ag) (record_of h.ok.1) h.ok.3) λ t x e st r.
      after meaning asked rank st (ask_fresh K meaning asked rank follows sound (le-leb 10 K.heads pr.0) r) (λ h. of_field (at h.ok.1 l)) (λ h w sw nw ag mt. tt) λ t2 f e2 st2 r2.
      after meaning asked rank st2 (ask_split p x l f pr.0 pr.1 st2.known.1.0 st2.known.0 r2) (λ h. put h.ok.1 l absent)
      (λ h w sw nw ag mt. (at h.ok.1 l, mt.0, at_put h.ok.1 l absent, mt.1.0 ∙ ap (λ i. of_type (record_of i)) (sym (put_back h.ok.1 l)))) λ t3 b e3 st3 r3.
      after meaning asked rank st3
      (ask_build K meaning asked rank follows sound (fit_build K (meaning t3) Absent 0 0 0 none_lacked (let z = pr.0 in omega arith) refl (λ i. absurd (no_way i)) (λ i. absurd (no_way i))) r3)
      (λ h. of_field absent) (λ h w sw nw ag mt. refl) λ t4 g e4 st4 r4.
      after meaning asked rank st4 (ask_record p l g b pr.0 pr.1 st4.known.0 st4.known.1.0 r4) (λ h. record_of (put (put h.ok.1 l absent) l absent))
      (λ h w sw nw ag mt. (absent, put h.ok.1 l absent, mt.0, mt.1.0, refl)) λ t5 c e5 st5 r5.
      finish meaning asked rank st5 c (st5.known.0, tt)
      (λ v sv j.
      let C = j.0 in
      let G = j.1.0 in
      let D = j.1.1.0 in
      let Y = j.1.1.1.1.0 in
      let ρ = D.ans in
      let qr : C.ok.1 ≡ ρ = row_inj (sym C.ok.3 ∙ D.is.0) in
      let qg : C.ok.0 ≡ absent = field_inj (sym C.ok.2 ∙ G.is.0 ∙ G.ok) in
      let qy : Y.ans ≡ record_of (put ρ l D.ok.0) = type_inj (sym Y.is.0 ∙ D.ok.3) in (
        record_of (put ρ l absent),
        (C.is.0 ∙ ap of_type C.ok.4 ∙ ap₂ (λ i n. of_type (record_of (put i l n))) qr qg, tt),
        (
          put ρ l absent,
          put ρ l D.ok.0,
          refl,
          subst (Belongs (env v E) R) qy Y.ok,
          at_put ρ l absent,
          λ i d. at_other ρ l i absent d ∙ sym (at_other ρ l i D.ok.0 d),
        ),
      ))
      (λ h w mt.
      let q = h.ok.0 in
      let r = h.ok.1 in
      let o : put (put r l absent) l absent ≡ q =
      row_by l (put (put r l absent) l absent) q (at_put (put r l absent) l absent ∙ sym h.ok.4)
      (λ i d. at_other (put r l absent) l i absent d ∙ at_other r l i absent d ∙ sym (h.ok.5 i d)) in
      (mt.0 ∙ ap (λ i. of_type (record_of i)) o ∙ ap of_type (sym h.ok.2), tt))
      r5
