-- What an equate below, made under a mark of the layer's own, comes to.
use Rattle.std.proofs.Common.{◌≡◌, ℕ, suc, List, [], ◌∷◌, length, Ok, Err, sym, ap, ◌∙◌}
use Rattle.system.specs.Meaning.{Kind, Valuation, State, Meaning, Sound, Agree, Same, SameState, SameMarks}
use Rattle.system.specs.Follows.{Kept, Dropped}
use Rattle.system.specs.declared.fault.ClassFault.{ClassFault}
use Rattle.system.proofs.Same.{marks_then, marks_length}
use Rattle.classes.specs.declared.entry.Entry.{Entry}
use Rattle.classes.specs.Layered.{Meets, layered, InOrder}
use Rattle.classes.specs.Following.{Followed}
use Rattle.classes.specs.Told.{Narrowed}
use Rattle.classes.specs.Sounding.{meets_agree}
use Rattle.classes.specs.Keeping.{followed_meets, followed_order, followed_voids}
use Rattle.classes.specs.Lifting.{marks_lift, followables_more}

agree_same : (s t : State) (v w : Valuation) → SameState s t → Agree t v w → Agree s v w
agree_same s t v w p a c k = a c (k.0, sym (p.sorts c) ∙ k.1)

-- the state that was narrowed is the same before
pub narrowed : (s : State) (m n : Meaning) (P : Valuation → Type 0) → SameState s m.state → Kept m P n → Narrowed s P n.state
narrowed s m n P p k = record {
  old = λ c o e. k.old c o (sym (p.sorts c) ∙ e);
  onto = λ v h. let q = k.onto v h in (p.backward v q.0, q.1);
  from = λ v h x. let q = k.from v (p.onward v h) x in (q.0, agree_same s m.state v q.0 p q.1, q.2);
}

module _ (K : Kind) (P : Valuation → Type 0) (s : State) (u : Meaning) (es : List Entry) (sound : Sound K u) (order : InOrder s es) (narrow : Narrowed s P u.state) where
  -- the entries followed after it, and what then meets them
  pub narrowed_order : (fs : List Entry) → Followed u es [] (Ok fs) → InOrder u.state fs
  narrowed_order fs h = followed_order K u sound es [] fs (followables_more s u.state es narrow.old order) tt h

  pub narrowed_onto : (fs : List Entry) (v : Valuation) → Followed u es [] (Ok fs) → u.state.solves v → Meets fs v → Meets es v
  narrowed_onto fs v h p m = ((followed_meets K u sound es [] fs v (followables_more s u.state es narrow.old order) p h).1 m).0

  pub narrowed_from : (fs : List Entry) (v : Valuation) → Followed u es [] (Ok fs) → s.solves v → Meets es v → P v → (w : Valuation) × Agree s v w × u.state.solves w × Meets fs w
  narrowed_from fs v h p m x =
      let q = narrow.from v p x in
      (q.0, q.1, q.2, (followed_meets K u sound es [] fs q.0 (followables_more s u.state es narrow.old order) q.2 h).0 (meets_agree s es v q.0 order q.1 m) tt)

  pub narrowed_voids : (z : ClassFault) (v : Valuation) → Followed u es [] (Err z) → s.solves v → Meets es v → P v → ⊥
  narrowed_voids z v h p m x =
      let q = narrow.from v p x in
      followed_voids K u sound es [] z q.0 (followables_more s u.state es narrow.old order) tt q.2 h (meets_agree s es v q.0 order q.1 m) tt

-- what was kept below is kept in the layer
pub kept_lift :
    (K : Kind) (m n u : Meaning) (P : Valuation → Type 0) (es fs : List Entry) (ts : List (List Entry)) → Sound K u → InOrder m.state es → Kept m P n → Narrowed m.state P u.state → SameState u.state n.state
    → Followed u es [] (Ok fs) → Kept (layered m es ts) P (layered n fs ts)
kept_lift K m n u P es fs ts sound order k narrow p h = record {
  capacity = k.capacity;
  marks = marks_lift m.marks n.marks ts k.marks;
  count = k.count;
  old = k.old;
  onto = λ v q. let r = k.onto v q.0 in ((r.0, narrowed_onto K P m.state u es sound order narrow fs v h (p.backward v q.0) q.1), r.1);
  from = λ v q x. let r = narrowed_from K P m.state u es sound order narrow fs v h q.0 q.1 x in (r.0, r.1, (p.onward r.0 r.2, r.3));
  fixed = λ v w q r a. k.fixed v w q.0 r.0 a;
}

-- marks: one made, one dropped, one taken back
pub drop_marks : (s : State) (ss rs us : List State) → SameMarks (s ∷ ss) rs → Dropped rs us → SameMarks ss us
drop_marks s ss [] us p d = absurd p
drop_marks s ss (r ∷ rs) us p d = marks_then ss rs us p.1 d

-- what was kept between a mark and its keep is kept
pub kept_through :
    (m0 m1 m2 m3 : Meaning) (P : Valuation → Type 0) → m1.capacity ≡ m0.capacity → SameState m0.state m1.state → SameMarks (m0.state ∷ m0.marks) m1.marks → Kept m1 P m2
    → m3.capacity ≡ m2.capacity → SameState m2.state m3.state → Dropped m2.marks m3.marks → Kept m0 P m3
kept_through m0 m1 m2 m3 P c p q k d r e = record {
  capacity = d ∙ k.capacity ∙ c;
  marks = drop_marks m0.state m0.marks m2.marks m3.marks (marks_then (m0.state ∷ m0.marks) m1.marks m2.marks q k.marks) e;
  count = sym r.count ∙ k.count ∙ sym p.count;
  old = λ x o i. sym (r.sorts x) ∙ k.old x o (sym (p.sorts x) ∙ i);
  onto = λ v h. let y = k.onto v (r.backward v h) in (p.backward v y.0, y.1);
  from = λ v h x. let y = k.from v (p.onward v h) x in (y.0, agree_same m0.state m1.state v y.0 p y.1, r.onward y.0 y.2);
  fixed = λ v w a b g.
      let y = k.fixed v w (r.backward v a) (r.backward w b) (λ x j. g x (j.0, p.sorts x ∙ j.1)) in
      λ x j. y x (j.0, r.sorts x ∙ j.1);
}

-- what was done between a mark and its back is undone
pub restored :
    (m0 m1 m2 m3 : Meaning) → m1.capacity ≡ m0.capacity → SameMarks (m0.state ∷ m0.marks) m1.marks → m2.capacity ≡ m1.capacity → SameMarks m1.marks m2.marks
    → m3.capacity ≡ m2.capacity → SameMarks m2.marks (m3.state ∷ m3.marks) → Same m0 m3
restored m0 m1 m2 m3 c p d q e r =
    let all : SameMarks (m0.state ∷ m0.marks) (m3.state ∷ m3.marks) =
    marks_then (m0.state ∷ m0.marks) m2.marks (m3.state ∷ m3.marks) (marks_then (m0.state ∷ m0.marks) m1.marks m2.marks p q) r in
    record { capacity = sym (e ∙ d ∙ c); state = all.0; marks = all.1 }

pub newest : (s : State) (ss rs us : List State) (d : ℕ) → SameMarks (s ∷ ss) rs → SameMarks rs us → d ≡ length ss → suc d ≡ length us
newest s ss rs us d p q e = ap suc e ∙ marks_length (s ∷ ss) rs p ∙ marks_length rs us q
