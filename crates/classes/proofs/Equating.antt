-- An equate in the layer.
use Rattle.std.proofs.Common.{◌≡◌, ℕ, suc, ◌*◌, ◌<◌, Bool, true, false, ◌⊎◌, List, [], ◌∷◌, length, Ok, Err, Result, sym, refl, ap, ◌∙◌, subst, ap₂, inl, inr, arith, reverse, vec_items}
use mathlib.Core.Option.{Option, some, none}
use Rattle.ground.specs.declared.sort.Sort.{Sort}
use Rattle.ground.proofs.Built.{no_way}
use Rattle.system.specs.Meaning.{Meaning, Sound, Known, Same, SameState, SameMarks}
use Rattle.system.specs.Requests.{Request, equate, mark, keep, back, Reply, token, done, fault, fits, alike}
use Rattle.system.specs.Follows.{Follows, Kept, Void, Clash, Limited, Crowded}
use Rattle.system.specs.Faults.{class_number}
use Rattle.system.specs.Replies.{kind_of, Looks}
use Rattle.system.specs.declared.fault.ClassFault.{ClassFault}
use Rattle.system.specs.declared.fault.ClassFault.TheVariants.{NotInClass, NoMember}
use Rattle.system.proofs.Same.{state_same}
use Rattle.classes.specs.declared.entry.Entry.{Entry}
use Rattle.system.specs.declared.layer_fault.LayerFault.{LayerFault}
use Rattle.system.specs.declared.layer_fault.LayerFault.TheVariants.{Below, Own}
use Rattle.system.specs.Faults.{layer_number, layer_layer}
use Rattle.classes.specs.Layered.{layered, InOrder}
use Rattle.classes.specs.Following.{Followed}
use Rattle.classes.specs.Told.{Narrowed}
use Rattle.classes.specs.Trying.{Tried}
use Rattle.classes.proofs.Answering.{classless, done_fits}
use Rattle.classes.specs.Keeping.{followed_fault}
use Rattle.classes.specs.Lifting.{same_lift, order_same, orders_same}
use Rattle.classes.proofs.Narrowing.{narrowed, narrowed_order, narrowed_voids, kept_lift, kept_through, restored, newest}
use Rattle.classes.proofs.Uncrowded.{uncrowded_equal}
use Rattle.classes.proofs.Adding.{standing_same}
use Rattle.ground.specs.declared.refusal.Refusal.{Ghosts as Numbers}
use Rattle.system.specs.declared.system.System.{Ghosts}
use Rattle.classes.specs.declared.layer.Layer.{Layer}
use Rattle.classes.specs.Layers.{sure as Sure}
use Rattle.classes.proofs.Laws.{Laws, Serves}

known_both : (o p : Option Sort) → alike o p ≡ true → ((k : Sort) × (o ≡ some k)) × ((k : Sort) × (p ≡ some k))
known_both none p e = absurd (no_way e)
known_both (some k) none e = absurd (no_way e)
known_both (some k) (some l) e = ((k, refl), (l, refl))

-- what is refused below is refused in the layer
module _ (h : ℕ) (m0 m1 m2 m3 : Meaning) (es : List Entry) (ts : List (List Entry)) (a b f l : ℕ) (rank : ℕ → ℕ) (sound : Sound (kind_of h 0) m1) (looks : (c : ℕ) → Known m1.state c → Looks rank m1 c)
    (cap : m1.capacity ≡ m0.capacity) (p : SameState m0.state m1.state) (told : Follows (kind_of h 0) m1 (equate a b) (fault f l) m2) where
  fits_before : fits (kind_of h 4) (layered m0 es ts) (equate a b) ≡ fits (kind_of h 0) m1 (equate a b)
  fits_before = ap₂ alike (p.sorts a) (p.sorts b)

  uncrowded : fits (kind_of h 0) m1 (equate a b) ≡ true → Crowded m1 (λ v. v a ≡ v b) → ⊥
  uncrowded e = let k = known_both (m1.state.sort_of a) (m1.state.sort_of b) e in uncrowded_equal h m1 rank sound looks a b k.0 k.1

  clash_lift : Clash (kind_of h 0) f l → Clash (kind_of h 4) f l
  clash_lift (inl q) = inl q
  clash_lift (inr q) = absurd (omega (arith, q.2))

  limit_lift : fits (kind_of h 0) m1 (equate a b) ≡ true → Limited m1 m1.state.count (λ v. v a ≡ v b) f l → Limited (layered m0 es ts) m0.state.count (λ v. v a ≡ v b) f l
  limit_lift e (inl q) =
      inl (q.0, q.1, subst (λ (x : ℕ). x < 49 * m0.state.count) cap (subst (λ (n : ℕ). m1.capacity < 49 * n) (sym p.count) q.2))
  limit_lift e (inr q) = absurd (uncrowded e q.2)

  why : fits (kind_of h 0) m1 (equate a b) ≡ true → (Clash (kind_of h 0) f l × Void m1 (λ v. v a ≡ v b)) ⊎ Limited m1 m1.state.count (λ v. v a ≡ v b) f l
      → (Clash (kind_of h 4) f l × Void (layered m0 es ts) (λ v. v a ≡ v b)) ⊎ Limited (layered m0 es ts) m0.state.count (λ v. v a ≡ v b) f l
  why e (inl q) = inl (clash_lift q.0, λ v s x. q.1 v (p.onward v s.0) x)
  why e (inr q) = inr (limit_lift e q)

  pub passed_lift : Same m0 m3 → Follows (kind_of h 4) (layered m0 es ts) (equate a b) (fault f l) (layered m3 es ts)
  passed_lift same = (
    λ e. ((told.0 (sym fits_before ∙ e)).0, same_lift m0 m3 es ts same),
    λ e. let i = sym fits_before ∙ e in (same_lift m0 m3 es ts same, why i (told.1 i).1),
  )

  layer_at : (i : Bool) → fits (kind_of h 0) m1 (equate a b) ≡ i → l ≡ 4
  layer_at false e = let q : fault f l ≡ fault 21 4 = (told.0 e).0 in cc
  layer_at true e = elim (told.1 e).1 [ inl q ↦ elim q.0 [ inl r ↦ r.1 | inr r ↦ absurd (omega (arith, r.2)) ] | inr q ↦ elim q [ inl r ↦ r.1 | inr r ↦ absurd (uncrowded e r.2) ] ]

  -- by the bottom system
  pub passed_layer : l ≡ 4
  passed_layer = layer_at (fits (kind_of h 0) m1 (equate a b)) refl

  same_at : (i : Bool) → fits (kind_of h 0) m1 (equate a b) ≡ i → Same m1 m2
  same_at false e = (told.0 e).1
  same_at true e = (told.1 e).0

  pub passed_same : Same m1 m2
  passed_same = same_at (fits (kind_of h 0) m1 (equate a b)) refl

module _ {S F M : Type 0} {D : Ghosts S F M} {N : Numbers F} (L : Laws D) (this : Layer S F M D N) (standing : Sure D.ok D.CLASSES D.meaning this) (a b : ℕ) where
  abbrev s : S
  s = this.below

  abbrev es : List Entry
  es = this.table

  abbrev ts : List (List Entry)
  ts = reverse (vec_items this.saved)

  below : (x y : S) (q : Request) (r : Reply) → D.asked x q r y → Follows (kind_of D.HEADS 0) (D.meaning x) q r (D.meaning y)
  below x y q r i = classless D.HEADS D.CLASSES (D.meaning x) (D.meaning y) q r standing.classless (L.told x y q r i)

  sure : (u : S) → D.ok u → Sound (kind_of D.HEADS 0) (D.meaning u)
  sure u o = subst (λ (i : ℕ). Sound (kind_of D.HEADS i) (D.meaning u)) standing.classless (L.sound u o)

  -- without entries, no mark is made
  pub equate_denied : (t : S) (f l : ℕ) → D.asked s (equate a b) (fault f l) t → Serves D s es ts (equate a b) (fault f l) t es ts
  equate_denied t f l i =
      let q = below s t (equate a b) (fault f l) i in
      let looks : (c : ℕ) → Known (D.meaning s).state c → Looks (D.rank s) (D.meaning s) c = λ c k. L.looked s c standing.below k in
      let same = passed_same D.HEADS (D.meaning s) (D.meaning s) (D.meaning t) (D.meaning t) es ts a b f l (D.rank s) (sure s standing.below) looks refl (state_same (D.meaning s).state) q in (
        passed_lift D.HEADS (D.meaning s) (D.meaning s) (D.meaning t) (D.meaning t) es ts a b f l (D.rank s) (sure s standing.below) looks refl (state_same (D.meaning s).state) q same,
        standing_same (D.ok s) (D.ok t) D.CLASSES (D.meaning s) (D.meaning t) es ts (L.fine s t (equate a b) (fault f l) i) same standing,
        λ e. absurd (let y = passed_layer D.HEADS (D.meaning s) (D.meaning s) (D.meaning t) (D.meaning t) es ts a b f l (D.rank s) (sure s standing.below) looks refl (state_same (D.meaning s).state) q in omega (arith, e, y)),
      )

  served : (t u : S) (fs : List Entry) → D.ok t → fits (kind_of D.HEADS 0) (D.meaning s) (equate a b) ≡ true → Sound (kind_of D.HEADS 0) (D.meaning u) → Kept (D.meaning s) (λ v. v a ≡ v b) (D.meaning t) → Narrowed (D.meaning s).state (λ v. v a ≡ v b) (D.meaning u).state
      → SameState (D.meaning u).state (D.meaning t).state → Followed (D.meaning u) es [] (Ok fs) → Serves D s es ts (equate a b) done t fs ts
  served t u fs o fit snd k n p g = (
    (λ e. absurd (no_way (sym e ∙ fit)), λ e. kept_lift (kind_of D.HEADS 0) (D.meaning s) (D.meaning t) (D.meaning u) (λ v. v a ≡ v b) es fs ts snd standing.order k n p g),
    record {
      below = o;
      classless = standing.classless;
      order = order_same (D.meaning u).state (D.meaning t).state fs p (narrowed_order (kind_of D.HEADS 0) (λ v. v a ≡ v b) (D.meaning s).state (D.meaning u) es snd standing.order n fs g);
      marks = orders_same (D.meaning s).marks (D.meaning t).marks ts k.marks standing.marks;
      few = standing.few;
    },
    (u, n, g),
  )

  pub equate_done : (t : S) → es ≡ [] → D.asked s (equate a b) done t → Serves D s es ts (equate a b) done t es ts
  equate_done t e i =
      let q = below s t (equate a b) done i in
      let fit = done_fits (kind_of D.HEADS 0) (D.meaning s) (D.meaning t) (equate a b) q in
      let k = q.1 fit in
      let o = L.fine s t (equate a b) done i in
      let none : Followed (D.meaning t) es [] (Ok es) = subst (λ (xs : List Entry). Followed (D.meaning t) xs [] (Ok xs)) (sym e) refl in
      served t t es o fit (sure t o) k (narrowed (D.meaning s).state (D.meaning s) (D.meaning t) (λ v. v a ≡ v b) (state_same (D.meaning s).state) k) (state_same (D.meaning t).state) none

  -- under a mark of the layer's own: s is marked, s1 is led to s2, and the mark is kept or taken back
  module _ (d : ℕ) (s1 : S) (made : D.asked s mark (token d) s1) where
    at_mark : (d ≡ length (D.meaning s).marks) × ((D.meaning s1).capacity ≡ (D.meaning s).capacity) × SameState (D.meaning s).state (D.meaning s1).state × SameMarks ((D.meaning s).state ∷ (D.meaning s).marks) (D.meaning s1).marks
    at_mark = let p = (below s s1 mark (token d) made).1 refl in (p.1, p.2, p.3, p.4)

    pub marked_order : InOrder (D.meaning s1).state es
    marked_order = order_same (D.meaning s).state (D.meaning s1).state es at_mark.2 standing.order

    ok1 : D.ok s1
    ok1 = L.fine s s1 mark (token d) made

    module _ (s2 : S) where
      fits_at : fits (kind_of D.HEADS 0) (D.meaning s1) (equate a b) ≡ true → fits (kind_of D.HEADS 0) (D.meaning s) (equate a b) ≡ true
      fits_at e = ap₂ alike (at_mark.2.sorts a) (at_mark.2.sorts b) ∙ e

      passed : (f l : ℕ) → Follows (kind_of D.HEADS 0) (D.meaning s1) (equate a b) (fault f l) (D.meaning s2) → Same (D.meaning s1) (D.meaning s2)
      passed f l q = passed_same D.HEADS (D.meaning s) (D.meaning s1) (D.meaning s2) (D.meaning s2) es ts a b f l (D.rank s1) (sure s1 ok1) (λ c k. L.looked s1 c ok1 k) at_mark.1 at_mark.2 q

      tried_same : (r : Result (List Entry) (LayerFault F)) → Tried N.number N.layer D.HEADS (D.meaning s1) a b es r (D.meaning s2) → ((D.meaning s2).capacity ≡ (D.meaning s1).capacity) × SameMarks (D.meaning s1).marks (D.meaning s2).marks
      tried_same (Ok t) q = (q.1.capacity, q.1.marks)
      tried_same (Err (Below e)) q = let x = passed (N.number e) (N.layer e) q in (sym x.capacity, x.marks)
      tried_same (Err (Own f)) q = (q.1.capacity, q.1.marks)

      pub tried_newest : (r : Result (List Entry) (LayerFault F)) → Tried N.number N.layer D.HEADS (D.meaning s1) a b es r (D.meaning s2) → suc d ≡ length (D.meaning s2).marks
      tried_newest r q = newest (D.meaning s).state (D.meaning s).marks (D.meaning s1).marks (D.meaning s2).marks d at_mark.3 (tried_same r q).1 at_mark.0

      pub tried_done : (s3 : S) (t : List Entry) → D.ok s2 → Tried N.number N.layer D.HEADS (D.meaning s1) a b es (Ok t) (D.meaning s2) → D.asked s2 (keep d) done s3 → Serves D s es ts (equate a b) done s3 t ts
      tried_done s3 t o q i =
          let k = below s2 s3 (keep d) done i in
          let p = k.1 (done_fits (kind_of D.HEADS 0) (D.meaning s2) (D.meaning s3) (keep d) k) in
          served s3 s2 t (L.fine s2 s3 (keep d) done i) (fits_at q.0) (sure s2 o)
          (kept_through (D.meaning s) (D.meaning s1) (D.meaning s2) (D.meaning s3) (λ v. v a ≡ v b) at_mark.1 at_mark.2 at_mark.3 q.1 p.0 p.1 p.2)
          (narrowed (D.meaning s).state (D.meaning s1) (D.meaning s2) (λ v. v a ≡ v b) at_mark.2 q.1) p.1 q.2

      undone : (s3 : S) (r : Result (List Entry) (LayerFault F)) → Tried N.number N.layer D.HEADS (D.meaning s1) a b es r (D.meaning s2) → D.asked s2 (back d) done s3 → Same (D.meaning s) (D.meaning s3)
      undone s3 r q i =
          let k = below s2 s3 (back d) done i in
          let p = k.1 (done_fits (kind_of D.HEADS 0) (D.meaning s2) (D.meaning s3) (back d) k) in
          let x = tried_same r q in
          restored (D.meaning s) (D.meaning s1) (D.meaning s2) (D.meaning s3) at_mark.1 at_mark.3 x.0 x.1 p.0 p.1

      clash_of : (f : ClassFault) → (f ≡ NotInClass) ⊎ (f ≡ NoMember) → Clash (kind_of D.HEADS 4) (class_number f) 3
      clash_of f (inl p) = inr (inl (ap class_number p), refl, refl)
      clash_of f (inr p) = inr (inr (ap class_number p), refl, refl)

      pub tried_denied : (s3 : S) (e : LayerFault F) → D.ok s2 → Tried N.number N.layer D.HEADS (D.meaning s1) a b es (Err e) (D.meaning s2) → D.asked s2 (back d) done s3
          → Serves D s es ts (equate a b) (fault (layer_number N.number e) (layer_layer N.layer e)) s3 es ts
      tried_denied s3 (Below e) o q i =
          let same = undone s3 (Err (Below e)) q i in (
            passed_lift D.HEADS (D.meaning s) (D.meaning s1) (D.meaning s2) (D.meaning s3) es ts a b (N.number e) (N.layer e) (D.rank s1) (sure s1 ok1) (λ c k. L.looked s1 c ok1 k) at_mark.1 at_mark.2 q same,
            standing_same (D.ok s) (D.ok s3) D.CLASSES (D.meaning s) (D.meaning s3) es ts (L.fine s2 s3 (back d) done i) same standing,
            λ x. absurd (let y = passed_layer D.HEADS (D.meaning s) (D.meaning s1) (D.meaning s2) (D.meaning s3) es ts a b (N.number e) (N.layer e) (D.rank s1) (sure s1 ok1) (λ c k. L.looked s1 c ok1 k) at_mark.1 at_mark.2 q in omega (arith, x, y)),
          )
      tried_denied s3 (Own f) o q i =
          let same = undone s3 (Err (Own f)) q i in
          let n = narrowed (D.meaning s).state (D.meaning s1) (D.meaning s2) (λ v. v a ≡ v b) at_mark.2 q.1 in
          let snd = sure s2 o in (
            (
              λ x. absurd (no_way (sym x ∙ fits_at q.0)),
              λ x. (
                same_lift (D.meaning s) (D.meaning s3) es ts same,
                inl (clash_of f (followed_fault (kind_of D.HEADS 0) (D.meaning s2) snd es [] f q.2), λ v p y. narrowed_voids (kind_of D.HEADS 0) (λ w. w a ≡ w b) (D.meaning s).state (D.meaning s2) es snd standing.order n f v q.2 p.0 p.1 y),
              ),
            ),
            standing_same (D.ok s) (D.ok s3) D.CLASSES (D.meaning s) (D.meaning s3) es ts (L.fine s2 s3 (back d) done i) same standing,
            λ x. (s2, n, (f, refl, q.2)),
          )
