-- A demand on the layer.
use Rattle.std.proofs.Common.{◌≡◌, ℕ, suc, ◌<◌, ◌≤◌, Bool, true, false, cond, ◌&&◌, eqb, ltb, leb, ◌⊎◌, List, [], ◌∷◌, length, Some, None, Ok, Err, Option as Opt, Result, sym, refl, ap, ◌∙◌, subst, inl, inr, arith, ltb-false, ltb-true, eqb-true, le-leb, reverse, vec_items}
use mathlib.Core.Option.{Option, some, none}
use lib.Bits.{bit_and}
use borrow.Author.Tests.{eqb-false, lt-leb}
use Rattle.std.specs.Result.{MatchResult}
use Rattle.std.proofs.lemmas.Bool.{cond-true, cond-false}
use Rattle.ground.specs.Classes.{Asked, Allowed}
use Rattle.ground.specs.Members.{compatible}
use Rattle.ground.specs.declared.sort.Sort.{Sort}
use Rattle.ground.specs.declared.sort.Sort.TheVariants.{«Type» as OfType}
use Rattle.ground.specs.declared.code.Code.{Code}
use Rattle.ground.specs.declared.classes.Classes.{Classes}
use Rattle.ground.proofs.Built.{no_way}
use Rattle.ground.proofs.Alone.{alone_has}
use Rattle.system.specs.Meaning.{Valuation, Meaning, Sound, Known, Same}
use Rattle.system.specs.Requests.{demand, done, fault, fits, is_of, is_known}
use Rattle.system.specs.Follows.{Kept, Void, Within, Clash}
use Rattle.system.specs.Faults.{class_number}
use Rattle.system.specs.Replies.{kind_of, plain}
use Rattle.system.specs.declared.fault.ClassFault.{ClassFault}
use Rattle.system.specs.declared.fault.ClassFault.TheVariants.{NotInClass, NoMember, TooManyClasses}
use Rattle.system.proofs.Same.{same_same}
use Rattle.system.proofs.Takes.{of_is, both_of}
use Rattle.classes.specs.declared.entry.Entry.{Entry}
use Rattle.classes.specs.declared.verdict.Verdict.{Verdict}
use Rattle.system.specs.declared.layer_fault.LayerFault.{LayerFault}
use Rattle.system.specs.declared.layer_fault.LayerFault.TheVariants.{Own}
use Rattle.system.specs.Faults.{layer_number, layer_layer}
use Rattle.classes.specs.Entries.{single, both, has, classed, joined, told, left}
use Rattle.classes.specs.Layered.{layered, Followable, InOrder, Standing}
use Rattle.classes.specs.Following.{Leads, Judged, Turn, settled, outside, joins, clashes, taken_by, taken}
use Rattle.classes.specs.Told.{Demanded, taken as taken-up, full}
use Rattle.classes.specs.Setting.{sub_asked, beyond, four_asked}
use Rattle.classes.proofs.Turning.{classed_none, joined_length, told_ok, told_err}
use Rattle.classes.specs.Keeping.{turn_meets, turn_voids, turn_order, turn_fault, order_small}
use Rattle.classes.specs.Lifting.{marks_lift, same_lift, order_same, orders_same}
use Rattle.classes.proofs.Crowding.{one_class, single_within, crowded}
use Rattle.classes.proofs.Adding.{standing_same}
use Rattle.ground.specs.declared.refusal.Refusal.{Ghosts as Numbers}
use Rattle.system.specs.declared.system.System.{Ghosts}
use Rattle.classes.specs.declared.layer.Layer.{Layer}
use Rattle.classes.specs.Layers.{sure as Sure}
use Rattle.classes.proofs.Laws.{Laws, Serves}

-- a demand that does not fit
and_false : (a b : Bool) → b ≡ false → (a && b) ≡ false
and_false true b e = e
and_false false b e = refl

false_and : (a b : Bool) → a ≡ false → (a && b) ≡ false
false_and true b e = absurd (no_way (sym e))
false_and false b e = refl

unfound : (o : Option Sort) (k u : ℕ) → o ≡ none → (is_of o OfType ≡ false) × (cond (is_known o) (cond (leb k 3) 4 u) 4 ≡ 4)
unfound o k u e = (ap (λ (x : Option Sort). is_of x OfType) e, ap (λ (x : Option Sort). cond (is_known x) (cond (leb k 3) 4 u) 4) e)

found : (b : Bool) (k u : ℕ) → leb k 3 ≡ true → cond b (cond (leb k 3) 4 u) 4 ≡ 4
found true k u e = cond-true (leb k 3) 4 u e
found false k u e = refl

-- where there is room, the entry is followed; where there is not, it joins one that stands, or the table is full
joined_step : (b r : Bool) (e f : Entry) (es fs : List Entry) → (r ≡ true → length fs ≡ length es) → cond b true r ≡ true → length (cond b (f ∷ es) (e ∷ fs)) ≡ suc (length es)
joined_step true r e f es fs g h = refl
joined_step false r e f es fs g h = ap suc (g h)

joined_same : (es : List Entry) (d : Code) (s : Classes) → has es d.0 ≡ true → length (joined es d s) ≡ length es
joined_same [] d s h = absurd (no_way h)
joined_same (e ∷ es) d s h = joined_step (eqb e.code.0 d.0) (has es d.0) e (record { code = e.code; set = both e.set s }) es (joined es d s) (joined_same es d s) h

joined_fits : (t : List Entry) (d : Code) (s : Classes) → length t ≤ 128 → has t d.0 ≡ true → length (joined t d s) ≤ 128
joined_fits t d s l h = omega (arith, l, joined_same t d s h)

joining_out :
    (m : Meaning) (e : Entry) (t : List Entry) (d : Code) → compatible e.set ≡ true → length t ≤ 128 → ((k : ℕ) → Asked k e.set → Leads m k e.code.0 (Some d))
    → (a b g : Bool) → has t d.0 ≡ a → compatible (both (classed t d.0) e.set) ≡ b → ltb (length t) 128 ≡ g
    → Demanded m e t (cond a (cond b (Ok (joined t d e.set)) (Err NoMember)) (cond g (Ok (joined t d e.set)) (Err TooManyClasses)))
joining_out m e t d c l f true true g p q r = taken-up (joins d f q refl) (joined_fits t d e.set l p)
joining_out m e t d c l f true false g p q r = taken-up (clashes d f q refl) tt
joining_out m e t d c l f false b true p q r =
    taken-up (joins d f (ap (λ (u : Classes). compatible (both u e.set)) (classed_none t d.0 p) ∙ c) refl) (let z = joined_length t d e.set in let y = ltb-true (length t) 128 r in omega (arith, z, y))
joining_out m e t d c l f false b false p q r = full d f p (ltb-false (length t) 128 r) refl

by_out :
    (m : Meaning) (e : Entry) (t : List Entry) (o : Opt Code) → compatible e.set ≡ true → length t ≤ 128 → ((k : ℕ) → Asked k e.set → Leads m k e.code.0 o) → Demanded m e t (taken_by t o e.set)
by_out m e t None c l f = taken-up (settled f refl) l
by_out m e t (Some d) c l f = joining_out m e t d c l f (has t d.0) (compatible (both (classed t d.0) e.set)) (ltb (length t) 128) refl refl refl

at_out : (m : Meaning) (e : Entry) (t : List Entry) (o : Verdict) → Followable m.state e → length t ≤ 128 → Judged m e.code.0 o → (b : Bool) → eqb (bit_and e.set.0 o.allows.0) e.set.0 ≡ b → Demanded m e t (cond b (taken_by t o.code e.set) (Err NotInClass))
at_out m e t o f l j true p = by_out m e t o.code f.member l (λ k a. j.inside k (sub_asked e.set.0 o.allows.0 k (eqb-true (bit_and e.set.0 o.allows.0) e.set.0 p) a))
at_out m e t o f l j false p =
    let q = beyond e.set.0 o.allows.0 f.four j.four (eqb-false (bit_and e.set.0 o.allows.0) e.set.0 p) in
    taken-up (outside q.0 q.1 (j.outside q.0 (four_asked e.set q.0 f.four q.1) q.2) refl) tt

demanded_of : (m : Meaning) (e : Entry) (t : List Entry) (o : Verdict) → Followable m.state e → length t ≤ 128 → Judged m e.code.0 o → Demanded m e t (taken t o e.set)
demanded_of m e t o f l j = at_out m e t o f l j (eqb (bit_and e.set.0 o.allows.0) e.set.0) refl

module _ {S F M : Type 0} {D : Ghosts S F M} {N : Numbers F} (L : Laws D) (this : Layer S F M D N) (standing : Sure D.ok D.CLASSES D.meaning this) (k c : ℕ) where
  abbrev s : S
  s = this.below

  abbrev es : List Entry
  es = this.table

  abbrev ts : List (List Entry)
  ts = reverse (vec_items this.saved)

  -- not known
  pub demand_unknown : (D.meaning s).state.sort_of c ≡ none → Serves D s es ts (demand k c) (fault 21 4) s es ts
  demand_unknown e =
      let u = unfound ((D.meaning s).state.sort_of c) k 3 e in
      let no-fit : fits (kind_of D.HEADS 4) (layered (D.meaning s) es ts) (demand k c) ≡ false = and_false (leb k 3) (is_of ((D.meaning s).state.sort_of c) OfType) u.0 in (
        (λ i. (ap (fault 21) (sym u.1), same_same (layered (D.meaning s) es ts)), λ i. absurd (no_way (sym no-fit ∙ i))),
        standing,
        λ i. absurd (no_way (sym no-fit ∙ i)),
      )

  -- a class above 3
  pub demand_bad : Known (D.meaning s).state c → 3 < k → Serves D s es ts (demand k c) (fault 21 3) s es ts
  demand_bad kn b =
      let no-fit : fits (kind_of D.HEADS 4) (layered (D.meaning s) es ts) (demand k c) ≡ false = false_and (leb k 3) (is_of ((D.meaning s).state.sort_of c) OfType) (lt-leb k 3 b) in
      let e : cond (is_known ((D.meaning s).state.sort_of c)) (cond (leb k 3) 4 3) 4 ≡ 3 = ap (λ (x : Option Sort). cond (is_known x) (cond (leb k 3) 4 3) 4) kn.1 ∙ cond-false (leb k 3) 4 3 (lt-leb k 3 b) in (
        (λ i. (ap (fault 21) (sym e), same_same (layered (D.meaning s) es ts)), λ i. absurd (no_way (sym no-fit ∙ i))),
        standing,
        λ i. absurd (no_way (sym no-fit ∙ i)),
      )

  module _ (t : S) (fine : D.ok t) (same : Same (D.meaning s) (D.meaning t)) (low : k ≤ 3) where
    -- no type
    pub demand_untyped : fits (kind_of 0 0) (D.meaning s) (demand k c) ≡ false → Serves D s es ts (demand k c) (fault 21 4) t es ts
    demand_untyped no-fit = (
      (λ i. (ap (fault 21) (sym (found (is_known ((D.meaning s).state.sort_of c)) k 3 (le-leb k 3 low))), same_lift (D.meaning s) (D.meaning t) es ts same), λ i. absurd (no_way (sym no-fit ∙ i))),
      standing_same (D.ok s) (D.ok t) D.CLASSES (D.meaning s) (D.meaning t) es ts fine same standing,
      λ i. absurd (no_way (sym no-fit ∙ i)),
    )

    module _ (type : (D.meaning s).state.sort_of c ≡ some OfType) (short : length es ≤ 128) where
      sure : Sound (kind_of D.HEADS 0) (D.meaning t)
      sure = subst (λ (i : ℕ). Sound (kind_of D.HEADS i) (D.meaning t)) standing.classless (L.sound t fine)

      followable : Followable (D.meaning t).state (record { code = record { 0 = c }; set = single k })
      followable = let o = one_class k low in record { sort = sym (same.state.sorts c) ∙ type; four = o.0; some_class = o.1; member = o.2 }

      order : InOrder (D.meaning t).state es
      order = order_same (D.meaning s).state (D.meaning t).state es same.state standing.order

      one : (v : Valuation) → (D.meaning t).state.solves v → (Allowed (single k) (v c) → Within k c v) × (Within k c v → Allowed (single k) (v c))
      one v p = single_within k c v (sure.sorted v p c OfType followable.sort)

      fit : fits (kind_of D.HEADS 4) (layered (D.meaning s) es ts) (demand k c) ≡ true
      fit = both_of (leb k 3) (is_of ((D.meaning s).state.sort_of c) OfType) (le-leb k 3 low) (of_is ((D.meaning s).state.sort_of c) OfType type)

      -- taken up
      kept : (fs : List Entry) → Turn (D.meaning t) (record { code = record { 0 = c }; set = single k }) es (Ok fs) → Kept (layered (D.meaning s) es ts) (Within k c) (layered (D.meaning t) fs ts)
      kept fs u = record {
        capacity = sym same.capacity;
        marks = marks_lift (D.meaning s).marks (D.meaning t).marks ts same.marks;
        count = sym same.state.count;
        old = λ d o i. sym (same.state.sorts d) ∙ i;
        onto = λ v p.
            let q = (turn_meets (kind_of D.HEADS 0) (D.meaning t) sure (record { code = record { 0 = c }; set = single k }) es fs v followable p.0 u).1 p.1 in
            ((same.state.backward v p.0, q.1), (one v p.0).0 q.0);
        from = λ v p w.
            let x = same.state.onward v p.0 in
            (v, λ d i. refl, (x, (turn_meets (kind_of D.HEADS 0) (D.meaning t) sure (record { code = record { 0 = c }; set = single k }) es fs v followable x u).0 ((one v x).1 w) p.1));
        fixed = λ v w p q a d i. a d (i.0, same.state.sorts d ∙ i.1);
      }

      stands : (fs : List Entry) → Turn (D.meaning t) (record { code = record { 0 = c }; set = single k }) es (Ok fs) → Standing (D.ok t) D.CLASSES (D.meaning t) fs ts
      stands fs u = record {
        below = fine;
        classless = standing.classless;
        order = turn_order (kind_of D.HEADS 0) (D.meaning t) sure (record { code = record { 0 = c }; set = single k }) es fs followable order u;
        marks = orders_same (D.meaning s).marks (D.meaning t).marks ts same.marks standing.marks;
        few = standing.few;
      }

      done_at : (fs : List Entry) → Demanded (D.meaning t) (record { code = record { 0 = c }; set = single k }) es (Ok fs) → Serves D s es ts (demand k c) done t fs ts
      done_at fs (taken-up u r) = ((λ i. absurd (no_way (sym i ∙ fit)), λ i. (refl, kept fs u, λ d. sym (same.state.sorts d))), stands fs u, λ i. (Ok fs, taken-up u r, refl, refl))
      done_at fs (full d f p l q) = cc

      -- refused
      void_of : (f : ClassFault) → Turn (D.meaning t) (record { code = record { 0 = c }; set = single k }) es (Err f) → Void (layered (D.meaning s) es ts) (Within k c)
      void_of f u v p w =
          let x = same.state.onward v p.0 in
          turn_voids (kind_of D.HEADS 0) (D.meaning t) sure (record { code = record { 0 = c }; set = single k }) es f v followable (order_small (D.meaning t).state es order) x u ((one v x).1 w) p.1

      clash_of : (f : ClassFault) → (f ≡ NotInClass) ⊎ (f ≡ NoMember) → Clash (kind_of D.HEADS 4) (class_number f) 3
      clash_of f (inl p) = inr (inl (ap class_number p), refl, refl)
      clash_of f (inr p) = inr (inr (ap class_number p), refl, refl)

      denied_at : (f : ClassFault) → Demanded (D.meaning t) (record { code = record { 0 = c }; set = single k }) es (Err f) → Serves D s es ts (demand k c) (fault (class_number f) 3) t es ts
      denied_at f (taken-up u r) = (
        (
          λ i. absurd (no_way (sym i ∙ fit)),
          λ i. (same_lift (D.meaning s) (D.meaning t) es ts same, inr (refl, inl (clash_of f (turn_fault (kind_of D.HEADS 0) (D.meaning t) sure (record { code = record { 0 = c }; set = single k }) es f u), void_of f u))),
        ),
        standing_same (D.ok s) (D.ok t) D.CLASSES (D.meaning s) (D.meaning t) es ts fine same standing,
        λ i. (Err f, taken-up u r, refl, refl),
      )
      denied_at f (full d g p l q) =
          let a = g k (alone_has k) in
          let i : f ≡ TooManyClasses = cc in
          let back = same.state.backward in
          let there = same.state.onward in
          let below : Sound (kind_of D.HEADS 0) (D.meaning s) = subst (λ (j : ℕ). Sound (kind_of D.HEADS j) (D.meaning s)) standing.classless (L.sound s standing.below) in
          let many = crowded D.HEADS (D.meaning s) es ts k c d below standing.order low l p (a.0.0, (same.state.opens d.0 a.0.0).1 a.0.1) (same.state.sorts d.0 ∙ a.1) (λ v x. a.2 v (there v x)) (λ v x. a.3 v (there v x)) in (
            (λ j. absurd (no_way (sym j ∙ fit)), λ j. (same_lift (D.meaning s) (D.meaning t) es ts same, inr (refl, inr (inr (ap class_number i, refl, many))))),
            standing_same (D.ok s) (D.ok t) D.CLASSES (D.meaning s) (D.meaning t) es ts fine same standing,
            λ j. (Err f, full d g p l q, refl, refl),
          )

      -- by the verdict
      demand_done : (o : Verdict) (fs : List Entry) → Judged (D.meaning t) c o → taken es o (single k) ≡ Ok fs → Serves D s es ts (demand k c) done t fs ts
      demand_done o fs j q = done_at fs (subst (Demanded (D.meaning t) (record { code = record { 0 = c }; set = single k }) es) q (demanded_of (D.meaning t) (record { code = record { 0 = c }; set = single k }) es o followable short j))

      demand_denied : (o : Verdict) (f : ClassFault) → Judged (D.meaning t) c o → taken es o (single k) ≡ Err f → Serves D s es ts (demand k c) (fault (class_number f) 3) t es ts
      demand_denied o f j q = denied_at f (subst (Demanded (D.meaning t) (record { code = record { 0 = c }; set = single k }) es) q (demanded_of (D.meaning t) (record { code = record { 0 = c }; set = single k }) es o followable short j))

      -- and by what the table told of it
      pub demand_taken :
          (o : Verdict) (a : Result (Unit {0}) ClassFault) (r : Result (Unit {0}) (LayerFault F)) (fs : List Entry) → Judged (D.meaning t) c o → a ≡ told (taken es o (single k)) → fs ≡ left es (taken es o (single k))
          → MatchResult a (λ u. r ≡ Ok u) (λ f. r ≡ Err (Own f)) → Serves D s es ts (demand k c) (plain (layer_number N.number) (layer_layer N.layer) r) t fs ts
      demand_taken o (Ok u) r fs j p e q =
          rw q (demand_done o fs j (told_ok es fs (taken es o (single k)) p e))
      demand_taken o (Err f) r fs j p e q =
          let x = told_err es fs f (taken es o (single k)) p e in
          rw (q, x.1) (demand_denied o f j x.0)
