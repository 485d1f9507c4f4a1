-- Systems whose meanings are alike answer alike, but for what is free.
use Rattle.std.proofs.Common.{◌≡◌, ℕ, suc, ◌+◌, ◌≤◌, Bool, true, false, cond, ◌&&◌, eqb, ltb, leb, ◌⊎◌, List, [], ◌∷◌, length, sym, refl, ap, ◌∙◌, subst, ap₂, inl, inr, ⊎_elim, arith}
use mathlib.Core.Option.{Option}
use Rattle.ground.specs.Sorts.{Of}
use Rattle.ground.specs.Heads.{Builds, gives, none_lacked}
use Rattle.ground.specs.declared.sort.Sort.{Sort}
use Rattle.ground.specs.declared.sort.Sort.TheVariants.{«Type» as OfType, Field as OfField, Row as OfRow}
use Rattle.ground.specs.declared.sort.Labels.{Labels}
use Rattle.ground.specs.declared.head.Head.{Head}
use Rattle.ground.specs.declared.head.Head.TheVariants.{Whole, Tenth, Flag, To, List as ListOf, Record, Absent, Has, Empty, Row as RowWith}
use Rattle.system.proofs.Takes.{both}
use Rattle.system.proofs.Same.{each_of, each_back, each_then, each_length}
use Rattle.system.proofs.Filling.{known_not, Fill, fill_fresh, fill_build}
use Rattle.system.specs.Meaning.{Kind, Valuation, State, Meaning, Sound, Known, Agree, Same, SameState, SameMarks, knows_sort}
use Rattle.system.specs.Requests.{Request, fresh, build, equate, demand, mark, keep, back, Reply, code, token, done, fault, fits, finder, takes, head_number, alike, is_of, is_known, most_marks, upper}
use Rattle.system.specs.Follows.{Follows, Goes, Added, Kept, Void, Within, Limited, Clash, Dropped}
use Rattle.system.specs.Replies.{kind_of}
use Rattle.system.specs.Runs.{AlikeState, AlikeMarks, Alike, AlikeOn, MayLimit, Likewise, same, codes, denied, first_limit, second_limit, AnswersAgree}

state_then : {s t u : State} → AlikeState s t → AlikeState t u → AlikeState s u
state_then p q = record {
  count = p.count ∙ q.count;
  sorts = λ c. p.sorts c ∙ q.sorts c;
  onward = λ v h. q.onward v (p.onward v h);
  backward = λ v h. p.backward v (q.backward v h);
}

state_back : {s t : State} → AlikeState s t → AlikeState t s
state_back p = record { count = sym p.count; sorts = λ c. sym (p.sorts c); onward = p.backward; backward = p.onward }

state_of : {s t : State} → SameState s t → AlikeState s t
state_of p = record { count = p.count; sorts = p.sorts; onward = p.onward; backward = p.backward }

marks_then : (s t u : List State) → AlikeMarks s t → AlikeMarks t u → AlikeMarks s u
marks_then s t u p q = each_then (λ x y z e f. state_then e f) s t u p q

marks_back : (s t : List State) → AlikeMarks s t → AlikeMarks t s
marks_back s t p = each_back (λ x y e. state_back e) s t p

marks_of : (s t : List State) → SameMarks s t → AlikeMarks s t
marks_of s t p = each_of (λ x y e. state_of e) s t p

-- by the same way round: s to t, t to u, u to v
marks_round : (s t u v : List State) → SameMarks s t → AlikeMarks s u → SameMarks u v → AlikeMarks t v
marks_round s t u v p q r = marks_then t s v (marks_back s t (marks_of s t p)) (marks_then s u v q (marks_of u v r))

alike_of_same : (m n : Meaning) → Same m n → Alike m n
alike_of_same m n p = record { capacity = p.capacity; state = state_of p.state; marks = marks_of m.marks n.marks p.marks }

alike_then : (m n o : Meaning) → Alike m n → Alike n o → Alike m o
alike_then m n o p q = record { capacity = p.capacity ∙ q.capacity; state = state_then p.state q.state; marks = marks_then m.marks n.marks o.marks p.marks q.marks }

alike_back : (m n : Meaning) → Alike m n → Alike n m
alike_back m n p = record { capacity = sym p.capacity; state = state_back p.state; marks = marks_back m.marks n.marks p.marks }

-- which requests fit, and who finds them
takes_same : (s t : State) → AlikeState s t → (h : Head) (x y l : ℕ) (m : Labels) → takes s h x y l m ≡ takes t h x y l m
takes_same s t e Whole x y l m = refl
takes_same s t e Tenth x y l m = refl
takes_same s t e Flag x y l m = refl
takes_same s t e To x y l m = ap₂ (λ (a b : Option Sort). is_of a OfType && is_of b OfType) (e.sorts x) (e.sorts y)
takes_same s t e ListOf x y l m = ap (λ (a : Option Sort). is_of a OfType) (e.sorts x)
takes_same s t e Record x y l m = ap (λ (a : Option Sort). is_of a (OfRow none_lacked)) (e.sorts x)
takes_same s t e Absent x y l m = refl
takes_same s t e Has x y l m = ap (λ (a : Option Sort). is_of a OfType) (e.sorts x)
takes_same s t e Empty x y l m = refl
takes_same s t e RowWith x y l m = ap₂ (λ (a b : Option Sort). Rattle.system.specs.Meaning.small m && Rattle.system.specs.Requests.holds m l && is_of a OfField && is_of b (OfRow m)) (e.sorts x) (e.sorts y)

fits_same : (K : Kind) (m n : Meaning) → Alike m n → (q : Request) → fits K m q ≡ fits K n q
fits_same K m n e (fresh o) = refl
fits_same K m n e (build h x y l s) = ap (λ (b : Bool). ltb (head_number h) K.heads && b) (takes_same m.state n.state e.state h x y l s)
fits_same K m n e (equate a b) = ap₂ alike (e.state.sorts a) (e.state.sorts b)
fits_same K m n e (demand k c) = ap (λ (o : Option Sort). leb k 3 && is_of o OfType) (e.state.sorts c)
fits_same K m n e mark = refl
fits_same K m n e (keep d) = ap (λ (k : ℕ). eqb (suc d) k) (each_length AlikeState m.marks n.marks e.marks)
fits_same K m n e (back d) = ap (λ (k : ℕ). eqb (suc d) k) (each_length AlikeState m.marks n.marks e.marks)

finder_same : (K : Kind) (m n : Meaning) → Alike m n → (q : Request) → finder K m q ≡ finder K n q
finder_same K m n e (fresh o) = refl
finder_same K m n e (build h x y l s) = refl
finder_same K m n e (equate a b) = refl
finder_same K m n e (demand k c) = ap (λ (o : Option Sort). cond (is_known o) (cond (leb k 3) 4 (upper K)) 4) (e.state.sorts c)
finder_same K m n e mark = refl
finder_same K m n e (keep d) = refl
finder_same K m n e (back d) = refl

module _ (K : Kind) (m m' n n' : Meaning) (e : Alike m m') where
  -- nothing changed
  unchanged : Same m n → Same m' n' → Alike n n'
  unchanged p q = alike_then n m n' (alike_back m n (alike_of_same m n p)) (alike_then m m' n' e (alike_of_same m' n' q))

  on_all : Alike n n' → AlikeOn m n n'
  on_all a = record {
    capacity = a.capacity;
    count = a.state.count;
    marks = a.marks;
    sorts = λ c k. a.state.sorts c;
    onward = λ v h. (v, λ c k. refl, a.state.onward v h);
    backward = λ v h. (v, λ c k. refl, a.state.backward v h);
  }

  on_unchanged : Same m n → Same m' n' → AlikeOn m n n'
  on_unchanged p q = on_all (unchanged p q)

  kept_on : (P : Valuation → Type 0) → Kept m P n → Kept m' P n' → AlikeOn m n n'
  kept_on P a b = record {
    capacity = a.capacity ∙ e.capacity ∙ sym b.capacity;
    count = a.count ∙ e.state.count ∙ sym b.count;
    marks = marks_round m.marks n.marks m'.marks n'.marks a.marks e.marks b.marks;
    sorts = λ c k. a.old c k.0 k.1 ∙ sym (b.old c k.0 (sym (e.state.sorts c) ∙ k.1));
    onward = λ v h.
        let r = a.onto v h in let w = b.from v (e.state.onward v r.0) r.1 in
        (w.0, λ c k. w.1 c (k.0, sym (e.state.sorts c) ∙ k.1), w.2);
    backward = λ v h.
        let r = b.onto v h in a.from v (e.state.backward v r.0) r.1;
  }

  -- one kept a solution, the other says that none would remain
  not_void : (P : Valuation → Type 0) → Sound K n → Kept m P n → Void m' P → ⊥
  not_void P s k w = let v = s.some in let r = k.onto v.0 v.1 in w v.0 (e.state.onward v.0 r.0) r.1

  not_void_back : (P : Valuation → Type 0) → Sound K n' → Kept m' P n' → Void m P → ⊥
  not_void_back P s k w = let v = s.some in let r = k.onto v.0 v.1 in w v.0 (e.state.backward v.0 r.0) r.1

  between : (f l : ℕ) → Clash K f l → (12 ≤ f) × (f ≤ 15)
  between f l (inl (inl a, b)) = (omega (arith, a), omega (arith, a))
  between f l (inl (inr a, b)) = (omega (arith, a), omega (arith, a))
  between f l (inr (inl a, b, c)) = (omega (arith, a), omega (arith, a))
  between f l (inr (inr a, b, c)) = (omega (arith, a), omega (arith, a))

  fault_fault : (q : Request) (P : Valuation → Type 0) (calls calls' f l f' l' : ℕ) → (Limited m calls P f l → MayLimit m q f l) → (Limited m' calls' P f' l' → MayLimit m' q f' l') → Same m n → Same m' n'
      → ((Clash K f l × Void m P) ⊎ Limited m calls P f l) → ((Clash K f' l' × Void m' P) ⊎ Limited m' calls' P f' l') → Likewise m m' q (fault f l) n (fault f' l') n'
  fault_fault q P calls calls' f l f' l' i j x y (inl a) (inl b) = denied f l f' l' refl refl (between f l a.0) (between f' l' b.0) (unchanged x y)
  fault_fault q P calls calls' f l f' l' i j x y (inl a) (inr b) = second_limit f' l' refl (j b)
  fault_fault q P calls calls' f l f' l' i j x y (inr a) b = first_limit f l refl (i a)

  on_codes : (o : Sort) (P : ℕ → Valuation → Type 0) (c c' : ℕ) → Sound K m → Added m c o (P c) n → Added m' c' o (P c') n' → Fill m P → AlikeOn m n n'
  on_codes o P c c' sm a b fill = record {
    capacity = a.capacity ∙ e.capacity ∙ sym b.capacity;
    count = a.count ∙ ap (λ (k : ℕ). k + 1) e.state.count ∙ sym b.count;
    marks = marks_round m.marks n.marks m'.marks n'.marks a.marks e.marks b.marks;
    sorts = λ d k. a.old d (known_not m.state d c k a.unknown) ∙ e.state.sorts d ∙ sym (b.old d (known_not m.state d c' k (e.state.sorts c' ∙ b.unknown)));
    onward = λ v h.
        let r = a.onto v h in let w = fill v r.0 c' (e.state.sorts c' ∙ b.unknown) in
        (w.0, w.1, b.from w.0 (e.state.onward w.0 (sm.blind v w.0 r.0 w.1)) w.2);
    backward = λ v h.
        let r = b.onto v h in let s = e.state.backward v r.0 in let w = fill v s c a.unknown in
        (w.0, w.1, a.from w.0 (sm.blind v w.0 s w.1) w.2);
  }

  added_added : (q : Request) (o : Sort) (P : ℕ → Valuation → Type 0) (c c' : ℕ) → Sound K m → Fill m P → Added m c o (P c) n → Added m' c' o (P c') n' → Likewise m m' q (code c) n (code c') n'
  added_added q o P c c' sm fill a b = codes c c' refl refl (on_codes o P c c' sm a b fill)

  zero_four : K.classes ≡ 0 → K.classes ≡ 4 → ⊥
  zero_four p q = let z : ⊥ = omega (arith, p, q) in z

  lengths : length m.marks ≡ length m'.marks
  lengths = each_length AlikeState m.marks m'.marks e.marks

  same_states : SameState m.state n.state → SameState m'.state n'.state → AlikeState n.state n'.state
  same_states p q = state_then (state_back (state_of p)) (state_then e.state (state_of q))

  drop_alike : (ss ts us vs : List State) → Dropped ss ts → AlikeMarks ss us → Dropped us vs → AlikeMarks ts vs
  drop_alike [] ts us vs p q r = absurd p
  drop_alike (s ∷ ss) ts [] vs p q r = absurd r
  drop_alike (s ∷ ss) ts (u ∷ us) vs p q r = marks_round ss ts us vs p q.1 r

  demands : (k c f l f' l' : ℕ) → Same m n → Same m' n'
      → (((K.classes ≡ 0) × (f ≡ 11) × (l ≡ 4)) ⊎ ((K.classes ≡ 4) × ((Clash K f l × Void m (Within k c)) ⊎ Limited m m.state.count (Within k c) f l)))
      → (((K.classes ≡ 0) × (f' ≡ 11) × (l' ≡ 4)) ⊎ ((K.classes ≡ 4) × ((Clash K f' l' × Void m' (Within k c)) ⊎ Limited m' m'.state.count (Within k c) f' l')))
      → Likewise m m' (demand k c) (fault f l) n (fault f' l') n'
  demands k c f l f' l' x y (inl a) (inl b) = same (ap₂ fault (a.1 ∙ sym b.1) (a.2 ∙ sym b.2)) (on_unchanged x y)
  demands k c f l f' l' x y (inl a) (inr b) = absurd (zero_four a.0 b.0)
  demands k c f l f' l' x y (inr a) (inl b) = absurd (zero_four b.0 a.0)
  demands k c f l f' l' x y (inr a) (inr b) = fault_fault (demand k c) (Within k c) m.state.count m'.state.count f l f' l' (λ w. w) (λ w. w) x y a.1 b.1

  goes_likewise : (q : Request) (r r' : Reply) → fits K m q ≡ true → Sound K m → Sound K n → Sound K n' → Goes K m q r n → Goes K m' q r' n' → Likewise m m' q r n r' n'
  goes_likewise (fresh o) (code i) (code i') fit sm sn sn' g g' = added_added (fresh o) o (λ c v. Of o (v c)) i i' sm (fill_fresh m o) g g'
  goes_likewise (fresh o) (code i) (token t') fit sm sn sn' g g' = absurd g'
  goes_likewise (fresh o) (code i) done fit sm sn sn' g g' = absurd g'
  goes_likewise (fresh o) (code i) (fault f' l') fit sm sn sn' g g' = second_limit f' l' refl g'.1
  goes_likewise (fresh o) (token t) r' fit sm sn sn' g g' = absurd g
  goes_likewise (fresh o) done r' fit sm sn sn' g g' = absurd g
  goes_likewise (fresh o) (fault f l) (code i') fit sm sn sn' g g' = first_limit f l refl g.1
  goes_likewise (fresh o) (fault f l) (token t') fit sm sn sn' g g' = absurd g'
  goes_likewise (fresh o) (fault f l) done fit sm sn sn' g g' = absurd g'
  goes_likewise (fresh o) (fault f l) (fault f' l') fit sm sn sn' g g' = first_limit f l refl g.1
  goes_likewise (build h x y u s) (code i) (code i') fit sm sn sn' g g' = added_added (build h x y u s) (gives h s u) (λ c v. Builds h u (v x) (v y) (v c)) i i' sm (fill_build K m h x y u s sm (both (ltb (head_number h) K.heads) (takes m.state h x y u s) fit).1) g g'
  goes_likewise (build h x y u s) (code i) (token t') fit sm sn sn' g g' = absurd g'
  goes_likewise (build h x y u s) (code i) done fit sm sn sn' g g' = absurd g'
  goes_likewise (build h x y u s) (code i) (fault f' l') fit sm sn sn' g g' = second_limit f' l' refl g'.1
  goes_likewise (build h x y u s) (token t) r' fit sm sn sn' g g' = absurd g
  goes_likewise (build h x y u s) done r' fit sm sn sn' g g' = absurd g
  goes_likewise (build h x y u s) (fault f l) (code i') fit sm sn sn' g g' = first_limit f l refl g.1
  goes_likewise (build h x y u s) (fault f l) (token t') fit sm sn sn' g g' = absurd g'
  goes_likewise (build h x y u s) (fault f l) done fit sm sn sn' g g' = absurd g'
  goes_likewise (build h x y u s) (fault f l) (fault f' l') fit sm sn sn' g g' = first_limit f l refl g.1
  goes_likewise (equate a b) (code i) r' fit sm sn sn' g g' = absurd g
  goes_likewise (equate a b) (token t) r' fit sm sn sn' g g' = absurd g
  goes_likewise (equate a b) done (code i') fit sm sn sn' g g' = absurd g'
  goes_likewise (equate a b) done (token t') fit sm sn sn' g g' = absurd g'
  goes_likewise (equate a b) done done fit sm sn sn' g g' = same refl (kept_on (λ v. v a ≡ v b) g g')
  goes_likewise (equate a b) done (fault f' l') fit sm sn sn' g g' = ⊎_elim (λ w. absurd (not_void (λ v. v a ≡ v b) sn g w.1)) (λ w. second_limit f' l' refl w) g'.1
  goes_likewise (equate a b) (fault f l) (code i') fit sm sn sn' g g' = absurd g'
  goes_likewise (equate a b) (fault f l) (token t') fit sm sn sn' g g' = absurd g'
  goes_likewise (equate a b) (fault f l) done fit sm sn sn' g g' = ⊎_elim (λ w. absurd (not_void_back (λ v. v a ≡ v b) sn' g' w.1)) (λ w. first_limit f l refl w) g.1
  goes_likewise (equate a b) (fault f l) (fault f' l') fit sm sn sn' g g' = fault_fault (equate a b) (λ v. v a ≡ v b) m.state.count m'.state.count f l f' l' (λ w. w) (λ w. w) g.0 g'.0 g.1 g'.1
  goes_likewise (demand k c) (code i) r' fit sm sn sn' g g' = absurd g
  goes_likewise (demand k c) (token t) r' fit sm sn sn' g g' = absurd g
  goes_likewise (demand k c) done (code i') fit sm sn sn' g g' = absurd g'
  goes_likewise (demand k c) done (token t') fit sm sn sn' g g' = absurd g'
  goes_likewise (demand k c) done done fit sm sn sn' g g' = same refl (kept_on (Within k c) g.1 g'.1)
  goes_likewise (demand k c) done (fault f' l') fit sm sn sn' g g' = ⊎_elim (λ w. absurd (zero_four w.0 g.0)) (λ w. ⊎_elim (λ x. absurd (not_void (Within k c) sn g.1 x.1)) (λ x. second_limit f' l' refl x) w.1) g'.1
  goes_likewise (demand k c) (fault f l) (code i') fit sm sn sn' g g' = absurd g'
  goes_likewise (demand k c) (fault f l) (token t') fit sm sn sn' g g' = absurd g'
  goes_likewise (demand k c) (fault f l) done fit sm sn sn' g g' = ⊎_elim (λ w. absurd (zero_four w.0 g'.0)) (λ w. ⊎_elim (λ x. absurd (not_void_back (Within k c) sn' g'.1 x.1)) (λ x. first_limit f l refl x) w.1) g.1
  goes_likewise (demand k c) (fault f l) (fault f' l') fit sm sn sn' g g' = demands k c f l f' l' g.0 g'.0 g.1 g'.1
  goes_likewise mark (code i) r' fit sm sn sn' g g' = absurd g
  goes_likewise mark (token t) (code i') fit sm sn sn' g g' = absurd g'
  goes_likewise mark (token t) (token t') fit sm sn sn' g g' = same (ap token (g.1 ∙ lengths ∙ sym g'.1)) (on_all (record { capacity = g.2 ∙ e.capacity ∙ sym g'.2; state = same_states g.3 g'.3; marks = marks_round (m.state ∷ m.marks) n.marks (m'.state ∷ m'.marks) n'.marks g.4 (e.state, e.marks) g'.4 }))
  goes_likewise mark (token t) done fit sm sn sn' g g' = absurd g'
  goes_likewise mark (token t) (fault f' l') fit sm sn sn' g g' = let z : ⊥ = omega (arith, g.0, g'.0, lengths) in absurd z
  goes_likewise mark done r' fit sm sn sn' g g' = absurd g
  goes_likewise mark (fault f l) (code i') fit sm sn sn' g g' = absurd g'
  goes_likewise mark (fault f l) (token t') fit sm sn sn' g g' = let z : ⊥ = omega (arith, g.0, g'.0, lengths) in absurd z
  goes_likewise mark (fault f l) done fit sm sn sn' g g' = absurd g'
  goes_likewise mark (fault f l) (fault f' l') fit sm sn sn' g g' = same (ap₂ fault (g.1 ∙ sym g'.1) (g.2 ∙ sym g'.2)) (on_unchanged g.3 g'.3)
  goes_likewise (keep d) (code i) r' fit sm sn sn' g g' = absurd g
  goes_likewise (keep d) (token t) r' fit sm sn sn' g g' = absurd g
  goes_likewise (keep d) done (code i') fit sm sn sn' g g' = absurd g'
  goes_likewise (keep d) done (token t') fit sm sn sn' g g' = absurd g'
  goes_likewise (keep d) done done fit sm sn sn' g g' = same refl (on_all (record { capacity = g.0 ∙ e.capacity ∙ sym g'.0; state = same_states g.1 g'.1; marks = drop_alike m.marks n.marks m'.marks n'.marks g.2 e.marks g'.2 }))
  goes_likewise (keep d) done (fault f' l') fit sm sn sn' g g' = absurd g'
  goes_likewise (keep d) (fault f l) r' fit sm sn sn' g g' = absurd g
  goes_likewise (back d) (code i) r' fit sm sn sn' g g' = absurd g
  goes_likewise (back d) (token t) r' fit sm sn sn' g g' = absurd g
  goes_likewise (back d) done (code i') fit sm sn sn' g g' = absurd g'
  goes_likewise (back d) done (token t') fit sm sn sn' g g' = absurd g'
  goes_likewise (back d) done done fit sm sn sn' g g' = let w = marks_round m.marks (n.state ∷ n.marks) m'.marks (n'.state ∷ n'.marks) g.1 e.marks g'.1 in same refl (on_all (record { capacity = g.0 ∙ e.capacity ∙ sym g'.0; state = w.0; marks = w.1 }))
  goes_likewise (back d) done (fault f' l') fit sm sn sn' g g' = absurd g'
  goes_likewise (back d) (fault f l) r' fit sm sn sn' g g' = absurd g

follow_likewise : (K : Kind) (m m' n n' : Meaning) → Alike m m' → (q : Request) (r r' : Reply) → Sound K m → Sound K n → Sound K n' → Follows K m q r n → Follows K m' q r' n' → Likewise m m' q r n r' n'
follow_likewise K m m' n n' e q r r' sm sn sn' h h' = go (fits K m q) refl
  where
    go : (b : Bool) → fits K m q ≡ b → Likewise m m' q r n r' n'
    go true i = goes_likewise K m m' n n' e q r r' i sm sn sn' (h.1 i) (h'.1 (sym (fits_same K m m' e q) ∙ i))
    go false i =
        let a = h.0 i in
        let b = h'.0 (sym (fits_same K m m' e q) ∙ i) in
        same (a.0 ∙ ap (fault 21) (finder_same K m m' e q) ∙ sym b.0) (on_unchanged K m m' n n' e a.1 b.1)

module _ {S T : Type 0} (hs cs ht ct : ℕ) (okS : S → Type 0) (meaningS : S → Meaning) (askedS : S → Request → Reply → S → Type 0) (okT : T → Type 0) (meaningT : T → Meaning) (askedT : T → Request → Reply → T → Type 0)
    (soundS : (s : S) → okS s → Sound (kind_of hs cs) (meaningS s)) (soundT : (t : T) → okT t → Sound (kind_of ht ct) (meaningT t))
    (toldS : (s t : S) (q : Request) (r : Reply) → askedS s q r t → Follows (kind_of hs cs) (meaningS s) q r (meaningS t))
    (toldT : (s t : T) (q : Request) (r : Reply) → askedT s q r t → Follows (kind_of ht ct) (meaningT s) q r (meaningT t)) where
  pub answers_agree : hs ≡ ht → cs ≡ ct → AnswersAgree okS meaningS askedS okT meaningT askedT
  answers_agree eh ec s s' t t' q r r' o os ot e a b =
      let k : kind_of ht ct ≡ kind_of hs cs = ap₂ kind_of (sym eh) (sym ec) in
      follow_likewise (kind_of hs cs) (meaningS s) (meaningT t) (meaningS s') (meaningT t') e q r r' (soundS s o) (soundS s' os) (subst (λ (K : Kind). Sound K (meaningT t')) k (soundT t' ot)) (toldS s s' q r a)
      (subst (λ (K : Kind). Follows K (meaningT t) q r' (meaningT t')) k (toldT t t' q r' b))
