-- What the layer means is sound: its open codes are those below, each with its class set, and every choice of values within sorts and sets is one solution.
use Rattle.std.specs.Prelude.{◌≡◌, ℕ, suc, Bool, true, false, cond, List, [], ◌∷◌, length, ◌==◌, refl}
use Rattle.std.proofs.Common.{sym, ◌∙◌, ap, subst, inl, inr, arith, eqb-true, eq-eqb}
use Rattle.std.proofs.Math.Option.{some}
use Rattle.std.proofs.lemmas.Bool.{cond-true}
use Rattle.ground.specs.Values.{Ty, Value, of_type}
use Rattle.ground.specs.Sorts.{Of}
use Rattle.ground.specs.Classes.{Allowed}
use Rattle.ground.specs.declared.sort.Sort.{Sort}
use Rattle.ground.specs.declared.sort.Sort.TheVariants.{«Type» as OfType, Field as OfField, Row as OfRow}
use Rattle.ground.specs.declared.classes.Classes.{Classes}
use Rattle.ground.proofs.Built.{no_way}
use Rattle.ground.proofs.Members.{compatible_members}
use Rattle.system.specs.Meaning.{Valuation, State, Meaning, Sound, Listed, Once, Agree, Fitting, Chosen, knows_sort}
use Rattle.system.specs.Replies.{kind_of}
use Rattle.classes.specs.declared.entry.Entry.{Entry}
use Rattle.classes.specs.Entries.{unclassed, has, classed}
use Rattle.classes.specs.Layered.{Meets, opens_with, layered_state, layered, Followable, Open, InOrder}
use Rattle.classes.specs.Meeting.{allowed_none, meets_classed}

-- the open codes are those below
pub listed_down : (es : List Entry) (os : List (ℕ × Classes)) (c : ℕ) (k : Classes) → Listed (opens_with es os) c k → (classed es c ≡ k) × ((j : Classes) × Listed os c j)
listed_down es [] c k h = absurd h
listed_down es (o ∷ os) c k (inl h) = (ap (classed es) (sym h.0) ∙ h.1, (o.1, inl (h.0, refl)))
listed_down es (o ∷ os) c k (inr h) = let q = listed_down es os c k h in (q.0, (q.1.0, inr q.1.1))

pub listed_up : (es : List Entry) (os : List (ℕ × Classes)) (c : ℕ) (j : Classes) → Listed os c j → Listed (opens_with es os) c (classed es c)
listed_up es [] c j h = absurd h
listed_up es (o ∷ os) c j (inl h) = inl (h.0, ap (classed es) h.0)
listed_up es (o ∷ os) c j (inr h) = inr (listed_up es os c j h)

pub opens_length : (es : List Entry) (os : List (ℕ × Classes)) → length (opens_with es os) ≡ length os
opens_length es [] = refl
opens_length es (o ∷ os) = ap suc (opens_length es os)

opens_once : (es : List Entry) (os : List (ℕ × Classes)) → Once os → Once (opens_with es os)
opens_once es [] h = tt
opens_once es (o ∷ os) h = (λ k l. let q = (listed_down es os o.0 k l).1 in h.0 q.0 q.1, opens_once es os h.1)

-- a set of no class allows every value
pub empty_allows : (k : Classes) (x : Value) → k.0 ≡ 0 → Allowed k x
empty_allows k x e = let p : unclassed ≡ k = λ i. record { 0 = sym e i } in subst (λ (s : Classes). Allowed s x) p (allowed_none x)

-- the entry of a code in order is the one that counts
classed_here : (e : Entry) (es : List Entry) → classed (e ∷ es) e.code.0 ≡ e.set
classed_here e es = cond-true (e.code.0 == e.code.0) e.set (classed es e.code.0) (eq-eqb e.code.0 e.code.0 refl)

-- what the sets of the codes allow meets the entries
apart_at : (e : Entry) (es : List Entry) (c : ℕ) (b : Bool) → (e.code.0 == c) ≡ b → has es c ≡ true → has es e.code.0 ≡ false → cond b e.set (classed es c) ≡ classed es c
apart_at e es c true p h n = absurd (no_way (sym n ∙ ap (has es) (eqb-true e.code.0 c p) ∙ h))
apart_at e es c false p h n = refl

inside_at : (b r : Bool) → r ≡ true → cond b true r ≡ true
inside_at true r h = refl
inside_at false r h = h

sets_meet : (s : State) (es fs : List Entry) (a : Valuation) → InOrder s es → ((c : ℕ) → has es c ≡ true → classed fs c ≡ classed es c) → ((c : ℕ) → has es c ≡ true → Allowed (classed fs c) (a c)) → Meets es a
sets_meet s [] fs a o f h = tt
sets_meet s (e ∷ es) fs a o f h =
    let here : has (e ∷ es) e.code.0 ≡ true = cond-true (e.code.0 == e.code.0) true (has es e.code.0) (eq-eqb e.code.0 e.code.0 refl) in (
      subst (λ (k : Classes). Allowed k (a e.code.0)) (f e.code.0 here ∙ classed_here e es) (h e.code.0 here),
      sets_meet s es fs a o.3
          (λ c q. f c (inside_at (e.code.0 == c) (has es c) q) ∙ apart_at e es c (e.code.0 == c) refl q o.2)
          (λ c q. h c (inside_at (e.code.0 == c) (has es c) q)),
    )

-- a code with an entry is open
entry_at : (s : State) (e : Entry) (c : ℕ) (b r : Bool) → (e.code.0 == c) ≡ b → Open s e.code.0 → (r ≡ true → Open s c) → cond b true r ≡ true → Open s c
entry_at s e c true r p o f h = subst (Open s) (eqb-true e.code.0 c p) o
entry_at s e c false r p o f h = f h

pub entry_open : (s : State) (es : List Entry) (c : ℕ) → InOrder s es → has es c ≡ true → Open s c
entry_open s [] c o h = absurd (no_way h)
entry_open s (e ∷ es) c o h = entry_at s e c (e.code.0 == c) (has es c) refl o.0 (entry_open s es c o.3) h

-- there are values within the sets
same_sort_holds : (o p : Sort) → some o ≡ some p → o ≡ p
same_sort_holds o p e = cc

within_at :
    (s : State) (e : Entry) (es : List Entry) (t : Ty) (a : Valuation) (c : ℕ) (b : Bool) → (e.code.0 == c) ≡ b → Followable s e → Allowed e.set (of_type t) → Allowed (classed es c) (a c)
    → ((o : Sort) → s.sort_of c ≡ some o → Of o (a c))
    → Allowed (cond b e.set (classed es c)) (cond b (of_type t) (a c)) × ((o : Sort) → s.sort_of c ≡ some o → Of o (cond b (of_type t) (a c)))
within_at s e es t a c true p f h k g =
    (h, λ o q. subst (λ (x : Sort). Of x (of_type t)) (same_sort_holds OfType o (sym f.sort ∙ ap s.sort_of (eqb-true e.code.0 c p) ∙ q)) tt)
within_at s e es t a c false p f h k g = (k, g)

within_sets : (s : State) (es : List Entry) (v : Valuation) → InOrder s es → ((c : ℕ) (o : Sort) → s.sort_of c ≡ some o → Of o (v c)) → (a : Valuation) × ((c : ℕ) → Allowed (classed es c) (a c) × ((o : Sort) → s.sort_of c ≡ some o → Of o (a c)))
within_sets s [] v o g = (v, λ c. (allowed_none (v c), g c))
within_sets s (e ∷ es) v o g =
    let r = within_sets s es v o.3 g in
    let t = (compatible_members e.set o.1.four).1 o.1.member in
    (λ c. cond (e.code.0 == c) (of_type t.0) (r.0 c), λ c. within_at s e es t.0 r.0 c (e.code.0 == c) refl o.1 t.1 (r.1 c).0 (r.1 c).1)

-- values of known codes alone decide
pub meets_agree : (s : State) (es : List Entry) (v w : Valuation) → InOrder s es → Agree s v w → Meets es v → Meets es w
meets_agree s [] v w o a h = tt
meets_agree s (e ∷ es) v w o a h = (subst (Allowed e.set) (a e.code.0 (OfType, o.1.sort)) h.0, meets_agree s es v w o.3 a h.1)

knows : (h : ℕ) (o : Sort) → knows_sort (kind_of h 0) o ≡ true → knows_sort (kind_of h 4) o ≡ true
knows h OfType e = e
knows h OfField e = e
knows h (OfRow l) e = e

module _ (h : ℕ) (m : Meaning) (es : List Entry) (ts : List (List Entry)) (sound : Sound (kind_of h 0) m) (order : InOrder m.state es) where
  L : State
  L = layered_state m.state es

  pub layered_free : (a : Valuation) → Fitting (layered_state m.state es) a → (v : Valuation) × (m.state.solves v × Meets es v) × Chosen (layered_state m.state es) v a
  layered_free a f =
      let below : Fitting m.state a = λ c k o l s. ((f c (classed es c) o (listed_up es m.state.opens c k l) s).0, empty_allows k (a c) (sound.classless refl c k l)) in
      let v = sound.free a below in
      let at : (c : ℕ) → has es c ≡ true → Allowed (classed es c) (v.0 c) = λ c q.
      let o = entry_open m.state es c order q in
      let k = sound.known c o.0 o.1 in
      subst (Allowed (classed es c)) (sym (v.2 c o.0 o.1)) (f c (classed es c) k.0 (listed_up es m.state.opens c o.0 o.1) k.1).1 in
      (v.0, (v.1, sets_meet m.state es es v.0 order (λ c q. refl) at), λ c k l. let q = (listed_down es m.state.opens c k l).1 in v.2 c q.0 q.1)

  pub layered_sound : Sound (kind_of h 4) (layered m es ts)
  layered_sound = record {
    heads = sound.heads;
    classes = inr refl;
    sorts = λ c o e. knows h o (sound.sorts c o e);
    least = sound.least;
    most = sound.most;
    counted = sound.counted;
    opened = omega (arith, sound.opened, opens_length es m.state.opens);
    once = opens_once es m.state.opens sound.once;
    known = λ c k l. let q = (listed_down es m.state.opens c k l).1 in sound.known c q.0 q.1;
    classless = λ e. absurd (omega (arith, e));
    blind = λ v w p a. (sound.blind v w p.0 a, meets_agree m.state es v w order a p.1);
    sorted = λ v p. sound.sorted v p.0;
    fitting = λ v p c k o l s.
        let q = listed_down es m.state.opens c k l in
        (sound.sorted v p.0 c o s, subst (λ (x : Classes). Allowed x (v c)) q.0 (meets_classed es c v p.1));
    free = layered_free;
    one = λ v w p q a. sound.one v w p.0 q.0 (λ c k l. a c (classed es c) (listed_up es m.state.opens c k l));
    some =
        let v = sound.some in
        let a = within_sets m.state es v.0 order (sound.sorted v.0 v.1) in
        let r = layered_free a.0 (λ c k o l s. let q = listed_down es m.state.opens c k l in ((a.1 c).1 o s, subst (λ (x : Classes). Allowed x (a.0 c)) q.0 (a.1 c).0)) in
        (r.0, r.1);
  }
