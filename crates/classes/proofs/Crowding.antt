-- A full table: one open code more with a class makes over 128, each of which can change while the others stay.
use Rattle.std.proofs.Common.{◌≡◌, ℕ, zero, suc, ◌<◌, ◌≤◌, Bool, true, false, cond, eqb, ◌⊎◌, List, [], ◌∷◌, length, sym, refl, ap, ◌∙◌, subst, inl, inr, arith, length-append, ne_eqb, eqb-true, map}
use Rattle.std.proofs.lemmas.List.{length-map}
use mathlib.Core.Option.{some}
use borrow.Author.Tests.{eqb-false}
use Rattle.ground.specs.Values.{Value}
use Rattle.ground.specs.Sorts.{Of}
use Rattle.ground.specs.Classes.{Allowed}
use Rattle.ground.specs.Members.{compatible}
use Rattle.ground.specs.declared.sort.Sort.{Sort}
use Rattle.ground.specs.declared.sort.Sort.TheVariants.{«Type» as OfType}
use Rattle.ground.specs.declared.code.Code.{Code}
use Rattle.ground.specs.declared.classes.Classes.{Classes}
use Rattle.ground.proofs.Built.{no_way}
use Rattle.ground.proofs.Alone.{alone_has, alone_only}
use Rattle.ground.proofs.Another.{another}
use Rattle.system.specs.Meaning.{Valuation, State, Meaning, Sound, Fitting}
use Rattle.system.specs.Follows.{Within, Among, Different, Crowded}
use Rattle.system.specs.Replies.{kind_of}
use Rattle.system.proofs.Filling.{put_at, put_here}
use Rattle.classes.specs.declared.entry.Entry.{Entry}
use Rattle.classes.specs.Entries.{both, single, has, classed, joined}
use Rattle.classes.specs.Layered.{Meets, layered_state, layered, Followable, Open, InOrder}
use Rattle.classes.specs.Setting.{some_asked}
use Rattle.classes.proofs.Placing.{joined_last}
use Rattle.classes.proofs.Turning.{classed_none}
use Rattle.classes.specs.Meeting.{allowed_in, in_allowed, meets_classed, joined_meets}
use Rattle.classes.specs.Keeping.{joined_order}
use Rattle.classes.specs.Sounding.{listed_down, listed_up, entry_open, layered_free, layered_sound}

-- in the set of one class
pub single_within : (k c : ℕ) (v : Valuation) → Of OfType (v c) → (Allowed (single k) (v c) → Within k c v) × (Within k c v → Allowed (single k) (v c))
single_within k c v o = (
  λ a. allowed_in (single k) c k v o a (alone_has k),
  λ w. in_allowed (single k) c v o (λ j h. subst (λ (i : ℕ). Within i c v) (sym (alone_only k j h)) w),
)

-- the codes of entries
abbrev codes : List Entry → List ℕ
codes es = map (λ e. e.code.0) es

has_step : (c e : ℕ) (b r : Bool) (A : Type 0) → eqb e c ≡ b → (A → r ≡ true) → (e ≡ c) ⊎ A → cond b true r ≡ true
has_step c e true r A p f h = refl
has_step c e false r A p f (inl h) = absurd (eqb-false e c p h)
has_step c e false r A p f (inr h) = f h

codes_has : (es : List Entry) (c : ℕ) → Among (codes es) c → has es c ≡ true
codes_has [] c h = absurd h
codes_has (e ∷ es) c h = has_step c e.code.0 (eqb e.code.0 c) (has es c) (Among (codes es) c) refl (codes_has es c) h

codes_different : (s : State) (es : List Entry) → InOrder s es → Different (codes es)
codes_different s [] o = tt
codes_different s (e ∷ es) o = (λ a. no_way (sym o.2 ∙ codes_has es e.code.0 a), codes_different s es o.3)

-- what an entry in order is
pub record Entered (s : State) (c : ℕ) (k : Classes) : Type 0 where
  pub sort : s.sort_of c ≡ some OfType
  pub four : k.0 < 16
  pub some_class : 0 < k.0

entered_at : (s : State) (e : Entry) (c : ℕ) (u : Classes) (b r : Bool) → eqb e.code.0 c ≡ b → Followable s e → (r ≡ true → Entered s c u) → cond b true r ≡ true → Entered s c (cond b e.set u)
entered_at s e c u true r p f g h = record { sort = ap s.sort_of (sym (eqb-true e.code.0 c p)) ∙ f.sort; four = f.four; some_class = f.some_class }
entered_at s e c u false r p f g h = g h

entered : (s : State) (es : List Entry) (c : ℕ) → InOrder s es → has es c ≡ true → Entered s c (classed es c)
entered s [] c o h = absurd (no_way h)
entered s (e ∷ es) c o h = entered_at s e c (classed es c) (eqb e.code.0 c) (has es c) refl o.1 (entered s es c o.3) h

-- another value of one open code
module _ (h : ℕ) (m : Meaning) (es : List Entry) (sound : Sound (kind_of h 0) m) (order : InOrder m.state es) (v : Valuation) (sv : m.state.solves v × Meets es v) where
  fits_at :
      (c d : ℕ) (y : Value) (k : Classes) (o : Sort) (b : Bool) → eqb d c ≡ b → Of OfType y → Allowed (classed es c) y → m.state.sort_of c ≡ some OfType → m.state.sort_of d ≡ some o → classed es d ≡ k
      → Of o (v d) → Allowed k (v d) → Of o (cond b y (v d)) × Allowed k (cond b y (v d))
  fits_at c d y k o true p oy ay sc sd e ov av =
      let i = eqb-true d c p in
      let same : OfType ≡ o = let z : some OfType ≡ some o = sym sc ∙ ap m.state.sort_of (sym i) ∙ sd in cc in
      (subst (λ (x : Sort). Of x y) same oy, subst (λ (x : Classes). Allowed x y) (ap (classed es) (sym i) ∙ e) ay)
  fits_at c d y k o false p oy ay sc sd e ov av = (ov, av)

  changed : (c : ℕ) → has es c ≡ true → (w : Valuation) × (m.state.solves w × Meets es w) × (v c ≡ w c → ⊥) × ((d : ℕ) → has es d ≡ true → (d ≡ c → ⊥) → v d ≡ w d)
  changed c q =
      let n = entered m.state es c order q in
      let y = another OfType (classed es c) (v c) tt (sound.sorted v sv.0 c OfType n.sort) (meets_classed es c v sv.1) in
      let fine : Fitting (layered_state m.state es) (put_at v c y.0) = λ d k o l s.
      let f = (layered_sound h m es [] sound order).fitting v sv d k o l s in
      fits_at c d y.0 k o (eqb d c) refl y.1 y.2 n.sort s (listed_down es m.state.opens d k l).0 f.0 f.1 in
      let w = layered_free h m es [] sound order (put_at v c y.0) fine in
      let at : (d : ℕ) → has es d ≡ true → w.0 d ≡ put_at v c y.0 d = λ d i. let o = entry_open m.state es d order i in w.2 d (classed es d) (listed_up es m.state.opens d o.0 o.1) in
      (w.0, w.1, λ e. y.3 (e ∙ at c q ∙ put_here v c y.0), λ d i ne. sym (at d i ∙ ap (λ b. cond b y.0 (v d)) (ne_eqb d c ne)))

pub one_class : (k : ℕ) → k ≤ 3 → ((single k).0 < 16) × (0 < (single k).0) × (compatible (single k) ≡ true)
one_class zero l = (omega arith, omega arith, refl)
one_class (suc zero) l = (omega arith, omega arith, refl)
one_class (suc (suc zero)) l = (omega arith, omega arith, refl)
one_class (suc (suc (suc zero))) l = (omega arith, omega arith, refl)
one_class (suc (suc (suc (suc k)))) l = absurd (omega arith)

-- one open code more, d, in the class k exactly when c is
pub crowded :
    (h : ℕ) (m : Meaning) (es : List Entry) (ts : List (List Entry)) (k c : ℕ) (d : Code) → Sound (kind_of h 0) m → InOrder m.state es → k ≤ 3 → 128 ≤ length es → has es d.0 ≡ false → Open m.state d.0
    → m.state.sort_of d.0 ≡ some OfType → ((v : Valuation) → m.state.solves v → Within k c v → Within k d.0 v) → ((v : Valuation) → m.state.solves v → Within k d.0 v → Within k c v)
    → Crowded (layered m es ts) (Within k c)
crowded h m es ts k c d sound order l full new o s there back =
    let i = one_class k l in
    let fs = joined es d (single k) in
    let more : InOrder m.state fs = joined_order m.state es d (single k) o s i.0 i.1 (ap (λ (u : Classes). compatible (both u (single k))) (classed_none es d.0 new) ∙ i.2) order in
    let j : (v : Valuation) → m.state.solves v × Meets es v → Within k c v → Meets fs v = λ v p w.
    (joined_meets es d (single k) v).1 p.1 ((single_within k d.0 v (sound.sorted v p.0 d.0 OfType s)).1 (there v p.0 w)) in
    let n : (v : Valuation) → m.state.solves v × Meets fs v → (m.state.solves v × Meets es v) × Within k c v = λ v p.
    let q = (joined_meets es d (single k) v).0 p.1 in
    ((p.0, q.0), back v p.0 ((single_within k d.0 v (sound.sorted v p.0 d.0 OfType s)).0 q.1)) in
    record {
      who = codes fs;
      many = omega (arith, length-map fs (λ (e : Entry). e.code.0), ap length (joined_last es d (single k) new), length-append es (record { code = d; set = single k } ∷ []));
      different = codes_different m.state fs more;
      held = λ a b.
          let e = entered m.state fs a more (codes_has fs a b) in
          let x = some_asked (classed fs a).0 e.four e.some_class in
          (x.0, λ v p w. allowed_in (classed fs a) a x.0 v (sound.sorted v p.0 a OfType e.sort) (meets_classed fs a v (j v p w)) x.1);
      alone = λ a b.
          let v = (layered_sound h m fs [] sound more).some in
          let w = changed h m fs sound more v.0 v.1 a (codes_has fs a b) in
          let p = n v.0 v.1 in
          let q = n w.0 w.1 in
          (v.0, w.0, p.0, p.1, q.0, q.1, w.2, λ e f ne. w.3 e (codes_has fs e f) ne);
    }
