-- How a program knows what is reached: the codes that it came to by looking, from the names on. Whatever looks it was answered, an open code that
-- it did not come to is reached by no other looks either.
use Rattle.std.proofs.Common.{◌≡◌, ℕ, zero, suc, ◌^◌, ◌<◌, true, leb, sym, ap, ◌∙◌, subst, arith, ltb-true}
use mathlib.Core.Option.{some}
use native.Mathlib.Decide.{ℕ_discrete}
use Rattle.ground.specs.Values.{Value}
use Rattle.ground.specs.Sorts.{Of}
use Rattle.ground.specs.Classes.{Allowed}
use Rattle.ground.specs.Heads.{has_first, has_second}
use Rattle.ground.specs.declared.sort.Sort.{Sort}
use Rattle.ground.specs.declared.sort.Sort.TheVariants.{«Type» as OfType, Field as OfField, Row as OfRow}
use Rattle.ground.specs.declared.classes.Classes.{Classes}
use Rattle.ground.specs.declared.head.Head.{Head}
use Rattle.ground.proofs.Built.{builds_swap, builds_one}
use Rattle.ground.proofs.Another.{Small, another}
use Rattle.system.specs.Meaning.{Kind, Valuation, Meaning, Sound, Listed, Fitting, knows_sort, small}
use Rattle.system.specs.Replies.{Stands, Shaped}
use Rattle.system.proofs.Takes.{both}
use Rattle.engine.specs.Trees.{Scope}
use Rattle.engine.specs.Schemes.{Mono, Reached}
use Rattle.engine.proofs.Asks.{set, set_here, set_there}
use Rattle.engine.proofs.SchemeOf.{reached_fixed, classes_at, listed_at, some_inj}

known_small : (K : Kind) (o : Sort) → knows_sort K o ≡ true → Small o
known_small K OfType e = tt
known_small K OfField e = tt
known_small K (OfRow m) e = ltb-true m.0 (2 ^ 24) (both (leb 10 K.heads) (small m) e).1

module _ (K : Kind) (rank : ℕ → ℕ) (m : Meaning) (E : Scope) (snd : Sound K m) where
  -- What a look at c showed is in V.
  pub data Within (V : ℕ → Type 0) (c : ℕ) : Type 0 where
    open_in : (d : ℕ) (k : Classes) → Stands m c d k → V d → Within V c
    built_in : (h : Head) (x y l : ℕ) → Shaped rank m c h x y l → (has_first h ≡ true → V x) → (has_second h ≡ true → V y) → Within V c

  module _ (V : ℕ → Type 0) (names : (c : ℕ) → Mono E c → V c) (closed : (c : ℕ) → V c → Within V c) where
    level : (v w : Valuation) → m.state.solves v → m.state.solves w → ((d : ℕ) (k : Classes) → Listed m.state.opens d k → V d → v d ≡ w d)
        → (n c : ℕ) → rank c < n → V c → v c ≡ w c
    level v w sv sw f zero c lt i = absurd (omega arith)
    level v w sv sw f (suc n) c lt i = go (closed c i) (level v w sv sw f n)
      where
        go : Within V c → ((d : ℕ) → rank d < n → V d → v d ≡ w d) → v c ≡ w c
        go (open_in d k s j) ih = s.equal v sv ∙ f d k s.listed j ∙ sym (s.equal w sw)
        go (built_in h x y l b p q) ih =
            builds_one h l (w x) (w y) (v c) (w c)
            (builds_swap h l (v x) (v y) (w x) (w y) (v c)
            (λ e. let z = b.first_falls e in ih x (omega arith) (p e))
            (λ e. let z = b.second_falls e in ih y (omega arith) (q e))
            (b.builds v sv))
            (b.builds w sw)

    pub not_reached : (d : ℕ) (k : Classes) → Listed m.state.opens d k → (V d → ⊥) → Reached rank m E d → ⊥
    not_reached d k l out r =
        let v = snd.some.0 in
        let sv = snd.some.1 in
        let o = snd.known d k l in
        let f = snd.fitting v sv d k o.0 l o.1 in
        let y = another o.0 k (v d) (known_small K o.0 (snd.sorts d o.0 o.1)) f.0 f.1 in
        let a = set v d y.0 in
        let fit : Fitting m.state a = λ c j p i e. pick v sv y.0 o.0 o.1 y.1 y.2 c j p i e (ℕ_discrete c d) in
        let w = snd.free a fit in
        let agree : (c : ℕ) (j : Classes) → Listed m.state.opens c j → V c → v c ≡ w.0 c =
        λ c j i h. sym (w.2 c j i ∙ set_there v d y.0 c (λ e. out (subst V e h))) in
        let same = reached_fixed K rank m E snd v w.0 sv w.1 (λ c x. level v w.0 sv w.1 agree (suc (rank c)) c (omega arith) (names c x)) r in
        y.3 (same ∙ w.2 d k l ∙ set_here v d y.0)
      where
        pick : (v : Valuation) → m.state.solves v → (y : Value) (o : Sort) → m.state.sort_of d ≡ some o → Of o y → Allowed k y
            → (c : ℕ) (j : Classes) (p : Sort) → Listed m.state.opens c j → m.state.sort_of c ≡ some p → Dec (c ≡ d) → Of p (set v d y c) × Allowed j (set v d y c)
        pick v sv y o so oy ay c j p i e (yes q) =
            let z : set v d y c ≡ y = ap (set v d y) q ∙ set_here v d y in
            let po : o ≡ p = some_inj (sym so ∙ ap (λ x. m.state.sort_of x) (sym q) ∙ e) in
            let kj : k ≡ j = sym (listed_at m.state.opens d k snd.once l) ∙ ap (classes_at m.state.opens) (sym q) ∙ listed_at m.state.opens c j snd.once i in
            (subst (Of p) (sym z) (subst (λ (x : Sort). Of x y) po oy), subst (Allowed j) (sym z) (subst (λ (x : Classes). Allowed x y) kj ay))
        pick v sv y o so oy ay c j p i e (no q) =
            let z : set v d y c ≡ v c = set_there v d y c q in
            let f = snd.fitting v sv c j p i e in
            (subst (Of p) (sym z) f.0, subst (Allowed j) (sym z) f.1)
