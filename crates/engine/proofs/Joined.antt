-- Runs put together: a form that was typed and then a rest are a run through both; a form that a fault stopped is stopped whatever the rest.
use Rattle.std.proofs.Common.{◌≡◌, ℕ, sym, refl, subst, arith}
use Rattle.ground.specs.Forms.{Form}
use Rattle.ground.specs.declared.place.Place.{Place}
use Rattle.system.specs.Meaning.{Kind}
use Rattle.system.specs.Requests.{Request, Reply}
use Rattle.engine.specs.Trees.{Tree, Binding, Scope, names}
use Rattle.engine.specs.Calls.{Calls, answer, use_name, typing}
use mathlib.Core.Option.{some}
use Rattle.engine.specs.Runs.{Outcome, typed, stopped, Ran, end}
use Rattle.engine.specs.Proper.{Proper}
use Rattle.engine.proofs.Through.{Through, stops, goes}
use Rattle.engine.proofs.FormRuns.{Passes, form_passes, binding_passes}

typed_inj : {a b : ℕ} → typed a ≡ typed b → a ≡ b
typed_inj e = cc

typed_stopped : {a f l : ℕ} {p : Place} → typed a ≡ stopped p f l → ⊥
typed_stopped e = let z : ◌≡◌ {A = ℕ} 0 1 = cc in omega arith

module _ {S : Type 0} (asked : S → Request → Reply → S → Type 0) (Scheme : S → ℕ → Scope → Tree → Type 0) where
  answered : {t u : S} {c : ℕ} {o : Outcome} → Ran asked Scheme t (answer c) o u → (o ≡ typed c) × (t ≡ u)
  answered end = (refl, refl)

  -- Of any calls that every run stops in or passes.
  module _ (calls : (ℕ → Calls) → Calls) (passes : Passes asked Scheme ℕ calls) where
    pub join : (s t u : S) (c : ℕ) (k : ℕ → Calls) (o : Outcome) → Ran asked Scheme s (calls answer) (typed c) t → Ran asked Scheme t (k c) o u → Ran asked Scheme s (calls k) o u
    join s t u c k o run more = go (passes s t answer (typed c) run)
      where
        go : Through asked Scheme ℕ calls (λ p f. Unit {0}) (λ s x t. Unit {0}) s answer (typed c) t → Ran asked Scheme s (calls k) o u
        go (stops p f l y e j) = absurd (typed_stopped e)
        go (goes v x y back r) =
            let a = answered r in
            back k o u (subst (λ (w : S). Ran asked Scheme w (k x) o u) (sym a.1) (subst (λ (d : ℕ). Ran asked Scheme t (k d) o u) (typed_inj a.0) more))

    pub halt : (s u : S) (p : Place) (f l : ℕ) (k : ℕ → Calls) → Ran asked Scheme s (calls answer) (stopped p f l) u → Ran asked Scheme s (calls k) (stopped p f l) u
    halt s u p f l k run = go (passes s u answer (stopped p f l) run)
      where
        go : Through asked Scheme ℕ calls (λ p f. Unit {0}) (λ s x t. Unit {0}) s answer (stopped p f l) u → Ran asked Scheme s (calls k) (stopped p f l) u
        go (stops q g m y e j) = j k
        go (goes v x y back r) = absurd (typed_stopped (sym (answered r).0))

  -- Of a form.
  pub join_form : (K : Kind) (e : Form) (E : Scope) → Proper K (names E) e → (s t u : S) (c : ℕ) (k : ℕ → Calls) (o : Outcome)
      → Ran asked Scheme s (typing e E answer) (typed c) t → Ran asked Scheme t (k c) o u → Ran asked Scheme s (typing e E k) o u
  join_form K e E pr = join (typing e E) (form_passes asked Scheme K e E pr)

  pub halt_form : (K : Kind) (e : Form) (E : Scope) → Proper K (names E) e → (s u : S) (p : Place) (f l : ℕ) (k : ℕ → Calls)
      → Ran asked Scheme s (typing e E answer) (stopped p f l) u → Ran asked Scheme s (typing e E k) (stopped p f l) u
  halt_form K e E pr = halt (typing e E) (form_passes asked Scheme K e E pr)

  -- Of what a name is bound to.
  pub join_name : (q : Place) (b : Binding) (s t u : S) (c : ℕ) (k : ℕ → Calls) (o : Outcome)
      → Ran asked Scheme s (use_name q (some b) answer) (typed c) t → Ran asked Scheme t (k c) o u → Ran asked Scheme s (use_name q (some b) k) o u
  join_name q b = join (use_name q (some b)) (binding_passes asked Scheme q b)

  pub halt_name : (q : Place) (b : Binding) (s u : S) (p : Place) (f l : ℕ) (k : ℕ → Calls)
      → Ran asked Scheme s (use_name q (some b) answer) (stopped p f l) u → Ran asked Scheme s (use_name q (some b) k) (stopped p f l) u
  halt_name q b = halt (use_name q (some b)) (binding_passes asked Scheme q b)
