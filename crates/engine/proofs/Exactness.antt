-- The main theorem: over any system, the typing of a form is exact.
use Rattle.std.proofs.Common.{◌≡◌, ℕ, [], ◌∷◌, sym, refl, ◌∙◌, subst, arith}
use Rattle.ground.specs.Values.{Ty, of_type}
use Rattle.ground.specs.Forms.{Form}
use Rattle.ground.specs.Belongs.{Belongs}
use Rattle.ground.specs.declared.place.Place.{Place}
use Rattle.ground.specs.declared.sort.Sort.TheVariants.{«Type» as OfType}
use Rattle.system.specs.Meaning.{Kind, Meaning, Sound, Known}
use Rattle.system.specs.Requests.{Request, Reply}
use Rattle.system.specs.Follows.{Follows}
use Rattle.engine.specs.Trees.{Scope, names, env}
use Rattle.engine.specs.Calls.{answer, typing}
use Rattle.engine.specs.Runs.{Outcome, typed, stopped, end, Done, Refused}
use Rattle.system.specs.Replies.{Looks}
use Rattle.engine.specs.Scopes.{Ready}
use Rattle.engine.specs.Proper.{Proper}
use Rattle.engine.proofs.Steps.{Step, Run, Res, went, ended}
use Rattle.engine.proofs.Typers.{type_inj}
use Rattle.engine.proofs.Forms.{types}

typed_inj : {a b : ℕ} → typed a ≡ typed b → a ≡ b
typed_inj e = cc

typed_stopped : {a f l : ℕ} {p : Place} → typed a ≡ stopped p f l → ⊥
typed_stopped e = let z : ◌≡◌ {A = ℕ} 0 1 = cc in omega arith

fault_inj : {p q : Place} {f g l k : ℕ} → stopped p f l ≡ stopped q g k → f ≡ g
fault_inj e = cc

module _ {S : Type 0} (K : Kind) (meaning : S → Meaning) (asked : S → Request → Reply → S → Type 0) (rank : S → ℕ → ℕ)
    (follows : (s t : S) (q : Request) (r : Reply) → asked s q r t → Follows K (meaning s) q r (meaning t))
    (sound : (s : S) → Sound K (meaning s))
    (looks : (s : S) (c : ℕ) → Known (meaning s).state c → Looks (rank s) (meaning s) c) where
  answered : {t u : S} {c : ℕ} {o : Outcome} → Run meaning asked rank t (answer c) o u → (o ≡ typed c) × (t ≡ u)
  answered end = (refl, refl)

  abbrev pub Stepped : S → Scope → Form → S → ℕ → Type 0
  Stepped s E e t c = Step (meaning s) (meaning t) Ty (λ v T. Belongs (env v E) e T) ((c, OfType) ∷ []) (λ T. of_type T ∷ [])

  done : (s t : S) (E : Scope) (e : Form) (c : ℕ) → Stepped s E e t c → Done (meaning s) E e (meaning t) c
  done s t E e c st = record {
    exact = record {
      sound = λ v sv T q. let d = (st.down v sv).1 in subst (Belongs (env v E) e) (type_inj (sym d.1.0 ∙ q)) d.2;
      complete = λ v T sv h. let w = st.up v T sv h in (w.0, w.1, w.2, w.3.0);
    };
    sort = st.known.0;
    old = st.old;
    down = λ v sv. (st.down v sv).0;
    has_type = λ v sv. let d = (st.down v sv).1 in (d.0, d.1.0);
  }

  pub stepped : (s u : S) (E : Scope) (e : Form) (c : ℕ) → Proper K (names E) e → Ready K (meaning s) E → Run meaning asked rank s (typing e E answer) (typed c) u → Stepped s E e u c
  stepped s u E e c pr rd run = go (types K meaning asked rank follows sound looks e s u E answer (typed c) pr rd run)
    where
      go : Res meaning asked rank s Ty (λ v T. Belongs (env v E) e T) (λ c. (c, OfType) ∷ []) (λ T. of_type T ∷ []) answer (typed c) u → Stepped s E e u c
      go (went t d st r) =
          let a = answered r in
          subst (λ (x : S). Stepped s E e x c) a.1 (subst (λ (x : ℕ). Stepped s E e t x) (sym (typed_inj a.0)) st)
      go (ended x) = absurd (typed_stopped x.is)

  -- Of a form that is typed.
  pub typing_exact : (s u : S) (E : Scope) (e : Form) (c : ℕ) → Proper K (names E) e → Ready K (meaning s) E → Run meaning asked rank s (typing e E answer) (typed c) u → Done (meaning s) E e (meaning u) c
  typing_exact s u E e c pr rd run = done s u E e c (stepped s u E e c pr rd run)

  -- Of a form that a fault stops.
  pub typing_refused : (s u : S) (E : Scope) (e : Form) (p : Place) (f l : ℕ) → Proper K (names E) e → Ready K (meaning s) E → Run meaning asked rank s (typing e E answer) (stopped p f l) u → Refused (meaning s) E e f
  typing_refused s u E e p f l pr rd run = go (types K meaning asked rank follows sound looks e s u E answer (stopped p f l) pr rd run)
    where
      go : Res meaning asked rank s Ty (λ v T. Belongs (env v E) e T) (λ c. (c, OfType) ∷ []) (λ T. of_type T ∷ []) answer (stopped p f l) u → Refused (meaning s) E e f
      go (went t d st r) = absurd (typed_stopped (sym (answered r).0))
      go (ended x) =
          let q = fault_inj x.is in
          let a = x.least in
          let b = x.most in
          record {
            least = omega arith;
            most = omega arith;
            nothing = λ h v sv T y. x.none (omega arith) (record { val = v; ans = T; solved = sv; ok = y });
          }
