-- Typing from a system without a code: what is typed has just the types that belong, and its scheme can be kept for good.
use Rattle.std.proofs.Common.{◌≡◌, ℕ, ◌≤◌, sym, ◌∙◌, arith}
use mathlib.Core.Option.{Option, some, none}
use Rattle.ground.specs.Values.{Ty, of_type}
use Rattle.ground.specs.Forms.{Form}
use Rattle.ground.specs.Belongs.{Alike, Belongs}
use Rattle.ground.specs.declared.place.Place.{Place}
use Rattle.ground.specs.declared.sort.Sort.{Sort}
use Rattle.ground.specs.declared.sort.Sort.TheVariants.{«Type» as OfType}
use Rattle.ground.proofs.Belonging.{belongs_alike}
use Rattle.system.specs.Meaning.{Kind, Valuation, Meaning, Sound, Known, Agree}
use Rattle.system.specs.Requests.{Request, Reply}
use Rattle.system.specs.Follows.{Follows}
use Rattle.engine.specs.Trees.{Tree, Scope, Types, scheme, names, env}
use Rattle.engine.specs.Calls.{answer, typing}
use Rattle.engine.specs.Runs.{typed, stopped}
use Rattle.system.specs.Replies.{Looks}
use Rattle.engine.specs.Schemes.{TreeOf}
use Rattle.engine.specs.Scopes.{Ready, Fine}
use Rattle.engine.specs.Proper.{Proper}
use Rattle.engine.proofs.Steps.{Run}
use Rattle.engine.proofs.Ready.{env_alike, agree_level}
use Rattle.engine.specs.Standing.{Closed}
use Rattle.engine.proofs.Closed.{NoCode, tree_closed, closed_grown, closed_types}
use Rattle.engine.proofs.SchemeOf.{tree_grown, sort_at, classes_at}
use Rattle.engine.proofs.Let.{scheme_types}
use Rattle.engine.proofs.Exactness.{stepped, typing_exact, typing_refused}

module _ {S : Type 0} (K : Kind) (meaning : S → Meaning) (asked : S → Request → Reply → S → Type 0) (rank : S → ℕ → ℕ)
    (follows : (s t : S) (q : Request) (r : Reply) → asked s q r t → Follows K (meaning s) q r (meaning t))
    (sound : (s : S) → Sound K (meaning s))
    (looks : (s : S) (c : ℕ) → Known (meaning s).state c → Looks (rank s) (meaning s) c) where
  -- From a system without a code, the names have the same types under all solutions, and what is typed has just the types that belong.
  module _ (s u : S) (E : Scope) (e : Form) (empty : (c : ℕ) → (meaning s).state.sort_of c ≡ none) (rd : Ready K (meaning s) E) (pr : Proper K (names E) e) where
    unknown : (v w : Valuation) → Agree (meaning s).state v w
    unknown v w c k = absurd (let z : ◌≡◌ {A = Option Sort} none (some k.0) = sym (empty c) ∙ k.1 in let y : ◌≡◌ {A = ℕ} 0 1 = cc in omega arith)

    solved : (v : Valuation) → (meaning s).state.solves v
    solved v = let w = (sound s).some in (sound s).blind w.0 v w.1 (unknown w.0 v)

    any_solution : (v w : Valuation) → Alike (env v E) (env w E)
    any_solution v w = env_alike K (meaning s) E rd v w (solved v) (solved w) (agree_level K (meaning s) E rd v w (unknown v w))

    pub root_types : (c : ℕ) → Run meaning asked rank s (typing e E answer) (typed c) u → (v : Valuation) (T : Ty)
        → (Belongs (env v E) e T → (w : Valuation) × (meaning u).state.solves w × (w c ≡ of_type T)) × ((w : Valuation) × (meaning u).state.solves w × (w c ≡ of_type T) → Belongs (env v E) e T)
    root_types c run v T =
        let d = typing_exact K meaning asked rank follows sound looks s u E e c pr rd run in (
          λ h. let w = d.exact.complete v T (solved v) h in (w.0, w.2, w.3),
          λ w. belongs_alike e (env w.0 E) (env v E) (any_solution w.0 v) T (d.exact.sound w.0 w.1 T w.2),
        )

    -- Some type belongs.
    pub root_some : (c : ℕ) → Run meaning asked rank s (typing e E answer) (typed c) u → (v : Valuation) → (T : Ty) × Belongs (env v E) e T
    root_some c run v =
        let d = typing_exact K meaning asked rank follows sound looks s u E e c pr rd run in
        let w = (sound u).some in
        let T = d.has_type w.0 w.1 in
        (T.0, (root_types c run v T.0).1 (w.0, w.1, T.1))

    -- None belongs to what is refused.
    pub root_none : (p : Place) (f l : ℕ) → f ≤ 15 → Run meaning asked rank s (typing e E answer) (stopped p f l) u → (v : Valuation) (T : Ty) → Belongs (env v E) e T → ⊥
    root_none p f l h run v T y = (typing_refused K meaning asked rank follows sound looks s u E e p f l pr rd run).nothing h v (solved v) T y

    -- Where no fun or rec name is in scope, the scheme of the code can be kept for good, and has just the types that belong.
    pub root_scheme : NoCode E → (c : ℕ) (g : Tree) → Run meaning asked rank s (typing e E answer) (typed c) u → TreeOf (rank u) (meaning u) E c g
        → Closed g × ((n : Meaning) (F : Scope) → Fine K n F (scheme g)) × ((v : Valuation) (T : Ty) → (Belongs (env v E) e T → Types v (scheme g) T) × (Types v (scheme g) T → Belongs (env v E) e T))
    root_scheme nc c g run tr =
        let st = stepped K meaning asked rank follows sound looks s u E e c pr rd run in
        let cl = tree_closed (rank u) (meaning u) E nc tr in
        let w = (sound u).some in (
          cl,
          λ n F. (
            sort_at (meaning u),
            classes_at (meaning u).state.opens,
            closed_grown K (sort_at (meaning u)) (classes_at (meaning u).state.opens) (meaning u) n E F g OfType cl (tree_grown K (rank u) (meaning u) E (sound u) tr OfType st.known.0),
          ),
          λ v T.
              let same = scheme_types K meaning asked rank follows sound looks s u E e c g rd st tr w.0 w.1 T in (
                λ h. closed_types g cl w.0 v T (same.0 (belongs_alike e (env v E) (env w.0 E) (any_solution v w.0) T h)),
                λ h. belongs_alike e (env w.0 E) (env v E) (any_solution w.0 v) T (same.1 (closed_types g cl v w.0 T h)),
              ),
        )
