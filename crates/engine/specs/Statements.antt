-- What is shown of typing over every system.
use Rattle.std.specs.Prelude.{◌≡◌, ℕ, ◌+◌, ◌<◌, ◌≤◌, []}
use Rattle.ground.specs.Forms.{Form}
use Rattle.ground.specs.declared.place.Place.{Place}
use Rattle.system.specs.Meaning.{Kind, Meaning}
use Rattle.system.specs.Requests.{Request, Reply}
use Rattle.engine.specs.Trees.{Tree, Scope, names}
use Rattle.engine.specs.Calls.{Calls, answer, Given, copy, typing}
use Rattle.engine.specs.Schemes.{Scheme}
use Rattle.engine.specs.Runs.{Outcome, typed, stopped, Ran, Done, Refused}
use Rattle.engine.specs.Proper.{Proper}
use Rattle.engine.specs.Scopes.{Ready}
use Rattle.engine.specs.Standing.{Closed, AllClosed}
use Rattle.engine.specs.Snapshots.{items, newest, visits, built, height, kept}

-- The system knows K; ok, meaning, asked and rank are its own.
module _
    (K : Kind)
    {S : Type 0}
    (ok : S → Type 0)
    (meaning : S → Meaning)
    (asked : S → Request → Reply → S → Type 0)
    (rank : S → ℕ → ℕ)
  where
    -- The calls were asked in their order, and came to the outcome.
    abbrev pub Asked : S → Calls → Outcome → S → Type 0
    Asked = Ran asked (Scheme meaning rank)

    -- All that is shown.
    pub record TypingStands : Type 0 where
      -- A form that is typed has just the types that belong to it.
      pub exact :
          (s u : S) (E : Scope) (e : Form) (c : ℕ)
          → ok s
          → Proper K (names E) e
          → Ready K (meaning s) E
          → Asked s (typing e E answer) (typed c) u
          → Done (meaning s) E e (meaning u) c
      -- No type belongs to a form that 12 to 15 stops.
      pub refused :
          (s u : S) (E : Scope) (e : Form) (p : Place) (f l : ℕ)
          → ok s
          → Proper K (names E) e
          → Ready K (meaning s) E
          → Asked s (typing e E answer) (stopped p f l) u
          → Refused (meaning s) E e f
      -- The tree of a code is not high.
      pub low : (s : S) (E : Scope) (c : ℕ) (t : Tree) → ok s → Scheme meaning rank s c E t → height t ≤ (meaning s).capacity + 2
      -- What is kept of such a tree is copied by the calls of the whole tree.
      pub kept_serves :
          (s u : S) (p : Place) (t : Tree) (m : Given) (k : ℕ → Given → Calls) (o : Outcome)
          → ok s
          → height t ≤ (meaning s).capacity + 2
          → Asked s (visits p (kept (meaning s).capacity t) [] m (λ cs n. k (newest cs) n)) o u
          → Asked s (copy p t m k) o u
      -- A tree with more built places than there is room for is never copied with an answer.
      pub too_large :
          (s u : S) (p : Place) (t : Tree) (m : Given) (k : ℕ → Given → Calls) (o : Outcome)
          → ok s
          → (meaning s).capacity < (meaning s).state.count + built (items t)
          → Asked s (copy p t m k) o u
          → (f l : ℕ) × (o ≡ stopped p f l)
      -- Under names that are all schemes in which no code stays, as those of definitions are, no code stays in a scheme that is bound.
      pub closed : (s : S) (E : Scope) (c : ℕ) (t : Tree) → AllClosed E → Scheme meaning rank s c E t → Closed t
