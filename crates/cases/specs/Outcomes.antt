-- What the typing of the worked cases comes to over any system with the four classes.
use Rattle.std.specs.Prelude.{◌≡◌, ℕ, ◌≤◌, true}
use Rattle.std.proofs.Math.Option.{none}
use Rattle.ground.specs.Values.{Ty, whole, flag, to, of_type}
use Rattle.ground.specs.Forms.{Form}
use Rattle.ground.specs.declared.place.Place.{Place}
use Rattle.script.specs.Faults.{span}
use Rattle.system.specs.Meaning.{Valuation, Meaning}
use Rattle.system.specs.Requests.{Request, Reply}
use Rattle.engine.specs.Calls.{answer, typing}
use Rattle.engine.specs.Schemes.{Scheme}
use Rattle.engine.specs.Runs.{Outcome, typed, stopped, Ran}
use Rattle.engine.specs.Builtins.{built_in_scope}
use Rattle.cases.specs.Scripts.{self, twice, sum, negated, held, empty, largest}
use Rattle.cases.specs.Cases.{Number}

-- The form is not typed. A fault stops it, at the place p unless it is 16 or 17.
abbrev pub StopsAt : Place → Outcome → Type 0
StopsAt p (typed c) = ⊥
StopsAt p (stopped q f l) = (12 ≤ f) × (f ≤ 17) × (f ≤ 15 → q ≡ p)

-- The form is typed, with a code that has the types in P and no others in the solutions of m, unless 16 or 17 stops it.
abbrev pub Comes : Meaning → (Ty → Type 0) → Outcome → Type 0
Comes m P (typed c) =
    (T : Ty)
    → ((w : Valuation) × m.state.solves w × (w c ≡ of_type T) → P T) × (P T → (w : Valuation) × m.state.solves w × (w c ≡ of_type T))
Comes m P (stopped q f l) = (16 ≤ f) × (f ≤ 17)

-- The system: which of its states are fine, what they mean, what was asked and answered in them, and the rank that falls from a head to its children.
module _
    {S : Type 0}
    (ok : S → Type 0)
    (meaning : S → Meaning)
    (asked : S → Request → Reply → S → Type 0)
    (rank : S → ℕ → ℕ)
  where
    -- From a fine state without a code, under the built-in names, the calls of the form came to the outcome.
    pub record Typed (e : Form) (o : Outcome) (u : S) : Type 0 where
      pub from : S
      pub fine : ok from
      pub new : (c : ℕ) → (meaning from).state.sort_of c ≡ none
      pub ran : Ran asked (Scheme meaning rank) from (typing e (built_in_scope true) answer) o u

    -- Each case, whatever the system answers. The refused ones stop at these calls: (call f f), (call g 1), all of it, (call hold p).
    pub record WorkedRuns : Type 0 where
      pub self : (o : Outcome) (u : S) → Typed self o u → StopsAt (span 7 10) o
      pub twice : (o : Outcome) (u : S) → Typed twice o u → StopsAt (span 33 10) o
      pub sum : (o : Outcome) (u : S) → Typed sum o u → Comes (meaning u) (λ T. (A : Ty) × Number A × (T ≡ to A A)) o
      pub negated : (o : Outcome) (u : S) → Typed negated o u → StopsAt (span 0 14) o
      pub held : (o : Outcome) (u : S) → Typed held o u → StopsAt (span 34 13) o
      pub empty : (o : Outcome) (u : S) → Typed empty o u → Comes (meaning u) (λ T. T ≡ flag) o
      pub largest : (o : Outcome) (u : S) → Typed largest o u → Comes (meaning u) (λ T. T ≡ whole) o
