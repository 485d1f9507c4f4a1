-- What comes of calls that a system is asked in their order, and what is promised of a form that is typed so.
use Rattle.std.specs.Prelude.{◌≡◌, ℕ, ◌≤◌}
use Rattle.std.proofs.Math.Option.{some}
use Rattle.ground.specs.Values.{Ty, of_type}
use Rattle.ground.specs.Forms.{Form}
use Rattle.ground.specs.Belongs.{Belongs}
use Rattle.ground.specs.declared.place.Place.{Place}
use Rattle.ground.specs.declared.sort.Sort.{Sort}
use Rattle.ground.specs.declared.sort.Sort.TheVariants.{«Type» as OfType}
use Rattle.system.specs.Meaning.{Valuation, Meaning, Agree}
use Rattle.system.specs.Requests.{Request, Reply, code as aCode, done, fault}
use Rattle.engine.specs.Trees.{Tree, Scope, env}
use Rattle.engine.specs.Calls.{Calls, answer, ask, tell, bind}

-- How calls end.
pub data Outcome : Type 0 where
  -- typed, with this code
  typed : ℕ → Outcome
  -- stopped at this place by a fault of this number, found by this layer
  stopped : Place → ℕ → ℕ → Outcome

-- asked s q r t: in the state s the request q was answered r and led to t. Scheme s c E t: the tree t is that of the code c in the state s, under
-- the names of E.
module _ {S : Type 0} (asked : S → Request → Reply → S → Type 0) (Scheme : S → ℕ → Scope → Tree → Type 0) where
  -- The calls were asked in their order, from one state to another, and came to the outcome. The first fault ends them.
  pub data Ran : S → Calls → Outcome → S → Type 0 where
    end : {s : S} {c : ℕ} → Ran s (answer c) (typed c) s
    got_code :
        {s t u : S} {p : Place} {q : Request} {k : ℕ → Calls} {c : ℕ} {o : Outcome}
        → asked s q (aCode c) t
        → Ran t (k c) o u
        → Ran s (ask p q k) o u
    no_code : {s t : S} {p : Place} {q : Request} {k : ℕ → Calls} {f l : ℕ} → asked s q (fault f l) t → Ran s (ask p q k) (stopped p f l) t
    told : {s t u : S} {p : Place} {q : Request} {k : Calls} {o : Outcome} → asked s q done t → Ran t k o u → Ran s (tell p q k) o u
    not_told : {s t : S} {p : Place} {q : Request} {k : Calls} {f l : ℕ} → asked s q (fault f l) t → Ran s (tell p q k) (stopped p f l) t
    looked_at :
        {s u : S} {c : ℕ} {E : Scope} {t : Tree} {k : Tree → Calls} {o : Outcome}
        → Scheme s c E t
        → Ran s (k t) o u
        → Ran s (bind c E k) o u

-- A form was typed from the meaning m to n, with the code c, in the scope E. Typing is exact: a type belongs to the form under a solution of m
-- just where a solution of n goes on from that one and gives the type to c.
pub record Exact (m : Meaning) (E : Scope) (e : Form) (n : Meaning) (c : ℕ) : Type 0 where
  pub sound : (v : Valuation) → n.state.solves v → (T : Ty) → v c ≡ of_type T → Belongs (env v E) e T
  pub complete :
      (v : Valuation) (T : Ty)
      → m.state.solves v
      → Belongs (env v E) e T
      → (w : Valuation) × Agree m.state v w × n.state.solves w × (w c ≡ of_type T)

-- All that a typing keeps to: it is exact; its code is a type's; known codes stay known; solutions after it are solutions before it; and each
-- gives the code a type.
pub record Done (m : Meaning) (E : Scope) (e : Form) (n : Meaning) (c : ℕ) : Type 0 where
  pub exact : Exact m E e n c
  pub sort : n.state.sort_of c ≡ some OfType
  pub old : (d : ℕ) (o : Sort) → m.state.sort_of d ≡ some o → n.state.sort_of d ≡ some o
  pub down : (v : Valuation) → n.state.solves v → m.state.solves v
  pub has_type : (v : Valuation) → n.state.solves v → (T : Ty) × (v c ≡ of_type T)

-- No type belongs to the form, whatever the solution.
abbrev pub Nothing : Meaning → Scope → Form → Type 0
Nothing m E e = (v : Valuation) → m.state.solves v → (T : Ty) → Belongs (env v E) e T → ⊥

-- A typing that the fault f stops: one of 12 to 17 alone can, and one of 12 to 15 only where no type belongs.
pub record Refused (m : Meaning) (E : Scope) (e : Form) (f : ℕ) : Type 0 where
  pub least : 12 ≤ f
  pub most : f ≤ 17
  pub nothing : f ≤ 15 → Nothing m E e
