-- What is shown of each form, and what is used for each.
use Rattle.std.proofs.Common.{◌≡◌, ℕ, true, List, [], ◌∷◌}
use mathlib.Core.Option.{some}
use Rattle.ground.specs.Values.{Ty, Row, Field, Value, of_type, of_field, of_row}
use Rattle.ground.specs.Forms.{Form}
use Rattle.ground.specs.Belongs.{Alike, Belongs}
use Rattle.ground.specs.declared.sort.Sort.TheVariants.{«Type» as OfType}
use Rattle.system.specs.Meaning.{Kind, Valuation, Meaning, Agree}
use Rattle.system.specs.Requests.{Request, equate, Reply, fits}
use Rattle.system.proofs.Takes.{alike_of}
use Rattle.engine.specs.Trees.{Scope, names, env}
use Rattle.engine.specs.Calls.{Calls, typing}
use Rattle.engine.specs.Runs.{Outcome}
use Rattle.engine.specs.Scopes.{Ready}
use Rattle.engine.specs.Proper.{Proper}
use Rattle.engine.proofs.Steps.{Codes, Claim, Stage, Run, Res}
use Rattle.engine.proofs.Ready.{ready_later, agree_level, env_alike}

pub type_inj : {a b : Ty} → of_type a ≡ of_type b → a ≡ b
type_inj e = cc

pub row_inj : {a b : Row} → of_row a ≡ of_row b → a ≡ b
row_inj e = cc

pub field_inj : {a b : Field} → of_field a ≡ of_field b → a ≡ b
field_inj e = cc

-- The types that a claim gives the names are theirs in a later solution too.
pub moved : (K : Kind) {m : Meaning} {A : Type 0} {Ok : Valuation → A → Type 0} (E : Scope) → Ready K m E → (h : Claim m A Ok) (w : Valuation) → m.state.solves w → Agree m.state h.val w → Alike (env h.val E) (env w E)
moved K {m} E r h w sw ag = env_alike K m E r h.val w h.solved sw (agree_level K m E r h.val w ag)

-- A scope that forms can be typed in stays so.
pub later : (K : Kind) {m n : Meaning} {A : Type 0} {Ok : Valuation → A → Type 0} {J : Valuation → Type 0} {cs : Codes} {xs : Claim m A Ok → List Value}
    → Stage m A Ok n J cs xs → (E : Scope) → Ready K m E → Ready K n E
later K {m} {n} st E r = ready_later K m n st.old (λ v sv. (st.down v sv).0) E r

-- Two codes of types can be equated.
pub equal : (K : Kind) (m : Meaning) (a b : ℕ) → m.state.sort_of a ≡ some OfType → m.state.sort_of b ≡ some OfType → fits K m (equate a b) ≡ true
equal K m a b p q = alike_of (m.state.sort_of a) (m.state.sort_of b) OfType p q

-- The typing of a form is exact, whatever comes after it.
module _ {S : Type 0} (K : Kind) (meaning : S → Meaning) (asked : S → Request → Reply → S → Type 0) (rank : S → ℕ → ℕ) where
  abbrev pub Typer : Form → Type 0
  Typer e = (s u : S) (E : Scope) (k : ℕ → Calls) (out : Outcome) → Proper K (names E) e → Ready K (meaning s) E → Run meaning asked rank s (typing e E k) out u
      → Res meaning asked rank s Ty (λ v T. Belongs (env v E) e T) (λ c. (c, OfType) ∷ []) (λ T. of_type T ∷ []) k out u
