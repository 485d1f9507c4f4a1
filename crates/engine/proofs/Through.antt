-- Runs through calls with an open rest: a fault stops them, whatever the rest, or the rest is come to.
use Rattle.std.proofs.Common.{◌≡◌, ℕ, refl}
use Rattle.ground.specs.declared.place.Place.{Place}
use Rattle.system.specs.Requests.{Request, Reply, code, done, fault}
use Rattle.engine.specs.Trees.{Tree, Scope}
use Rattle.engine.specs.Calls.{Calls, ask, tell, bind}
use Rattle.engine.specs.Runs.{Outcome, stopped, Ran, got_code, no_code, told, not_told, looked_at}

module _ {S : Type 0} (asked : S → Request → Reply → S → Type 0) (Scheme : S → ℕ → Scope → Tree → Type 0) where
  -- A fault f stopped the calls at the place p, of which Q holds; or they led from s to t, where the rest takes over at x, and R holds of s, x and t.
  pub data Through (X : Type 0) (calls : (X → Calls) → Calls) (Q : Place → ℕ → Type 0) (R : S → X → S → Type 0) (s : S) (k : X → Calls) (o : Outcome) (u : S) : Type 0 where
    stops : (p : Place) (f l : ℕ) → Q p f → o ≡ stopped p f l → ((j : X → Calls) → Ran asked Scheme s (calls j) o u) → Through X calls Q R s k o u
    goes : (t : S) (x : X) → R s x t → ((j : X → Calls) (e : Outcome) (v : S) → Ran asked Scheme t (j x) e v → Ran asked Scheme s (calls j) e v) → Ran asked Scheme t (k x) o u
        → Through X calls Q R s k o u

  -- Every run through the calls is so.
  abbrev pub Piece : (X : Type 0) → ((X → Calls) → Calls) → (Place → ℕ → Type 0) → (S → X → S → Type 0) → Type 0
  Piece X calls Q R = (s u : S) (k : X → Calls) (o : Outcome) → Ran asked Scheme s (calls k) o u → Through X calls Q R s k o u

  -- No call.
  pub none_piece : {X : Type 0} (x : X) (Q : Place → ℕ → Type 0) (R : S → X → S → Type 0) → ((s : S) → R s x s) → Piece X (λ k. k x) Q R
  none_piece x Q R r s u k o run = goes s x (r s) (λ j e v y. y) run

  -- A call that answers a code.
  pub ask_piece : (p : Place) (q : Request) (Q : Place → ℕ → Type 0) (R : S → ℕ → S → Type 0)
      → ((s t : S) (c : ℕ) → asked s q (code c) t → R s c t)
      → ((s t : S) (f l : ℕ) → asked s q (fault f l) t → Q p f)
      → Piece ℕ (ask p q) Q R
  ask_piece p q Q R on off s u k o (got_code {t = t} {c = c} a r) = goes t c (on s t c a) (λ j e v y. got_code a y) r
  ask_piece p q Q R on off s u k o (no_code {f = f} {l = l} a) = stops p f l (off s u f l a) refl (λ j. no_code a)

  -- A call that answers nothing.
  pub tell_piece : (p : Place) (q : Request) (Q : Place → ℕ → Type 0) (R : S → Unit {0} → S → Type 0)
      → ((s t : S) → asked s q done t → R s tt t)
      → ((s t : S) (f l : ℕ) → asked s q (fault f l) t → Q p f)
      → Piece (Unit {0}) (λ k. tell p q (k tt)) Q R
  tell_piece p q Q R on off s u k o (told {t = t} a r) = goes t tt (on s t a) (λ j e v y. told a y) r
  tell_piece p q Q R on off s u k o (not_told {f = f} {l = l} a) = stops p f l (off s u f l a) refl (λ j. not_told a)

  -- No call: a scheme is bound.
  pub bind_piece : (c : ℕ) (E : Scope) (Q : Place → ℕ → Type 0) (R : S → Tree → S → Type 0) → ((s : S) (t : Tree) → Scheme s c E t → R s t s) → Piece Tree (bind c E) Q R
  bind_piece c E Q R on s u k o (looked_at {t = t} h r) = goes s t (on s t h) (λ j e v y. looked_at h y) r

  -- One piece and then another, which may depend on what the first came to.
  pub then_piece : {X Y : Type 0} {calls : (X → Calls) → Calls} {Q : Place → ℕ → Type 0} {R : S → X → S → Type 0} (next : X → (Y → Calls) → Calls) (P : X → S → Y → S → Type 0) (W : S → Y → S → Type 0)
      → Piece X calls Q R
      → ((x : X) → Piece Y (next x) Q (P x))
      → ((s t u : S) (x : X) (y : Y) → R s x t → P x t y u → W s y u)
      → Piece Y (λ k. calls (λ x. next x k)) Q W
  then_piece {X} {Y} {calls} {Q} {R} next P W one two join s u k o run = go (one s u (λ x. next x k) o run)
    where
      on : (t : S) (x : X) → R s x t → ((j : X → Calls) (e : Outcome) (v : S) → Ran asked Scheme t (j x) e v → Ran asked Scheme s (calls j) e v) → Through Y (next x) Q (P x) t k o u
          → Through Y (λ k. calls (λ x. next x k)) Q W s k o u
      on t x r back (stops p f l q e j) = stops p f l q e (λ i. back (λ x. next x i) o u (j i))
      on t x r back (goes v y q j z) = goes v y (join s t v x y r q) (λ i e w a. back (λ x. next x i) e w (j i e w a)) z

      go : Through X calls Q R s (λ x. next x k) o u → Through Y (λ k. calls (λ x. next x k)) Q W s k o u
      go (stops p f l q e j) = stops p f l q e (λ i. j (λ x. next x i))
      go (goes t x r back y) = on t x r back (two x t u k o y)
