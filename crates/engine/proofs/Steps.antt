-- A run taken apart: what one piece of it does to the meaning, and how pieces go one after another.
use Rattle.std.proofs.Common.{◌≡◌, ℕ, ◌≤◌, List, [], ◌∷◌, ◌++◌, sym, refl, ◌∙◌}
use mathlib.Core.Option.{some}
use Rattle.ground.specs.Values.{Value}
use Rattle.ground.specs.declared.place.Place.{Place}
use Rattle.ground.specs.declared.sort.Sort.{Sort}
use Rattle.system.specs.Meaning.{Valuation, Meaning, Agree}
use Rattle.system.specs.Requests.{Request, Reply}
use Rattle.engine.specs.Calls.{Calls}
use Rattle.engine.specs.Runs.{Outcome, stopped, Ran}
use Rattle.engine.specs.Schemes.{Scheme}

-- Codes with their sorts.
abbrev pub Codes : Type 0
Codes = List (ℕ × Sort)

abbrev pub Sorts : Meaning → Codes → Type 0
Sorts n [] = Unit {0}
Sorts n (p ∷ ps) = (n.state.sort_of p.0 ≡ some p.1) × Sorts n ps

-- The valuation w gives the codes these values.
abbrev pub Match : Codes → List Value → Valuation → Type 0
Match [] [] w = Unit {0}
Match [] (x ∷ xs) w = ⊥
Match (p ∷ ps) [] w = ⊥
Match (p ∷ ps) (x ∷ xs) w = (w p.0 ≡ x) × Match ps xs w

pub match_join : (cs : Codes) (xs : List Value) (ds : Codes) (ys : List Value) (w : Valuation) → Match cs xs w → Match ds ys w → Match (cs ++ ds) (xs ++ ys) w
match_join [] [] ds ys w a b = b
match_join [] (x ∷ xs) ds ys w a b = absurd a
match_join (p ∷ ps) [] ds ys w a b = absurd a
match_join (p ∷ ps) (x ∷ xs) ds ys w a b = (a.0, match_join ps xs ds ys w a.1 b)

pub sorts_join : (n : Meaning) (cs ds : Codes) → Sorts n cs → Sorts n ds → Sorts n (cs ++ ds)
sorts_join n [] ds a b = b
sorts_join n (p ∷ ps) ds a b = (a.0, sorts_join n ps ds a.1 b)

pub match_moved : (n : Meaning) (cs : Codes) (xs : List Value) (v w : Valuation) → Sorts n cs → Agree n.state v w → Match cs xs v → Match cs xs w
match_moved n [] [] v w k a h = tt
match_moved n [] (x ∷ xs) v w k a h = absurd h
match_moved n (p ∷ ps) [] v w k a h = absurd h
match_moved n (p ∷ ps) (x ∷ xs) v w k a h = (sym (a p.0 (p.1, k.0)) ∙ h.0, match_moved n ps xs v w k.1 a h.1)

-- Known codes stay known.
abbrev pub Old : Meaning → Meaning → Type 0
Old m n = (c : ℕ) (o : Sort) → m.state.sort_of c ≡ some o → n.state.sort_of c ≡ some o

pub sorts_old : (m n : Meaning) → Old m n → (cs : Codes) → Sorts m cs → Sorts n cs
sorts_old m n o [] k = tt
sorts_old m n o (p ∷ ps) k = (o p.0 p.1 k.0, sorts_old m n o ps k.1)

-- A piece of a run: codes are made, and what they can be is just what Ok says, solution by solution.
pub record Step (m n : Meaning) (A : Type 0) (Ok : Valuation → A → Type 0) (cs : Codes) (made : A → List Value) : Type 0 where
  pub old : Old m n
  pub known : Sorts n cs
  pub down : (v : Valuation) → n.state.solves v → m.state.solves v × ((a : A) × Match cs (made a) v × Ok v a)
  pub up : (v : Valuation) (a : A) → m.state.solves v → Ok v a → (w : Valuation) × Agree m.state v w × n.state.solves w × Match cs (made a) w

-- An answer that holds in a solution.
pub record Claim (m : Meaning) (A : Type 0) (Ok : Valuation → A → Type 0) : Type 0 where
  pub val : Valuation
  pub ans : A
  pub solved : m.state.solves val
  pub ok : Ok val ans

-- What a piece of the run is known to have done, in a solution of what came of it.
pub record Did (n : Meaning) (A : Type 0) (Ok : Valuation → A → Type 0) (cs : Codes) (made : A → List Value) (v : Valuation) : Type 0 where
  pub now : n.state.solves v
  pub ans : A
  pub is : Match cs (made ans) v
  pub ok : Ok v ans

-- Pieces one after another, from m on; each claim in m leads to a solution with these values.
pub record Stage (m : Meaning) (A : Type 0) (Ok : Valuation → A → Type 0) (n : Meaning) (J : Valuation → Type 0) (cs : Codes) (xs : Claim m A Ok → List Value) : Type 0 where
  pub old : Old m n
  pub known : Sorts n cs
  pub down : (v : Valuation) → n.state.solves v → m.state.solves v × J v
  pub up : (h : Claim m A Ok) → (w : Valuation) × Agree m.state h.val w × n.state.solves w × Match cs (xs h) w

pub begin : (m : Meaning) (A : Type 0) (Ok : Valuation → A → Type 0) → Stage m A Ok m (λ v. Unit {0}) [] (λ h. [])
begin m A Ok = record {
  old = λ c o e. e;
  known = tt;
  down = λ v s. (s, tt);
  up = λ h. (h.val, λ c k. refl, h.solved, tt);
}

-- Stopped by a fault from 12 to 17, and by one up to 15 only if there is no claim.
pub record Ends (P : Type 0) (o : Outcome) : Type 0 where
  pub place : Place
  pub fault : ℕ
  pub layer : ℕ
  pub is : o ≡ stopped place fault layer
  pub least : 12 ≤ fault
  pub most : fault ≤ 17
  pub none : fault ≤ 15 → P → ⊥

pub ends_map : {P Q : Type 0} {o : Outcome} → (Q → P) → Ends P o → Ends Q o
ends_map f e = record {
  place = e.place;
  fault = e.fault;
  layer = e.layer;
  is = e.is;
  least = e.least;
  most = e.most;
  none = λ l q. e.none l (f q);
}

module _ {S : Type 0} (meaning : S → Meaning) (asked : S → Request → Reply → S → Type 0) (rank : S → ℕ → ℕ) where
  abbrev pub Run : S → Calls → Outcome → S → Type 0
  Run = Ran asked (Scheme meaning rank)

  -- What comes of a piece of a run that is followed by k.
  pub data Res (s : S) (A : Type 0) (Ok : Valuation → A → Type 0) (cs : ℕ → Codes) (made : A → List Value) (k : ℕ → Calls) (o : Outcome) (u : S) : Type 0 where
    went : (t : S) (c : ℕ) → Step (meaning s) (meaning t) A Ok (cs c) made → Run t (k c) o u → Res s A Ok cs made k o u
    ended : Ends (Claim (meaning s) A Ok) o → Res s A Ok cs made k o u

  -- One piece more.
  next :
      {m n p : Meaning} {A B : Type 0} {Ok : Valuation → A → Type 0} {OkB : Valuation → B → Type 0} {J : Valuation → Type 0}
      {cs ds : Codes} {xs : Claim m A Ok → List Value} {made : B → List Value}
      → Stage m A Ok n J cs xs
      → Step n p B OkB ds made
      → (pick : Claim m A Ok → B)
      → ((h : Claim m A Ok) (w : Valuation) → m.state.solves w → n.state.solves w → Agree m.state h.val w → Match cs (xs h) w → OkB w (pick h))
      → Stage m A Ok p (λ v. Did p B OkB ds made v × J v) (ds ++ cs) (λ h. made (pick h) ++ xs h)
  next {m} {n} {p} {A} {B} {Ok} {OkB} {J} {cs} {ds} {xs} {made} st e pick ok = record {
    old = λ c o k. e.old c o (st.old c o k);
    known = sorts_join p ds cs e.known (sorts_old n p e.old cs st.known);
    down = λ v s.
        let d = e.down v s in
        let g = st.down v d.0 in
        (g.0, (record { now = s; ans = d.1.0; is = d.1.1; ok = d.1.2 }, g.1));
    up = λ h.
        let g = st.up h in
        let w = g.0 in
        let r = e.up w (pick h) g.2 (ok h w (st.down w g.2).0 g.2 g.1 g.3) in
        let x = r.0 in (
          x,
          λ c k. g.1 c k ∙ r.1 c (k.0, st.old c k.0 k.1),
          r.2,
          match_join ds (made (pick h)) cs (xs h) x r.3 (match_moved n cs (xs h) w x st.known r.1 g.3),
        );
  }

  stops :
      {m n : Meaning} {A B : Type 0} {Ok : Valuation → A → Type 0} {OkB : Valuation → B → Type 0} {J : Valuation → Type 0}
      {cs : Codes} {xs : Claim m A Ok → List Value} {o : Outcome}
      → Stage m A Ok n J cs xs
      → (pick : Claim m A Ok → B)
      → ((h : Claim m A Ok) (w : Valuation) → m.state.solves w → n.state.solves w → Agree m.state h.val w → Match cs (xs h) w → OkB w (pick h))
      → Ends (Claim n B OkB) o
      → Ends (Claim m A Ok) o
  stops st pick ok e = ends_map (λ h. let g = st.up h in record { val = g.0; ans = pick h; solved = g.2; ok = ok h g.0 (st.down g.0 g.2).0 g.2 g.1 g.3 }) e

  -- A piece, and then the rest.
  pub after :
      {s₀ s u : S} {A B : Type 0} {Ok : Valuation → A → Type 0} {OkB : Valuation → B → Type 0} {J : Valuation → Type 0}
      {cs : Codes} {ds : ℕ → Codes} {fs : ℕ → Codes} {xs : Claim (meaning s₀) A Ok → List Value} {made : B → List Value} {made₀ : A → List Value} {k k₀ : ℕ → Calls} {o : Outcome}
      → Stage (meaning s₀) A Ok (meaning s) J cs xs
      → Res s B OkB ds made k o u
      → (pick : Claim (meaning s₀) A Ok → B)
      → ((h : Claim (meaning s₀) A Ok) (w : Valuation) → (meaning s₀).state.solves w → (meaning s).state.solves w → Agree (meaning s₀).state h.val w → Match cs (xs h) w → OkB w (pick h))
      → ((t : S) (c : ℕ) → Step (meaning s) (meaning t) B OkB (ds c) made → Stage (meaning s₀) A Ok (meaning t) (λ v. Did (meaning t) B OkB (ds c) made v × J v) (ds c ++ cs) (λ h. made (pick h) ++ xs h) → Run t (k c) o u → Res s₀ A Ok fs made₀ k₀ o u)
      → Res s₀ A Ok fs made₀ k₀ o u
  after st (went t c e r) pick ok go = go t c e (next st e pick ok) r
  after st (ended e) pick ok go = ended (stops st pick ok e)

  -- No piece is left: the code c is handed on.
  pub finish :
      {s₀ t u : S} {A : Type 0} {Ok : Valuation → A → Type 0} {J : Valuation → Type 0} {cs : Codes} {xs : Claim (meaning s₀) A Ok → List Value}
      {fs : ℕ → Codes} {made₀ : A → List Value} {k₀ : ℕ → Calls} {o : Outcome}
      → Stage (meaning s₀) A Ok (meaning t) J cs xs
      → (c : ℕ)
      → Sorts (meaning t) (fs c)
      → ((v : Valuation) → (meaning s₀).state.solves v → J v → (a : A) × Match (fs c) (made₀ a) v × Ok v a)
      → ((h : Claim (meaning s₀) A Ok) (w : Valuation) → Match cs (xs h) w → Match (fs c) (made₀ h.ans) w)
      → Run t (k₀ c) o u
      → Res s₀ A Ok fs made₀ k₀ o u
  finish {s₀} {t} st c kn read fits r =
      went t c
      (record {
        old = st.old;
        known = kn;
        down = λ v s. let d = st.down v s in (d.0, read v d.0 d.1);
        up = λ v a s k.
            let h : Claim (meaning s₀) _ _ = record { val = v; ans = a; solved = s; ok = k } in
            let g = st.up h in
            (g.0, g.1, g.2, fits h g.0 g.3);
      })
      r
