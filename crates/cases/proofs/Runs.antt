-- What the typing of each case comes to, over any system with classes.
use Rattle.std.proofs.Common.{◌≡◌, ℕ, ◌≤◌, true, refl, inl, arith}
use mathlib.Core.Option.{none}
use native.Mathlib.Decide.{dec_le}
use Rattle.ground.specs.Values.{Ty, whole, flag, to}
use Rattle.ground.specs.Forms.{Form}
use Rattle.ground.specs.Belongs.{built_in}
use Rattle.ground.specs.declared.place.Place.{Place}
use Rattle.script.specs.Faults.{span}
use Rattle.system.specs.Meaning.{Kind, Meaning, Sound, Known}
use Rattle.system.specs.Requests.{Request, Reply}
use Rattle.system.specs.Replies.{Looks}
use Rattle.system.specs.Follows.{Follows}
use Rattle.engine.specs.Trees.{names}
use Rattle.engine.specs.Calls.{answer, typing}
use Rattle.engine.specs.Runs.{Outcome, typed, stopped}
use Rattle.engine.specs.Proper.{Proper}
use Rattle.engine.specs.Builtins.{built_in_scope}
use Rattle.engine.specs.Standing.{Standing}
use Rattle.engine.proofs.Steps.{Run}
use Rattle.engine.proofs.Exactness.{typing_refused}
use Rattle.engine.proofs.FineStates.{lift}
use Rattle.engine.proofs.Standing.{standing_first, checked, checked_some, checked_none}
use Rattle.cases.specs.Scripts.{self, twice, sum, negated, held, empty, largest}
use Rattle.cases.specs.Cases.{Has, HasNone, Number}
use Rattle.cases.specs.Outcomes.{StopsAt, Comes, Typed, WorkedRuns}
use Rattle.cases.proofs.Belonging.{types}
use Rattle.cases.proofs.Places.{self_place, twice_place, negated_place, held_place}

module _ {S : Type 0} (K : Kind) (meaning : S → Meaning) (asked : S → Request → Reply → S → Type 0) (rank : S → ℕ → ℕ)
    (follows : (s t : S) (q : Request) (r : Reply) → asked s q r t → Follows K (meaning s) q r (meaning t))
    (sound : (s : S) → Sound K (meaning s))
    (looks : (s : S) (c : ℕ) → Known (meaning s).state c → Looks (rank s) (meaning s) c)
    (classes : K.classes ≡ 0 → ⊥)
    (s u : S)
    (new : (c : ℕ) → (meaning s).state.sort_of c ≡ none)
    (e : Form)
    (pr : Proper K (names (built_in_scope true)) e) where
  stand : Standing K (meaning s) (built_in true) (built_in_scope true)
  stand = standing_first K (meaning s) (let z = (sound s).heads in omega arith) true (λ h. classes)

  -- A form without a type stops.
  stops_at : (q : Place) → HasNone (built_in true) e
      → ((p : Place) (f l : ℕ) → f ≤ 15 → Run meaning asked rank s (typing e (built_in_scope true) answer) (stopped p f l) u → p ≡ q)
      → (o : Outcome) → Run meaning asked rank s (typing e (built_in_scope true) answer) o u → StopsAt q o
  stops_at q non place (typed c) run =
      let T = checked_some K meaning asked rank follows sound looks (built_in true) (built_in_scope true) e s u stand new pr c run in non T.0 T.1
  stops_at q non place (stopped p f l) run =
      let r = typing_refused K meaning asked rank follows sound looks s u (built_in_scope true) e p f l pr stand.ready run in
      (r.least, r.most, λ h. place p f l h run)

  -- A form with types is typed, with these types.
  comes : (P : Ty → Type 0) → Has (built_in true) e P → (T : Ty) × P T → (o : Outcome) → Run meaning asked rank s (typing e (built_in_scope true) answer) o u → Comes (meaning u) P o
  comes P has some (typed c) run =
      λ T. let k = checked K meaning asked rank follows sound looks (built_in true) (built_in_scope true) e s u stand new pr c run T in
      (λ w. (has T).0 (k.1 w), λ h. k.0 ((has T).1 h))
  comes P has some (stopped p f l) run =
      let r = typing_refused K meaning asked rank follows sound looks s u (built_in_scope true) e p f l pr stand.ready run in
      elim (dec_le 16 f) [
        | yes h ↦ (h, r.most)
        | no h ↦ absurd (checked_none K meaning asked rank follows sound looks (built_in true) (built_in_scope true) e s u stand new pr p f l (omega arith) run some.0 ((has some.0).1 some.1))
      ]

module _ {S : Type 0} (K : Kind) (meaning : S → Meaning) (asked : S → Request → Reply → S → Type 0) (rank : S → ℕ → ℕ) (ok : S → Type 0)
    (follows : (s t : S) (q : Request) (r : Reply) → asked s q r t → Follows K (meaning s) q r (meaning t))
    (fine : (s t : S) (q : Request) (r : Reply) → asked s q r t → ok t)
    (sound : (s : S) → ok s → Sound K (meaning s))
    (looks : (s : S) (c : ℕ) → ok s → Known (meaning s).state c → Looks (rank s) (meaning s) c)
    (classes : K.classes ≡ 0 → ⊥) where
  -- The fine states as a system of their own.
  abbrev Fine : Type 0
  Fine = (s : S) × ok s

  abbrev mean : Fine → Meaning
  mean g = meaning g.0

  abbrev ask : Fine → Request → Reply → Fine → Type 0
  ask g q r h = asked g.0 q r h.0

  abbrev fall : Fine → ℕ → ℕ
  fall g = rank g.0

  follow : (a b : Fine) (q : Request) (r : Reply) → ask a q r b → Follows K (mean a) q r (mean b)
  follow a b q r h = follows a.0 b.0 q r h

  sounds : (a : Fine) → Sound K (mean a)
  sounds a = sound a.0 a.1

  look : (a : Fine) (c : ℕ) → Known (mean a).state c → Looks (fall a) (mean a) c
  look a c k = looks a.0 c a.1 k

  stops_so : (e : Form) (q : Place) → Proper K (names (built_in_scope true)) e → HasNone (built_in true) e
      → ((a b : Fine) (p : Place) (f l : ℕ) → f ≤ 15 → Run mean ask fall a (typing e (built_in_scope true) answer) (stopped p f l) b → p ≡ q)
      → (o : Outcome) (u : S) → Typed ok meaning asked rank e o u → StopsAt q o
  stops_so e q pr non place o u t =
      let w = lift K meaning asked rank ok follows fine sound looks t.fine t.ran in
      stops_at K mean ask fall follow sounds look classes (t.from, t.fine) (u, w.0) t.new e pr q non (place (t.from, t.fine) (u, w.0)) o w.1

  comes_so : (e : Form) (P : Ty → Type 0) → Proper K (names (built_in_scope true)) e → Has (built_in true) e P → (T : Ty) × P T
      → (o : Outcome) (u : S) → Typed ok meaning asked rank e o u → Comes (meaning u) P o
  comes_so e P pr has some o u t =
      let w = lift K meaning asked rank ok follows fine sound looks t.fine t.ran in
      comes K mean ask fall follow sounds look classes (t.from, t.fine) (u, w.0) t.new e pr P has some o w.1

  pub worked : WorkedRuns ok meaning asked rank
  worked = record {
    self = stops_so self (span 7 10) (refl, refl) types.self (λ a b p f l. self_place K mean ask fall follow sounds look classes a b p f l);
    twice = stops_so twice (span 33 10) (refl, ((refl, tt), (refl, tt), tt)) types.twice (λ a b p f l. twice_place K mean ask fall follow sounds look classes a b p f l);
    sum = comes_so sum (λ T. (A : Ty) × Number A × (T ≡ to A A)) ((refl, refl), refl) types.sum (to whole whole, (whole, inl refl, refl));
    negated = stops_so negated (span 0 14) (refl, tt) types.negated (λ a b p f l. negated_place K mean ask fall follow sounds look classes a b p f l);
    held = stops_so held (span 34 13) (((refl, refl), refl), (refl, refl), refl) types.held (λ a b p f l. held_place K mean ask fall follow sounds look classes a b p f l);
    empty = comes_so empty (λ T. T ≡ flag) ((refl, refl), refl) types.empty (flag, refl);
    largest = comes_so largest (λ T. T ≡ whole) tt types.largest (whole, refl);
  }
