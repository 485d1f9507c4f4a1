-- What is shown of typing, where the laws of a system hold of states that are fine: a run over its states is a run over the fine ones.
use Rattle.std.proofs.Common.{◌≡◌, ℕ, ◌+◌, ◌<◌, ◌≤◌, [], arith}
use Rattle.ground.specs.Forms.{Form}
use Rattle.ground.specs.declared.place.Place.{Place}
use Rattle.system.specs.Meaning.{Kind, Meaning, Sound, Known}
use Rattle.system.specs.Requests.{Request, Reply}
use Rattle.system.specs.Follows.{Follows}
use Rattle.system.specs.Replies.{Looks}
use Rattle.engine.specs.Trees.{Tree, Scope, names}
use Rattle.engine.specs.Calls.{Calls, answer, Given, copy, typing}
use Rattle.engine.specs.Runs.{Outcome, typed, stopped, end, got_code, no_code, told, not_told, looked_at, Done, Refused}
use Rattle.engine.specs.Scopes.{Ready}
use Rattle.engine.specs.Proper.{Proper}
use Rattle.engine.proofs.Steps.{Run}
use Rattle.engine.specs.Schemes.{Scheme}
use Rattle.engine.specs.Snapshots.{items, newest, visits, built, height, kept}
use Rattle.engine.specs.Statements.{TypingStands}
use Rattle.engine.proofs.Standing.{scheme_closed}
use Rattle.engine.proofs.Prefixes.{tree_height}
use Rattle.engine.proofs.Cut.{kept_suffices, too_large}
use Rattle.engine.proofs.Exactness.{typing_exact, typing_refused}

module _ {S : Type 0} (K : Kind) (meaning : S → Meaning) (asked : S → Request → Reply → S → Type 0) (rank : S → ℕ → ℕ) (ok : S → Type 0)
    (follows : (s t : S) (q : Request) (r : Reply) → asked s q r t → Follows K (meaning s) q r (meaning t))
    (fine : (s t : S) (q : Request) (r : Reply) → asked s q r t → ok t)
    (sound : (s : S) → ok s → Sound K (meaning s))
    (looks : (s : S) (c : ℕ) → ok s → Known (meaning s).state c → Looks (rank s) (meaning s) c) where
  -- The fine states, with their meaning, what was asked in them, and their rank.
  abbrev pub Good : Type 0
  Good = (s : S) × ok s

  abbrev pub means : Good → Meaning
  means g = meaning g.0

  abbrev pub asks : Good → Request → Reply → Good → Type 0
  asks g q r h = asked g.0 q r h.0

  abbrev pub ranks : Good → ℕ → ℕ
  ranks g = rank g.0

  -- Every run from a fine state, with the state that it leads to.
  pub lift : {s t : S} {k : Calls} {o : Outcome} → (g : ok s) → Run meaning asked rank s k o t → (h : ok t) × Run means asks ranks (s, g) k o (t, h)
  lift g end = (g, end)
  lift g (got_code {s = s} {t = t} {q = q} {c = c} a r) = let w = lift (fine s t q _ a) r in (w.0, got_code a w.1)
  lift g (no_code {s = s} {t = t} {q = q} a) = (fine s t q _ a, no_code a)
  lift g (told {s = s} {t = t} {q = q} a r) = let w = lift (fine s t q _ a) r in (w.0, told a w.1)
  lift g (not_told {s = s} {t = t} {q = q} a) = (fine s t q _ a, not_told a)
  lift g (looked_at b r) = let w = lift g r in (w.0, looked_at b w.1)

  -- A run over fine states is one over states.
  drop : {a b : Good} {k : Calls} {o : Outcome} → Run means asks ranks a k o b → Run meaning asked rank a.0 k o b.0
  drop end = end
  drop (got_code a r) = got_code a (drop r)
  drop (no_code a) = no_code a
  drop (told a r) = told a (drop r)
  drop (not_told a) = not_told a
  drop (looked_at b r) = looked_at b (drop r)

  pub exact : (s u : S) (E : Scope) (e : Form) (c : ℕ) → ok s → Proper K (names E) e → Ready K (meaning s) E → Run meaning asked rank s (typing e E answer) (typed c) u → Done (meaning s) E e (meaning u) c
  exact s u E e c g p r x =
      let w = lift g x in
      typing_exact K means asks ranks (λ a b q y. follows a.0 b.0 q y) (λ a. sound a.0 a.1) (λ a d. looks a.0 d a.1) (s, g) (u, w.0) E e c p r w.1

  pub refused : (s u : S) (E : Scope) (e : Form) (p : Place) (f l : ℕ) → ok s → Proper K (names E) e → Ready K (meaning s) E → Run meaning asked rank s (typing e E answer) (stopped p f l) u → Refused (meaning s) E e f
  refused s u E e pl f l g p r x =
      let w = lift g x in
      typing_refused K means asks ranks (λ a b q y. follows a.0 b.0 q y) (λ a. sound a.0 a.1) (λ a d. looks a.0 d a.1) (s, g) (u, w.0) E e pl f l p r w.1

  pub serves : (s u : S) (p : Place) (t : Tree) (m : Given) (k : ℕ → Given → Calls) (o : Outcome) → ok s → height t ≤ (meaning s).capacity + 2
      → Run meaning asked rank s (visits p (kept (meaning s).capacity t) [] m (λ cs n. k (newest cs) n)) o u → Run meaning asked rank s (copy p t m k) o u
  serves s u p t m k o g h x =
      let w = lift g x in
      drop (kept_suffices K means asks (Scheme means ranks) (λ a b q y. follows a.0 b.0 q y) (λ a. sound a.0 a.1) (s, g) (u, w.0) p t m k o h w.1)

  pub over_room : (s u : S) (p : Place) (t : Tree) (m : Given) (k : ℕ → Given → Calls) (o : Outcome) → ok s → (meaning s).capacity < (meaning s).state.count + built (items t)
      → Run meaning asked rank s (copy p t m k) o u → (f l : ℕ) × (o ≡ stopped p f l)
  over_room s u p t m k o g h x =
      let w = lift g x in
      too_large K means asks (Scheme means ranks) (λ a b q y. follows a.0 b.0 q y) (λ a. sound a.0 a.1) (s, g) (u, w.0) p t m k o h w.1

  pub stands : ((s : S) (c : ℕ) → ok s → rank s c ≤ (meaning s).capacity + 1) → TypingStands K ok meaning asked rank
  stands shallow = record {
    exact = exact;
    refused = refused;
    low = λ s E c t g tr. let a = tree_height (rank s) (meaning s) E tr in let b = shallow s c g in omega arith;
    kept_serves = serves;
    too_large = over_room;
    closed = λ s E c t a x. scheme_closed (rank s) (meaning s) E a x;
  }
