-- What is kept of a scheme serves as the whole: the calls that a copy of it makes are those of the whole tree, since a system has no room left when
-- it comes to the cut.
use Rattle.std.proofs.Common.{◌≡◌, ℕ, ◌+◌, ◌*◌, ◌<◌, ◌≤◌, List, [], take, drop, sym, ap, ◌∙◌, subst, inl, inr, arith, take-append-drop}
use Rattle.ground.specs.declared.place.Place.{Place}
use Rattle.system.specs.Meaning.{Kind, Meaning, Sound}
use Rattle.system.specs.Requests.{Request, Reply}
use Rattle.system.specs.Follows.{Follows}
use Rattle.engine.specs.Trees.{Tree, Scope}
use Rattle.engine.specs.Calls.{Calls, Given, copy}
use Rattle.engine.specs.Runs.{Outcome, stopped, Ran}
use Rattle.engine.specs.Snapshots.{Item, items, newest, visits, built, height, kept}
use Rattle.engine.proofs.Replayed.{visits_both, visits_copy}
use Rattle.engine.proofs.Spent.{Copied, refused, copied, copy_spends, out_of_room}
use Rattle.engine.proofs.Prefixes.{whole_or_many}

module _ {S : Type 0} (K : Kind) (meaning : S → Meaning) (asked : S → Request → Reply → S → Type 0) (Scheme : S → ℕ → Scope → Tree → Type 0)
    (follows : (s t : S) (q : Request) (r : Reply) → asked s q r t → Follows K (meaning s) q r (meaning t))
    (sound : (s : S) → Sound K (meaning s)) where
  pub kept_suffices : (s u : S) (p : Place) (t : Tree) (m : Given) (k : ℕ → Given → Calls) (o : Outcome) → height t ≤ (meaning s).capacity + 2
      → Ran asked Scheme s (visits p (kept (meaning s).capacity t) [] m (λ cs n. k (newest cs) n)) o u
      → Ran asked Scheme s (copy p t m k) o u
  kept_suffices s u p t m k o h run = elim (whole_or_many (meaning s).capacity t h) [
    | inl e ↦ subst (λ (cs : Calls). Ran asked Scheme s cs o u) (visits_copy p t m k) (subst (λ (is : List Item). Ran asked Scheme s (visits p is [] m (λ cs n. k (newest cs) n)) o u) e run)
    | inr e ↦
        let C = (meaning s).capacity in
        let j = 3 * C + 4 in
        let r = out_of_room K meaning asked Scheme follows sound s u p (kept C t) [] m (λ cs n. k (newest cs) n) o (omega arith) run (λ cs n. visits p (drop j (items t)) cs n (λ ds i. k (newest ds) i)) in
        subst (λ (cs : Calls). Ran asked Scheme s cs o u)
        (sym (visits_both p (take j (items t)) (drop j (items t)) [] m (λ cs n. k (newest cs) n))
        ∙ ap (λ is. visits p is [] m (λ cs n. k (newest cs) n)) (take-append-drop j (items t))
        ∙ visits_copy p t m k)
        r
  ]

  -- A tree with more built places than there is room for is never copied with an answer: a fault stops the copy, at the place of the name.
  pub too_large : (s u : S) (p : Place) (t : Tree) (m : Given) (k : ℕ → Given → Calls) (o : Outcome) → (meaning s).capacity < (meaning s).state.count + built (items t)
      → Ran asked Scheme s (copy p t m k) o u → (f l : ℕ) × (o ≡ stopped p f l)
  too_large s u p t m k o lt run =
      go (copy_spends K meaning asked Scheme follows sound s u p (items t) [] m (λ cs n. k (newest cs) n) o (subst (λ (cs : Calls). Ran asked Scheme s cs o u) (sym (visits_copy p t m k)) run))
    where
      go : Copied K meaning asked Scheme follows s p (items t) [] m (λ cs n. k (newest cs) n) o u → (f l : ℕ) × (o ≡ stopped p f l)
      go (refused f l e j) = (f, l, e)
      go (copied v ds n a r) = absurd (let b = a.room in omega arith)
