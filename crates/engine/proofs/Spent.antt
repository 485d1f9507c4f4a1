-- What a copy costs: a call that counts for each built place and for each new variable. So what has more built places than there is room is refused.
use Rattle.std.proofs.Common.{◌≡◌, ℕ, suc, ◌+◌, ◌/◌, ◌%◌, ◌^◌, ◌<◌, ◌≤◌, Bool, true, false, eqb, List, [], ◌∷◌, length, refl, ap, ◌∙◌, arith}
use mathlib.Core.Option.{Option, some, none}
use Rattle.ground.specs.Heads.{none_lacked}
use Rattle.ground.specs.declared.place.Place.{Place}
use Rattle.ground.specs.declared.sort.Sort.{Sort}
use Rattle.ground.specs.declared.sort.Labels.{Labels}
use Rattle.ground.specs.declared.classes.Classes.{Classes}
use Rattle.ground.specs.declared.head.Head.{Head}
use Rattle.system.specs.Meaning.{Kind, Meaning, Sound}
use Rattle.system.specs.Requests.{Request, fresh, build, demand, Reply, code, done, fault, fits}
use Rattle.system.specs.Follows.{Follows}
use Rattle.engine.specs.Trees.{Tree, Scope}
use Rattle.engine.specs.Calls.{Calls, ask, demand_if, demand_in, demands, Given, got, variable}
use Rattle.engine.specs.Runs.{Outcome, stopped, Ran}
use Rattle.engine.proofs.Through.{Through, stops, goes, Piece, none_piece, ask_piece, tell_piece, then_piece}
use Rattle.engine.specs.Snapshots.{Item, open_item, stay_item, leaf_item, over_item, pair_item, newest, below, visit, visits, cost, built}

code_fault : {c f l : ℕ} → code c ≡ fault f l → ⊥
code_fault e = let z : ◌≡◌ {A = ℕ} 0 1 = cc in omega arith

done_fault : {f l : ℕ} → done ≡ fault f l → ⊥
done_fault e = let z : ◌≡◌ {A = ℕ} 0 1 = cc in omega arith

-- The capacity is the same, and n more calls stand.
record More (m : Meaning) (n : ℕ) (o : Meaning) : Type 0 where
  room : o.capacity ≡ m.capacity
  count : o.state.count ≡ m.state.count + n

module _ {S : Type 0} (K : Kind) (meaning : S → Meaning) (asked : S → Request → Reply → S → Type 0) (Scheme : S → ℕ → Scope → Tree → Type 0)
    (follows : (s t : S) (q : Request) (r : Reply) → asked s q r t → Follows K (meaning s) q r (meaning t)) where
  fresh_more : (s t : S) (o : Sort) (c : ℕ) → asked s (fresh o) (code c) t → More (meaning s) 1 (meaning t)
  fresh_more s t o c a = go (fits K (meaning s) (fresh o)) refl
    where
      go : (b : Bool) → fits K (meaning s) (fresh o) ≡ b → More (meaning s) 1 (meaning t)
      go true e = let g = (follows s t (fresh o) (code c) a).1 e in record { room = g.capacity; count = g.count }
      go false e = absurd (code_fault ((follows s t (fresh o) (code c) a).0 e).0)

  build_more : (s t : S) (h : Head) (x y l : ℕ) (m : Labels) (c : ℕ) → asked s (build h x y l m) (code c) t → More (meaning s) 1 (meaning t)
  build_more s t h x y l m c a = go (fits K (meaning s) (build h x y l m)) refl
    where
      go : (b : Bool) → fits K (meaning s) (build h x y l m) ≡ b → More (meaning s) 1 (meaning t)
      go true e = let g = (follows s t (build h x y l m) (code c) a).1 e in record { room = g.capacity; count = g.count }
      go false e = absurd (code_fault ((follows s t (build h x y l m) (code c) a).0 e).0)

  demand_more : (s t : S) (n c : ℕ) → asked s (demand n c) done t → More (meaning s) 0 (meaning t)
  demand_more s t n c a = go (fits K (meaning s) (demand n c)) refl
    where
      go : (b : Bool) → fits K (meaning s) (demand n c) ≡ b → More (meaning s) 0 (meaning t)
      go true e = let g = ((follows s t (demand n c) done a).1 e).1 in record { room = g.capacity; count = g.count ∙ (let z : (meaning s).state.count ≡ (meaning s).state.count + 0 = omega arith in z) }
      go false e = absurd (done_fault ((follows s t (demand n c) done a).0 e).0)

  no_more : (s : S) → More (meaning s) 0 (meaning s)
  no_more s = record { room = refl; count = omega arith }

  both_more : {m n o : Meaning} (a b : ℕ) → More m a n → More n b o → More m (a + b) o
  both_more {m} {n} {o} a b x y = record { room = y.room ∙ x.room; count = let p = x.count in let q = y.count in omega arith }

  -- All calls of a copy have one place.
  abbrev At : Place → Place → ℕ → Type 0
  At p q f = q ≡ p

  -- With x, so many more calls stand as C says.
  abbrev Spends : {X : Type 0} → (X → ℕ → Type 0) → S → X → S → Type 0
  Spends C s x t = (n : ℕ) × C x n × More (meaning s) n (meaning t)

  abbrev Costing : (X : Type 0) → ((X → Calls) → Calls) → Place → (X → ℕ → Type 0) → Type 0
  Costing X calls p C = Piece asked Scheme X calls (At p) (Spends C)

  free_piece : {X : Type 0} (p : Place) (x : X) (C : X → ℕ → Type 0) → C x 0 → Costing X (λ k. k x) p C
  free_piece p x C c = none_piece asked Scheme x (At p) (Spends C) (λ s. (0, c, no_more s))

  fresh_piece : (p : Place) (q : Sort) → Costing ℕ (ask p (fresh q)) p (λ c n. n ≡ 1)
  fresh_piece p q = ask_piece asked Scheme p (fresh q) (At p) (Spends (λ c n. n ≡ 1)) (λ s t c a. (1, refl, fresh_more s t q c a)) (λ s t f l a. refl)

  build_piece : (p : Place) (h : Head) (x y l : ℕ) (m : Labels) → Costing ℕ (ask p (build h x y l m)) p (λ c n. n ≡ 1)
  build_piece p h x y l m = ask_piece asked Scheme p (build h x y l m) (At p) (Spends (λ c n. n ≡ 1)) (λ s t c a. (1, refl, build_more s t h x y l m c a)) (λ s t f l a. refl)

  demand_piece : (p : Place) (c n : ℕ) (b : Bool) → Costing (Unit {0}) (λ k. demand_if b p c n (k tt)) p (λ x n. n ≡ 0)
  demand_piece p c n true = tell_piece asked Scheme p (demand n c) (At p) (Spends (λ x n. n ≡ 0)) (λ s t a. (0, refl, demand_more s t n c a)) (λ s t f l a. refl)
  demand_piece p c n false = free_piece p tt (λ x n. n ≡ 0) refl

  then_costing : {X Y : Type 0} {calls : (X → Calls) → Calls} {C : X → ℕ → Type 0} (p : Place) (next : X → (Y → Calls) → Calls) (D : X → Y → ℕ → Type 0) (B : Y → ℕ → Type 0)
      → Costing X calls p C
      → ((x : X) → Costing Y (next x) p (D x))
      → ((x : X) (y : Y) (a b : ℕ) → C x a → D x y b → B y (a + b))
      → Costing Y (λ k. calls (λ x. next x k)) p B
  then_costing p next D B one two join =
      then_piece asked Scheme next (λ x. Spends (D x)) (Spends B) one two
      (λ s t u x y c d. (c.0 + d.0, join x y c.0 d.0 c.1 d.1, both_more c.0 d.0 c.2 d.2))

  demands_piece : (p : Place) (s : Classes) (c : ℕ) → Costing (Unit {0}) (λ k. demands p s c (k tt)) p (λ x n. n ≡ 0)
  demands_piece p s c =
      then_costing p (λ x k. demand_in p s c 1 (demand_in p s c 2 (demand_in p s c 3 (k tt)))) (λ x y n. n ≡ 0) (λ y n. n ≡ 0) (demand_piece p c 0 (eqb ((s.0 / 2 ^ 0) % 2) 1))
      (λ x. then_costing p (λ x k. demand_in p s c 2 (demand_in p s c 3 (k tt))) (λ x y n. n ≡ 0) (λ y n. n ≡ 0) (demand_piece p c 1 (eqb ((s.0 / 2 ^ 1) % 2) 1))
      (λ x. then_costing p (λ x k. demand_in p s c 3 (k tt)) (λ x y n. n ≡ 0) (λ y n. n ≡ 0) (demand_piece p c 2 (eqb ((s.0 / 2 ^ 2) % 2) 1))
      (λ x. demand_piece p c 3 (eqb ((s.0 / 2 ^ 3) % 2) 1)) (λ x y a b e f. omega arith)) (λ x y a b e f. omega arith)) (λ x y a b e f. omega arith)

  -- What stands on the stack, and what the variables have got.
  abbrev Held : Type 0
  Held = List ℕ × Given

  -- Built places and new variables cost one call each.
  abbrev Costs : ℕ → Given → Held → ℕ → Type 0
  Costs b m x n = (v : ℕ) × (length x.1 ≡ length m + v) × (n ≡ b + v)

  no_variable : (m : Given) (b : ℕ) → (v : ℕ) × (length m ≡ length m + v) × (b ≡ b + v)
  no_variable m b = (0, omega arith, omega arith)

  variable_piece : (p : Place) (w : Option ℕ) (g : ℕ) (q : Sort) (s : Classes) (cs : List ℕ) (m : Given)
      → Costing Held (λ k. variable w p g q s m (λ c n. k (c ∷ cs, n))) p (Costs 0 m)
  variable_piece p (some c) g q s cs m = free_piece p (c ∷ cs, m) (Costs 0 m) (no_variable m 0)
  variable_piece p none g q s cs m =
      then_costing p (λ c k. demands p s c (k (c ∷ cs, (g, c) ∷ m))) (λ c x n. (n ≡ 0) × (x ≡ (c ∷ cs, (g, c) ∷ m))) (Costs 0 m) (fresh_piece p q)
      (λ c. then_costing p (λ x k. k (c ∷ cs, (g, c) ∷ m)) (λ x y n. (n ≡ 0) × (y ≡ (c ∷ cs, (g, c) ∷ m))) (λ y n. (n ≡ 0) × (y ≡ (c ∷ cs, (g, c) ∷ m))) (demands_piece p s c)
      (λ x. free_piece p (c ∷ cs, (g, c) ∷ m) (λ y n. (n ≡ 0) × (y ≡ (c ∷ cs, (g, c) ∷ m))) (refl, refl)) (λ x y a b e f. (let d = f.0 in omega arith, f.1)))
      (λ c x a b e f. let d = f.0 in let h : length x.1 ≡ suc (length m) = ap (λ (z : Held). length z.1) f.1 in (1, omega arith, omega arith))

  built_piece : (p : Place) (h : Head) (x y l : ℕ) (s : Labels) (cs : List ℕ) (m : Given) → Costing Held (λ k. ask p (build h x y l s) (λ c. k (c ∷ cs, m))) p (Costs 1 m)
  built_piece p h x y l s cs m =
      then_costing p (λ c k. k (c ∷ cs, m)) (λ c z n. (n ≡ 0) × (z ≡ (c ∷ cs, m))) (Costs 1 m) (build_piece p h x y l s)
      (λ c. free_piece p (c ∷ cs, m) (λ z n. (n ≡ 0) × (z ≡ (c ∷ cs, m))) (refl, refl))
      (λ c z a b e f. let d = f.0 in let i : length z.1 ≡ length m = ap (λ (w : Held). length w.1) f.1 in (0, omega arith, omega arith))

  visit_piece : (p : Place) (i : Item) (cs : List ℕ) (m : Given) → Costing Held (λ k. visit p i cs m (λ ds n. k (ds, n))) p (Costs (cost i) m)
  visit_piece p (open_item g q s) cs m = variable_piece p (got m g) g q s cs m
  visit_piece p (stay_item c) cs m = free_piece p (c ∷ cs, m) (Costs 0 m) (no_variable m 0)
  visit_piece p (leaf_item h s) cs m = built_piece p h 0 0 0 s cs m
  visit_piece p (over_item h) cs m = built_piece p h (newest cs) 0 0 none_lacked (below cs) m
  visit_piece p (pair_item h l s) cs m = built_piece p h (newest (below cs)) (newest cs) l s (below (below cs)) m

  visits_piece : (p : Place) (is : List Item) (cs : List ℕ) (m : Given) → Costing Held (λ k. visits p is cs m (λ ds n. k (ds, n))) p (Costs (built is) m)
  visits_piece p [] cs m = free_piece p (cs, m) (Costs 0 m) (no_variable m 0)
  visits_piece p (i ∷ is) cs m =
      then_costing p (λ x k. visits p is x.0 x.1 (λ ds n. k (ds, n))) (λ x y n. Costs (built is) x.1 y n) (Costs (cost i + built is) m) (visit_piece p i cs m)
      (λ x. visits_piece p is x.0 x.1)
      (λ x y a b e f. let d = e.1 in let g = e.2 in let h = f.1 in let i = f.2 in (e.0 + f.0, omega arith, omega arith))

  -- A copy that is answered made a call that counts for each built place and each variable, and these are no more than there was room for.
  pub record Answered (s : S) (t : S) (is : List Item) (m n : Given) : Type 0 where
    pub new : ℕ
    pub variables : length n ≡ length m + new
    pub calls : (meaning t).state.count ≡ (meaning s).state.count + (built is + new)
    pub room : built is + new + (meaning s).state.count ≤ (meaning s).capacity

  pub data Copied (s : S) (p : Place) (is : List Item) (cs : List ℕ) (m : Given) (k : List ℕ → Given → Calls) (o : Outcome) (u : S) : Type 0 where
    refused : (f l : ℕ) → o ≡ stopped p f l → ((j : List ℕ → Given → Calls) → Ran asked Scheme s (visits p is cs m j) o u) → Copied s p is cs m k o u
    copied : (t : S) (ds : List ℕ) (n : Given) → Answered s t is m n → Ran asked Scheme t (k ds n) o u → Copied s p is cs m k o u

  module _ (sound : (s : S) → Sound K (meaning s)) where
    pub copy_spends : (s u : S) (p : Place) (is : List Item) (cs : List ℕ) (m : Given) (k : List ℕ → Given → Calls) (o : Outcome)
        → Ran asked Scheme s (visits p is cs m k) o u → Copied s p is cs m k o u
    copy_spends s u p is cs m k o run = go (visits_piece p is cs m s u (λ x. k x.0 x.1) o run)
      where
        go : Through asked Scheme Held (λ k. visits p is cs m (λ ds n. k (ds, n))) (At p) (Spends (Costs (built is) m)) s (λ x. k x.0 x.1) o u → Copied s p is cs m k o u
        go (stops q f l a e j) = refused f l (e ∙ ap (λ i. stopped i f l) a) (λ i. j (λ x. i x.0 x.1))
        go (goes t x w back y) =
            let c = w.1 in
            let e = c.1 in
            let f = c.2 in
            let g = w.2.count in
            let h = w.2.room in
            let r = (sound t).counted in
            copied t x.0 x.1 (record { new = c.0; variables = c.1; calls = omega arith; room = omega arith }) y

    -- Where more places are built than there is room for, a fault stops the copy, whatever stands behind them.
    pub out_of_room : (s u : S) (p : Place) (is : List Item) (cs : List ℕ) (m : Given) (k : List ℕ → Given → Calls) (o : Outcome)
        → (meaning s).capacity < (meaning s).state.count + built is → Ran asked Scheme s (visits p is cs m k) o u → (j : List ℕ → Given → Calls) → Ran asked Scheme s (visits p is cs m j) o u
    out_of_room s u p is cs m k o lt run = go (copy_spends s u p is cs m k o run)
      where
        go : Copied s p is cs m k o u → (j : List ℕ → Given → Calls) → Ran asked Scheme s (visits p is cs m j) o u
        go (refused f l e j) = j
        go (copied t ds n a r) = absurd (let b = a.room in omega arith)
