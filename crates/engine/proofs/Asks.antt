-- Each kind of call, as a piece of a run.
use Rattle.std.proofs.Common.{◌≡◌, ℕ, ◌+◌, ◌≤◌, true, false, eqb, ltb, ◌⊎◌, [], ◌∷◌, sym, refl, ap, ◌∙◌, subst, inl, inr, arith, eq-eqb, ne_eqb}
use mathlib.Core.Option.{Option, some, none}
use Rattle.ground.specs.Values.{Value}
use Rattle.ground.specs.Sorts.{Of}
use Rattle.ground.specs.Heads.{Builds, gives, first_sort, second_sort}
use Rattle.ground.specs.declared.place.Place.{Place}
use Rattle.ground.specs.declared.sort.Sort.{Sort}
use Rattle.ground.specs.declared.sort.Labels.{Labels}
use Rattle.ground.specs.declared.head.Head.{Head}
use Rattle.ground.proofs.Built.{builds_swap}
use Rattle.system.specs.Meaning.{Kind, Valuation, Meaning, Sound, Agree}
use Rattle.system.specs.Requests.{Request, fresh, build, equate, demand, Reply, code, done, fault, fits, takes, head_number}
use Rattle.system.specs.Follows.{Follows, Added, Kept, Limited, Clash, Within}
use Rattle.system.proofs.Takes.{both, takes_first, takes_second}
use Rattle.engine.specs.Calls.{Calls, ask, tell}
use Rattle.engine.specs.Runs.{Outcome, stopped, got_code, no_code, told, not_told}
use Rattle.engine.proofs.Steps.{Step, Claim, Ends, Run, Res, went, ended}

-- The valuation v, but with the value x at c.
pub set : Valuation → ℕ → Value → Valuation
set v c x d = elim (eqb d c) [ true ↦ x | false ↦ v d ]

pub set_here : (v : Valuation) (c : ℕ) (x : Value) → set v c x c ≡ x
unfolding set
set_here v c x = rw (eq-eqb c c refl, set)

pub set_there : (v : Valuation) (c : ℕ) (x : Value) (d : ℕ) → (d ≡ c → ⊥) → set v c x d ≡ v d
unfolding set
set_there v c x d n = rw (ne_eqb d c n, set)

some_none : {o : Sort} → ◌≡◌ {A = Option Sort} none (some o) → ⊥
some_none e = let z : ◌≡◌ {A = ℕ} 0 1 = cc in omega arith

known_apart : (m : Meaning) (c d : ℕ) (o : Sort) → m.state.sort_of c ≡ none → m.state.sort_of d ≡ some o → d ≡ c → ⊥
known_apart m c d o u k e = some_none (sym u ∙ ap (λ x. m.state.sort_of x) (sym e) ∙ k)

set_agrees : (m : Meaning) (v : Valuation) (c : ℕ) (x : Value) → m.state.sort_of c ≡ none → Agree m.state v (set v c x)
set_agrees m v c x u d k = sym (set_there v c x d (known_apart m c d k.0 u k.1))

-- A code that is added, as a piece of a run.
added : {K : Kind} {m n : Meaning} {c : ℕ} {o : Sort} {P : Valuation → Type 0} → Sound K m → Added m c o P n → (Ok : Valuation → Value → Type 0)
    → ((v : Valuation) → P v → Ok v (v c)) → ((v : Valuation) (x : Value) → Ok v x → P (set v c x)) → Step m n Value Ok ((c, o) ∷ []) (λ x. x ∷ [])
added {K} {m} {n} {c} {o} {P} snd a Ok there here = record {
  old = λ d p k. a.old d (known_apart m c d p a.unknown k) ∙ k;
  known = (a.known, tt);
  down = λ v s. let g = a.onto v s in (g.0, (v c, (refl, tt), there v g.1));
  up = λ v x s k.
      let w = set v c x in
      let ag = set_agrees m v c x a.unknown in
      (w, ag, a.from w (snd.blind v w s ag) (here v x k), (set_here v c x, tt));
}

-- Solutions that are kept, as a piece of a run.
kept : {m n : Meaning} {P : Valuation → Type 0} → Kept m P n → Step m n (Unit {0}) (λ v a. P v) [] (λ a. [])
kept k = record {
  old = k.old;
  known = tt;
  down = λ v s. let g = k.onto v s in (g.0, (tt, tt, g.1));
  up = λ v a s p. let g = k.from v s p in (g.0, g.1, g.2, tt);
}

limited : (m : Meaning) (n : ℕ) (P : Valuation → Type 0) (f l : ℕ) → Limited m n P f l → (16 ≤ f) × (f ≤ 17)
limited m n P f l (inl e) = let p = e.0 in omega arith
limited m n P f l (inr e) = let p = e.0 in omega arith

clash : (K : Kind) (f l : ℕ) → Clash K f l → (12 ≤ f) × (f ≤ 17)
clash K f l (inl (inl p, q)) = omega arith
clash K f l (inl (inr p, q)) = omega arith
clash K f l (inr (inl p, q, r)) = omega arith
clash K f l (inr (inr p, q, r)) = omega arith

by_limit : {P : Type 0} {p : Place} {o : Outcome} (m : Meaning) (n : ℕ) (Q : Valuation → Type 0) (f l : ℕ) → o ≡ stopped p f l → Limited m n Q f l → Ends P o
by_limit {P} {p} {o} m n Q f l e h =
    let b = limited m n Q f l h in
    record { place = p; fault = f; layer = l; is = e; least = omega arith; most = b.1; none = λ le q. omega arith }

module _ {S : Type 0} (K : Kind) (meaning : S → Meaning) (asked : S → Request → Reply → S → Type 0) (rank : S → ℕ → ℕ)
    (follows : (s t : S) (q : Request) (r : Reply) → asked s q r t → Follows K (meaning s) q r (meaning t))
    (sound : (s : S) → Sound K (meaning s)) where
  by_denial : {A : Type 0} {p : Place} {o : Outcome} (m : Meaning) (n f l : ℕ) (P : Valuation → Type 0) → o ≡ stopped p f l
      → ((Clash K f l × ((v : Valuation) → m.state.solves v → P v → ⊥)) ⊎ Limited m n P f l) → Ends (Claim m A (λ v a. P v)) o
  by_denial {A} {p} {o} m n f l P e (inl c) =
      let b = clash K f l c.0 in
      record { place = p; fault = f; layer = l; is = e; least = b.0; most = b.1; none = λ le q. c.1 q.val q.solved q.ok }
  by_denial {A} {p} {o} m n f l P e (inr c) = by_limit m n P f l e c

  pub ask_fresh : {s u : S} {p : Place} {o : Sort} {k : ℕ → Calls} {out : Outcome}
      → fits K (meaning s) (fresh o) ≡ true
      → Run meaning asked rank s (ask p (fresh o) k) out u
      → Res meaning asked rank s Value (λ v x. Of o x) (λ c. (c, o) ∷ []) (λ x. x ∷ []) k out u
  ask_fresh {s} {o = o} ft (got_code {t = t} {c = c} a r) =
      went t c (added (sound s) ((follows s t (fresh o) (code c) a).1 ft) (λ v x. Of o x) (λ v q. q) (λ v x q. subst (Of o) (sym (set_here v c x)) q)) r
  ask_fresh {s} {o = o} ft (no_code {t = t} {f = f} {l = l} a) =
      ended (by_limit (meaning s) ((meaning s).state.count + 1) (λ v. Unit {0}) f l refl ((follows s t (fresh o) (fault f l) a).1 ft).1)

  pub ask_build : {s u : S} {p : Place} {h : Head} {x y l : ℕ} {m : Labels} {k : ℕ → Calls} {out : Outcome}
      → fits K (meaning s) (build h x y l m) ≡ true
      → Run meaning asked rank s (ask p (build h x y l m) k) out u
      → Res meaning asked rank s Value (λ v z. Builds h l (v x) (v y) z) (λ c. (c, gives h m l) ∷ []) (λ z. z ∷ []) k out u
  ask_build {s} {h = h} {x = x} {y = y} {l = l} {m = m} ft (got_code {t = t} {c = c} a r) =
      let A = (follows s t (build h x y l m) (code c) a).1 ft in
      let tk = (both (ltb (head_number h) K.heads) (takes (meaning s).state h x y l m) ft).1 in
      let same : (d : ℕ) (o : Sort) (v : Valuation) (z : Value) → (meaning s).state.sort_of d ≡ some o → v d ≡ set v c z d =
      λ d o v z e. sym (set_there v c z d (known_apart (meaning s) c d o A.unknown e)) in
      went t c
      (added (sound s) A (λ v z. Builds h l (v x) (v y) z) (λ v q. q)
      (λ v z q.
      subst (λ (w : Value). Builds h l (set v c z x) (set v c z y) w) (sym (set_here v c z))
      (builds_swap h l (v x) (v y) (set v c z x) (set v c z y) z
      (λ e. same x (first_sort h) v z (takes_first (meaning s).state h x y l m tk e))
      (λ e. same y (second_sort h m) v z (takes_second (meaning s).state h x y l m tk e))
      q)))
      r
  ask_build {s} {h = h} {x = x} {y = y} {l = l} {m = m} ft (no_code {t = t} {f = f} {l = j} a) =
      ended (by_limit (meaning s) ((meaning s).state.count + 1) (λ v. Unit {0}) f j refl ((follows s t (build h x y l m) (fault f j) a).1 ft).1)

  pub ask_equate : {s u : S} {p : Place} {a b : ℕ} {k : Calls} {out : Outcome}
      → fits K (meaning s) (equate a b) ≡ true
      → Run meaning asked rank s (tell p (equate a b) k) out u
      → Res meaning asked rank s (Unit {0}) (λ v x. v a ≡ v b) (λ c. []) (λ x. []) (λ c. k) out u
  ask_equate {s} {a = a} {b = b} ft (told {t = t} e r) = went t 0 (kept ((follows s t (equate a b) done e).1 ft)) r
  ask_equate {s} {a = a} {b = b} ft (not_told {t = t} {f = f} {l = l} e) =
      ended (by_denial (meaning s) (meaning s).state.count f l (λ v. v a ≡ v b) refl ((follows s t (equate a b) (fault f l) e).1 ft).1)

  pub ask_demand : {s u : S} {p : Place} {n c : ℕ} {k : Calls} {out : Outcome}
      → (K.classes ≡ 0 → ⊥)
      → fits K (meaning s) (demand n c) ≡ true
      → Run meaning asked rank s (tell p (demand n c) k) out u
      → Res meaning asked rank s (Unit {0}) (λ v x. Within n c v) (λ c. []) (λ x. []) (λ c. k) out u
  ask_demand {s} {n = n} {c = c} cl ft (told {t = t} e r) = went t 0 (kept ((follows s t (demand n c) done e).1 ft).1) r
  ask_demand {s} {p = p} {n = n} {c = c} {k = k} cl ft (not_told {t = t} {f = f} {l = l} e) = ended (go ((follows s t (demand n c) (fault f l) e).1 ft).1)
    where
      go : ((K.classes ≡ 0) × (f ≡ 11) × (l ≡ 4)) ⊎ ((K.classes ≡ 4) × ((Clash K f l × ((v : Valuation) → (meaning s).state.solves v → Within n c v → ⊥)) ⊎ Limited (meaning s) (meaning s).state.count (Within n c) f l))
          → Ends (Claim (meaning s) (Unit {0}) (λ v x. Within n c v)) (stopped p f l)
      go (inl x) = absurd (cl x.0)
      go (inr x) = by_denial (meaning s) (meaning s).state.count f l (Within n c) refl x.1
