-- What back leaves.
use Rattle.std.proofs.Common.{◌≡◌, ℕ, suc, ◌≤◌, Bool, true, false, cond, eqb, ltb, List, [], ◌∷◌, length, sym, refl, ap, ◌∙◌, arith, le-ltb, lt-ltb, eqb-true}
use Rattle.ground.proofs.Built.{no_way}
use Rattle.system.specs.Meaning.{Kind, State, Meaning, Same, SameMarks}
use Rattle.system.specs.Requests.{Request, fresh, build, equate, demand, mark, keep, back, Reply, code, token, done, fault, fits}
use Rattle.system.specs.Follows.{Follows, Goes, Dropped}
use Rattle.system.specs.Runs.{Over, rest, call, BackUndoes}
use Rattle.system.proofs.Same.{marks_same, marks_back, marks_then, marks_length}

-- the oldest n marks
abbrev oldest : ℕ → List State → List State
oldest n [] = []
oldest n (s ∷ ss) = cond (ltb (length ss) n) (s ∷ ss) (oldest n ss)

oldest_same : (n : ℕ) (ss ts : List State) → SameMarks ss ts → SameMarks (oldest n ss) (oldest n ts)
oldest_same n [] [] h = tt
oldest_same n [] (t ∷ ts) h = absurd h
oldest_same n (s ∷ ss) [] h = absurd h
oldest_same n (s ∷ ss) (t ∷ ts) h = go (ltb (length ss) n) (ltb (length ts) n) (ap (λ (k : ℕ). ltb k n) (marks_length ss ts h.1)) (oldest_same n ss ts h.1)
  where
    go : (a b : Bool) → a ≡ b → SameMarks (oldest n ss) (oldest n ts) → SameMarks (cond a (s ∷ ss) (oldest n ss)) (cond b (t ∷ ts) (oldest n ts))
    go true true e i = h
    go true false e i = absurd (no_way (sym e))
    go false true e i = absurd (no_way e)
    go false false e i = i

-- one mark more on top is not among them
oldest_under : (n : ℕ) (s : State) (ss : List State) → n ≤ length ss → SameMarks (oldest n (s ∷ ss)) (oldest n ss)
oldest_under n s ss h = go (ltb (length ss) n) (le-ltb (length ss) n h)
  where
    go : (a : Bool) → a ≡ false → SameMarks (cond a (s ∷ ss) (oldest n ss)) (oldest n ss)
    go true e = absurd (no_way (sym e))
    go false e = marks_same (oldest n ss)

oldest_all : (n : ℕ) (ss : List State) → length ss ≤ n → SameMarks (oldest n ss) ss
oldest_all n [] h = tt
oldest_all n (s ∷ ss) h = go (ltb (length ss) n) (lt-ltb (length ss) n (omega arith))
  where
    go : (a : Bool) → a ≡ true → SameMarks (cond a (s ∷ ss) (oldest n ss)) (s ∷ ss)
    go true e = marks_same (s ∷ ss)
    go false e = absurd (no_way e)

-- the oldest n marks and the capacity
pub record KeptBelow (n : ℕ) (m o : Meaning) : Type 0 where
  pub capacity : m.capacity ≡ o.capacity
  pub marks : SameMarks (oldest n m.marks) (oldest n o.marks)

below_same : (n : ℕ) (m o : Meaning) → m.capacity ≡ o.capacity → SameMarks m.marks o.marks → KeptBelow n m o
below_same n m o e h = record { capacity = e; marks = oldest_same n m.marks o.marks h }

below_of_same : (n : ℕ) (m o : Meaning) → Same m o → KeptBelow n m o
below_of_same n m o h = below_same n m o h.capacity h.marks

below_dropped : (n : ℕ) (ss ts : List State) → n ≤ length ts → Dropped ss ts → SameMarks (oldest n ss) (oldest n ts)
below_dropped n [] ts l h = absurd h
below_dropped n (s ∷ ss) ts l h =
    marks_then (oldest n (s ∷ ss)) (oldest n ss) (oldest n ts) (oldest_under n s ss (omega (arith, marks_length ss ts h, l))) (oldest_same n ss ts h)

below_goes : (K : Kind) (n : ℕ) (m o : Meaning) (q : Request) (r : Reply) → n ≤ length m.marks → n ≤ length o.marks → Goes K m q r o → KeptBelow n m o
below_goes K n m o (fresh k) (code c) l p h = below_same n m o (sym h.capacity) h.marks
below_goes K n m o (fresh k) (token d) l p h = absurd h
below_goes K n m o (fresh k) done l p h = absurd h
below_goes K n m o (fresh k) (fault f y) l p h = below_of_same n m o h.0
below_goes K n m o (build g x y k s) (code c) l p h = below_same n m o (sym h.capacity) h.marks
below_goes K n m o (build g x y k s) (token d) l p h = absurd h
below_goes K n m o (build g x y k s) done l p h = absurd h
below_goes K n m o (build g x y k s) (fault f u) l p h = below_of_same n m o h.0
below_goes K n m o (equate a b) (code c) l p h = absurd h
below_goes K n m o (equate a b) (token d) l p h = absurd h
below_goes K n m o (equate a b) done l p h = below_same n m o (sym h.capacity) h.marks
below_goes K n m o (equate a b) (fault f y) l p h = below_of_same n m o h.0
below_goes K n m o (demand k c) (code d) l p h = absurd h
below_goes K n m o (demand k c) (token d) l p h = absurd h
below_goes K n m o (demand k c) done l p h = below_same n m o (sym h.1.capacity) h.1.marks
below_goes K n m o (demand k c) (fault f y) l p h = below_of_same n m o h.0
below_goes K n m o mark (code c) l p h = absurd h
below_goes K n m o mark (token d) l p h = record {
  capacity = sym h.2;
  marks = marks_then (oldest n m.marks) (oldest n (m.state ∷ m.marks)) (oldest n o.marks)
      (marks_back (oldest n (m.state ∷ m.marks)) (oldest n m.marks) (oldest_under n m.state m.marks l)) (oldest_same n (m.state ∷ m.marks) o.marks h.4);
}
below_goes K n m o mark done l p h = absurd h
below_goes K n m o mark (fault f y) l p h = below_of_same n m o h.3
below_goes K n m o (keep d) (code c) l p h = absurd h
below_goes K n m o (keep d) (token e) l p h = absurd h
below_goes K n m o (keep d) done l p h = record { capacity = sym h.0; marks = below_dropped n m.marks o.marks p h.2 }
below_goes K n m o (keep d) (fault f y) l p h = absurd h
below_goes K n m o (back d) (code c) l p h = absurd h
below_goes K n m o (back d) (token e) l p h = absurd h
below_goes K n m o (back d) done l p h = record {
  capacity = sym h.0;
  marks = marks_then (oldest n m.marks) (oldest n (o.state ∷ o.marks)) (oldest n o.marks) (oldest_same n m.marks (o.state ∷ o.marks) h.1) (oldest_under n o.state o.marks p);
}
below_goes K n m o (back d) (fault f y) l p h = absurd h

below_follows : (K : Kind) (n : ℕ) (m o : Meaning) (q : Request) (r : Reply) → n ≤ length m.marks → n ≤ length o.marks → Follows K m q r o → KeptBelow n m o
below_follows K n m o q r l p h = go (fits K m q) refl
  where
    go : (b : Bool) → fits K m q ≡ b → KeptBelow n m o
    go true e = below_goes K n m o q r l p (h.1 e)
    go false e = below_of_same n m o (h.0 e).1

module _ {S : Type 0} (K : Kind) (meaning : S → Meaning) (asked : S → Request → Reply → S → Type 0) (told : (s t : S) (q : Request) (r : Reply) → asked s q r t → Follows K (meaning s) q r (meaning t)) where
  below_run : (n : ℕ) (s t : S) → n ≤ length (meaning s).marks → Over meaning asked n s t → KeptBelow n (meaning s) (meaning t)
  below_run n s t l rest = below_same n (meaning s) (meaning s) refl (marks_same (meaning s).marks)
  below_run n s u l (call {s = s0} {t = t} {u = u0} q r a p o) =
      let x = below_follows K n (meaning s) (meaning t) q r l p (told s t q r a) in
      let y = below_run n t u p o in
      record { capacity = x.capacity ∙ y.capacity; marks = marks_then (oldest n (meaning s).marks) (oldest n (meaning t).marks) (oldest n (meaning u).marks) x.marks y.marks }

  back_goes : (d : ℕ) (m o : Meaning) → Follows K m (back d) done o → (suc d ≡ length m.marks) × (o.capacity ≡ m.capacity) × SameMarks m.marks (o.state ∷ o.marks)
  back_goes d m o h = go (fits K m (back d)) refl
    where
      go : (b : Bool) → eqb (suc d) (length m.marks) ≡ b → (suc d ≡ length m.marks) × (o.capacity ≡ m.capacity) × SameMarks m.marks (o.state ∷ o.marks)
      go true e = let g = h.1 e in (eqb-true (suc d) (length m.marks) e, g.0, g.1)
      go false e = let q = (h.0 e).0 in let z : ◌≡◌ {A = ℕ} 0 1 = cc in absurd (let y : ⊥ = omega (arith, z) in y)

  pub back_undoes : BackUndoes meaning asked
  back_undoes s t u v d a o b =
      let g = (told s t mark (token d) a).1 refl in
      let lt : length (meaning t).marks ≡ suc d = sym (marks_length ((meaning s).state ∷ (meaning s).marks) (meaning t).marks g.4) ∙ ap suc (sym g.1) in
      let k = below_run (suc d) t u (omega (arith, lt)) o in
      let e = back_goes d (meaning u) (meaning v) (told u v (back d) done b) in
      let same : SameMarks (meaning t).marks (meaning u).marks =
      marks_then (meaning t).marks (oldest (suc d) (meaning t).marks) (meaning u).marks
      (marks_back (oldest (suc d) (meaning t).marks) (meaning t).marks (oldest_all (suc d) (meaning t).marks (omega (arith, lt))))
      (marks_then (oldest (suc d) (meaning t).marks) (oldest (suc d) (meaning u).marks) (meaning u).marks k.marks (oldest_all (suc d) (meaning u).marks (omega (arith, e.0)))) in
      let all : SameMarks ((meaning s).state ∷ (meaning s).marks) ((meaning v).state ∷ (meaning v).marks) =
      marks_then ((meaning s).state ∷ (meaning s).marks) (meaning t).marks ((meaning v).state ∷ (meaning v).marks) g.4
      (marks_then (meaning t).marks (meaning u).marks ((meaning v).state ∷ (meaning v).marks) same e.2) in
      record { capacity = sym (e.1 ∙ sym k.capacity ∙ g.2); state = all.0; marks = all.1 }
