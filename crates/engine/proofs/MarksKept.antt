-- Typing opens and ends no mark: the marks and the capacity are after it as they were.
use Rattle.std.proofs.Common.{◌≡◌, ℕ, ◌/◌, ◌%◌, ◌^◌, Bool, true, false, eqb, List, [], ◌∷◌, sym, refl, ◌∙◌}
use mathlib.Core.Option.{Option, some, none}
use Rattle.ground.specs.Forms.{Form, name, number, tenths, truth, fun, call, let_in, fix, if_then, empty_record, extend, select, remove}
use Rattle.ground.specs.declared.place.Place.{Place}
use Rattle.ground.specs.declared.sort.Sort.{Sort}
use Rattle.ground.specs.declared.classes.Classes.{Classes}
use Rattle.system.specs.Meaning.{Kind, State, Meaning, SameState, SameMarks, Same}
use Rattle.system.specs.Requests.{Request, fresh, build, equate, demand, mark, keep, back, Reply, code as aCode, token, done, fault, fits}
use Rattle.system.specs.Follows.{Follows, Goes}
use Rattle.engine.specs.Trees.{Tree, any, stay, leaf, over, pair, Binding, code, scheme, Scope}
use Rattle.engine.specs.Calls.{Calls, answer, ask, tell, bind, demand_if, demand_in, demands, Given, got, variable, copy, use_name, bound, typing}
use Rattle.engine.specs.Runs.{Outcome, Ran, end, got_code, no_code, told, not_told, looked_at}

same_refl : (s : State) → SameState s s
same_refl s = record { count = refl; sorts = λ c. refl; onward = λ v h. h; backward = λ v h. h; opens = λ c k. (λ h. h, λ h. h) }

same_trans : (s t u : State) → SameState s t → SameState t u → SameState s u
same_trans s t u a b = record {
  count = a.count ∙ b.count;
  sorts = λ c. a.sorts c ∙ b.sorts c;
  onward = λ v h. b.onward v (a.onward v h);
  backward = λ v h. a.backward v (b.backward v h);
  opens = λ c k. (λ h. (b.opens c k).0 ((a.opens c k).0 h), λ h. (a.opens c k).1 ((b.opens c k).1 h));
}

pub marks_refl : (ss : List State) → SameMarks ss ss
marks_refl [] = tt
marks_refl (s ∷ ss) = (same_refl s, marks_refl ss)

pub marks_trans : (ss ts us : List State) → SameMarks ss ts → SameMarks ts us → SameMarks ss us
marks_trans [] [] us a b = b
marks_trans [] (t ∷ ts) us a b = absurd a
marks_trans (s ∷ ss) [] us a b = absurd a
marks_trans (s ∷ ss) (t ∷ ts) [] a b = absurd b
marks_trans (s ∷ ss) (t ∷ ts) (u ∷ us) a b = (same_trans s t u a.0 b.0, marks_trans ss ts us a.1 b.1)

-- A request that is about no mark.
abbrev pub Plain : Request → Type 0
Plain (fresh o) = Unit {0}
Plain (build h x y l m) = Unit {0}
Plain (equate a b) = Unit {0}
Plain (demand k c) = Unit {0}
Plain mark = ⊥
Plain (keep d) = ⊥
Plain (back d) = ⊥

abbrev pub Quiet : Calls → Type 0
Quiet (answer c) = Unit {0}
Quiet (ask p q k) = Plain q × ((c : ℕ) → Quiet (k c))
Quiet (tell p q k) = Plain q × Quiet k
Quiet (bind c E k) = (t : Tree) → Quiet (k t)

pub record KeptMarks (m n : Meaning) : Type 0 where
  pub capacity : n.capacity ≡ m.capacity
  pub marks : SameMarks m.marks n.marks

kept_trans : {m n o : Meaning} → KeptMarks m n → KeptMarks n o → KeptMarks m o
kept_trans {m} {n} {o} a b = record { capacity = b.capacity ∙ a.capacity; marks = marks_trans m.marks n.marks o.marks a.marks b.marks }

of_same : {m n : Meaning} → Same m n → KeptMarks m n
of_same a = record { capacity = sym a.capacity; marks = a.marks }

goes_marks : (K : Kind) (m n : Meaning) (q : Request) (r : Reply) → Plain q → Goes K m q r n → KeptMarks m n
goes_marks K m n (fresh o) (aCode c) p g = record { capacity = g.capacity; marks = g.marks }
goes_marks K m n (fresh o) (token d) p g = absurd g
goes_marks K m n (fresh o) done p g = absurd g
goes_marks K m n (fresh o) (fault f l) p g = of_same g.0
goes_marks K m n (build h x y l s) (aCode c) p g = record { capacity = g.capacity; marks = g.marks }
goes_marks K m n (build h x y l s) (token d) p g = absurd g
goes_marks K m n (build h x y l s) done p g = absurd g
goes_marks K m n (build h x y l s) (fault f j) p g = of_same g.0
goes_marks K m n (equate a b) (aCode c) p g = absurd g
goes_marks K m n (equate a b) (token d) p g = absurd g
goes_marks K m n (equate a b) done p g = record { capacity = g.capacity; marks = g.marks }
goes_marks K m n (equate a b) (fault f l) p g = of_same g.0
goes_marks K m n (demand k c) (aCode d) p g = absurd g
goes_marks K m n (demand k c) (token d) p g = absurd g
goes_marks K m n (demand k c) done p g = record { capacity = g.1.capacity; marks = g.1.marks }
goes_marks K m n (demand k c) (fault f l) p g = of_same g.0
goes_marks K m n mark r p g = absurd p
goes_marks K m n (keep d) r p g = absurd p
goes_marks K m n (back d) r p g = absurd p

follows_marks : (K : Kind) (m n : Meaning) (q : Request) (r : Reply) → Plain q → Follows K m q r n → KeptMarks m n
follows_marks K m n q r p f = go (fits K m q) refl
  where
    go : (b : Bool) → fits K m q ≡ b → KeptMarks m n
    go true e = goes_marks K m n q r p (f.1 e)
    go false e = of_same (f.0 e).1

module _ {S : Type 0} (K : Kind) (meaning : S → Meaning) (asked : S → Request → Reply → S → Type 0) (Scheme : S → ℕ → Scope → Tree → Type 0)
    (follows : (s t : S) (q : Request) (r : Reply) → asked s q r t → Follows K (meaning s) q r (meaning t)) where
  pub run_marks : {s u : S} {k : Calls} {o : Outcome} → Ran asked Scheme s k o u → Quiet k → KeptMarks (meaning s) (meaning u)
  run_marks (end {s = s}) q = record { capacity = refl; marks = marks_refl (meaning s).marks }
  run_marks (got_code {s = s} {t = t} {q = r} {c = c} a n) q = kept_trans (follows_marks K (meaning s) (meaning t) r (aCode c) q.0 (follows s t r (aCode c) a)) (run_marks n (q.1 c))
  run_marks (no_code {s = s} {t = t} {q = r} {f = f} {l = l} a) q = follows_marks K (meaning s) (meaning t) r (fault f l) q.0 (follows s t r (fault f l) a)
  run_marks (told {s = s} {t = t} {q = r} a n) q = kept_trans (follows_marks K (meaning s) (meaning t) r done q.0 (follows s t r done a)) (run_marks n q.1)
  run_marks (not_told {s = s} {t = t} {q = r} {f = f} {l = l} a) q = follows_marks K (meaning s) (meaning t) r (fault f l) q.0 (follows s t r (fault f l) a)
  run_marks (looked_at {t = t} h n) q = run_marks n (q t)

quiet_if : (b : Bool) (p : Place) (c n : ℕ) (k : Calls) → Quiet k → Quiet (demand_if b p c n k)
quiet_if true p c n k q = (tt, q)
quiet_if false p c n k q = q

quiet_demands : (p : Place) (s : Classes) (c : ℕ) (k : Calls) → Quiet k → Quiet (demands p s c k)
quiet_demands p s c k q =
    quiet_if (eqb ((s.0 / 2 ^ 0) % 2) 1) p c 0 (demand_in p s c 1 (demand_in p s c 2 (demand_in p s c 3 k)))
    (quiet_if (eqb ((s.0 / 2 ^ 1) % 2) 1) p c 1 (demand_in p s c 2 (demand_in p s c 3 k))
    (quiet_if (eqb ((s.0 / 2 ^ 2) % 2) 1) p c 2 (demand_in p s c 3 k) (quiet_if (eqb ((s.0 / 2 ^ 3) % 2) 1) p c 3 k q)))

quiet_variable : (b : Option ℕ) (p : Place) (g : ℕ) (o : Sort) (s : Classes) (m : Given) (k : ℕ → Given → Calls) → ((c : ℕ) (n : Given) → Quiet (k c n)) → Quiet (variable b p g o s m k)
quiet_variable (some c) p g o s m k q = q c m
quiet_variable none p g o s m k q = (tt, λ c. quiet_demands p s c (k c ((g, c) ∷ m)) (q c ((g, c) ∷ m)))

quiet_copy : (t : Tree) (p : Place) (m : Given) (k : ℕ → Given → Calls) → ((c : ℕ) (n : Given) → Quiet (k c n)) → Quiet (copy p t m k)
quiet_copy (any g o s) p m k q = quiet_variable (got m g) p g o s m k q
quiet_copy (stay c) p m k q = q c m
quiet_copy (leaf h s) p m k q = (tt, λ c. q c m)
quiet_copy (over h t) p m k q = quiet_copy t p m _ (λ x n. (tt, λ c. q c n))
quiet_copy (pair h l s t u) p m k q = quiet_copy t p m _ (λ x n. quiet_copy u p n _ (λ y o. (tt, λ c. q c o)))

quiet_name : (b : Option Binding) (p : Place) (k : ℕ → Calls) → ((c : ℕ) → Quiet (k c)) → Quiet (use_name p b k)
quiet_name none p k q = tt
quiet_name (some (code c)) p k q = q c
quiet_name (some (scheme t)) p k q = quiet_copy t p [] (λ c m. k c) (λ c m. q c)

pub quiet_typing : (e : Form) (E : Scope) (k : ℕ → Calls) → ((c : ℕ) → Quiet (k c)) → Quiet (typing e E k)
quiet_typing (name p n) E k q = quiet_name (bound E n) p k q
quiet_typing (number p z) E k q = (tt, q)
quiet_typing (tenths p z) E k q = (tt, q)
quiet_typing (truth p b) E k q = (tt, q)
quiet_typing (fun p n B) E k q = (tt, λ a. quiet_typing B ((n, code a) ∷ E) _ (λ b. (tt, q)))
quiet_typing (call p F A) E k q = quiet_typing F E _ (λ f. quiet_typing A E _ (λ x. (tt, λ a. (tt, λ t. (tt, q a)))))
quiet_typing (let_in p n A B) E k q = quiet_typing A E _ (λ x. λ t. quiet_typing B ((n, scheme t) ∷ E) k q)
quiet_typing (fix p n B) E k q = (tt, λ a. quiet_typing B ((n, code a) ∷ E) _ (λ b. (tt, q a)))
quiet_typing (if_then p C A B) E k q = quiet_typing C E _ (λ c. (tt, λ f. (tt, quiet_typing A E _ (λ x. quiet_typing B E _ (λ b. (tt, q x))))))
quiet_typing (empty_record p) E k q = (tt, λ r. (tt, q))
quiet_typing (extend p R l A) E k q = quiet_typing R E _ (λ x. quiet_typing A E _ (λ a. (tt, λ f. (tt, λ r. (tt, λ i. (tt, λ y. (tt, (tt, λ h. (tt, λ j. (tt, q))))))))))
quiet_typing (select p R l) E k q = quiet_typing R E _ (λ x. (tt, λ t. (tt, λ h. (tt, λ r. (tt, λ i. (tt, λ y. (tt, q t)))))))
quiet_typing (remove p R l) E k q = quiet_typing R E _ (λ x. (tt, λ f. (tt, λ r. (tt, λ i. (tt, λ y. (tt, (tt, λ h. (tt, λ j. (tt, q)))))))))
