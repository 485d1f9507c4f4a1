-- Sameness of states, marks and meanings.
use Rattle.std.proofs.Common.{◌≡◌, suc, List, [], ◌∷◌, length, sym, refl, ap, ◌∙◌}
use Rattle.system.specs.Meaning.{State, Meaning, Same, SameState, Each, SameMarks}

pub state_same : (s : State) → SameState s s
state_same s = record { count = refl; sorts = λ c. refl; onward = λ v h. h; backward = λ v h. h; opens = λ c k. (λ l. l, λ l. l) }

pub state_back : {s t : State} → SameState s t → SameState t s
state_back p = record { count = sym p.count; sorts = λ c. sym (p.sorts c); onward = p.backward; backward = p.onward; opens = λ c k. ((p.opens c k).1, (p.opens c k).0) }

pub state_then : {s t u : State} → SameState s t → SameState t u → SameState s u
state_then p q = record {
  count = p.count ∙ q.count;
  sorts = λ c. p.sorts c ∙ q.sorts c;
  onward = λ v h. q.onward v (p.onward v h);
  backward = λ v h. p.backward v (q.backward v h);
  opens = λ c k. (λ l. (q.opens c k).0 ((p.opens c k).0 l), λ l. (p.opens c k).1 ((q.opens c k).1 l));
}

-- of lists of states, one by one
pub each_of : {P Q : State → State → Type 0} → ((s t : State) → P s t → Q s t) → (ss ts : List State) → Each P ss ts → Each Q ss ts
each_of f [] [] p = tt
each_of f [] (t ∷ ts) p = absurd p
each_of f (s ∷ ss) [] p = absurd p
each_of f (s ∷ ss) (t ∷ ts) p = (f s t p.0, each_of f ss ts p.1)

pub each_back : {R : State → State → Type 0} → ((s t : State) → R s t → R t s) → (ss ts : List State) → Each R ss ts → Each R ts ss
each_back f [] [] p = tt
each_back f [] (t ∷ ts) p = absurd p
each_back f (s ∷ ss) [] p = absurd p
each_back f (s ∷ ss) (t ∷ ts) p = (f s t p.0, each_back f ss ts p.1)

pub each_then : {R : State → State → Type 0} → ((s t u : State) → R s t → R t u → R s u) → (ss ts us : List State) → Each R ss ts → Each R ts us → Each R ss us
each_then f [] [] us p q = q
each_then f [] (t ∷ ts) us p q = absurd p
each_then f (s ∷ ss) [] us p q = absurd p
each_then f (s ∷ ss) (t ∷ ts) [] p q = absurd q
each_then f (s ∷ ss) (t ∷ ts) (u ∷ us) p q = (f s t u p.0 q.0, each_then f ss ts us p.1 q.1)

pub each_length : (R : State → State → Type 0) (ss ts : List State) → Each R ss ts → length ss ≡ length ts
each_length R [] [] p = refl
each_length R [] (t ∷ ts) p = absurd p
each_length R (s ∷ ss) [] p = absurd p
each_length R (s ∷ ss) (t ∷ ts) p = ap suc (each_length R ss ts p.1)

pub marks_same : (s : List State) → SameMarks s s
marks_same [] = tt
marks_same (s ∷ ss) = (state_same s, marks_same ss)

pub marks_back : (s t : List State) → SameMarks s t → SameMarks t s
marks_back s t p = each_back (λ x y e. state_back e) s t p

pub marks_then : (s t u : List State) → SameMarks s t → SameMarks t u → SameMarks s u
marks_then s t u p q = each_then (λ x y z e f. state_then e f) s t u p q

pub marks_length : (s t : List State) → SameMarks s t → length s ≡ length t
marks_length s t p = each_length SameState s t p

pub same_same : (m : Meaning) → Same m m
same_same m = record { capacity = refl; state = state_same m.state; marks = marks_same m.marks }

pub same_back : (m n : Meaning) → Same m n → Same n m
same_back m n p = record { capacity = sym p.capacity; state = state_back p.state; marks = marks_back m.marks n.marks p.marks }

pub same_then : (m n o : Meaning) → Same m n → Same n o → Same m o
same_then m n o p q = record { capacity = p.capacity ∙ q.capacity; state = state_then p.state q.state; marks = marks_then m.marks n.marks o.marks p.marks q.marks }
