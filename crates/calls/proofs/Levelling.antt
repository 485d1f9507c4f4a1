-- How many marks are open after a request.
use Rattle.std.proofs.Common.{◌≡◌, ℕ, suc, Bool, true, false, ◌⊎◌, List, [], ◌∷◌, length, Ok, Err, Result, sym, refl, ap, ◌∙◌, inl, inr, eq-eqb}
use Rattle.system.specs.Meaning.{Kind, State, Meaning, SameMarks}
use Rattle.system.specs.Requests.{Request, mark, keep, back, Reply, code, token, done, fault, fits}
use Rattle.system.specs.Follows.{Follows, Goes, Dropped}
use Rattle.calls.specs.declared.book.Made.{Made}
use Rattle.lines.specs.declared.ask.Ask.{Ask}
use Rattle.lines.specs.declared.ask.Ask.TheVariants.{Fresh, Build, Equate, Demand}
use Rattle.calls.specs.declared.answer.Answer.{Answer}
use Rattle.calls.specs.declared.answer.Unanswered.{Unanswered}
use Rattle.calls.specs.declared.answer.Unanswered.TheVariants.{Refused, Memory}
use Rattle.calls.specs.Asks.{Told, request}
use Rattle.calls.specs.Levels.{level}

marks_length : (s t : List State) → SameMarks s t → length t ≡ length s
marks_length [] [] p = refl
marks_length [] (t ∷ ts) p = absurd p
marks_length (s ∷ ss) [] p = absurd p
marks_length (s ∷ ss) (t ∷ ts) p = ap suc (marks_length ss ts p.1)

either : (b : Bool) (P Q : Type 0) → (b ≡ false → P) × (b ≡ true → Q) → P ⊎ Q
either false P Q h = inl (h.0 refl)
either true P Q h = inr (h.1 refl)

goes_level : (K : Kind) (m n : Meaning) (ms : List Made) (q : Ask) (r : Reply) → Goes K m (request ms q) r n → level n ≡ level m
goes_level K m n ms (Fresh o) (code c) g = marks_length m.marks n.marks g.marks
goes_level K m n ms (Fresh o) (token d) g = absurd g
goes_level K m n ms (Fresh o) done g = absurd g
goes_level K m n ms (Fresh o) (fault f l) g = marks_length m.marks n.marks g.0.marks
goes_level K m n ms (Build h x y l s) (code c) g = marks_length m.marks n.marks g.marks
goes_level K m n ms (Build h x y l s) (token d) g = absurd g
goes_level K m n ms (Build h x y l s) done g = absurd g
goes_level K m n ms (Build h x y l s) (fault f k) g = marks_length m.marks n.marks g.0.marks
goes_level K m n ms (Equate x y) (code c) g = absurd g
goes_level K m n ms (Equate x y) (token d) g = absurd g
goes_level K m n ms (Equate x y) done g = marks_length m.marks n.marks g.marks
goes_level K m n ms (Equate x y) (fault f l) g = marks_length m.marks n.marks g.0.marks
goes_level K m n ms (Demand k x) (code c) g = absurd g
goes_level K m n ms (Demand k x) (token d) g = absurd g
goes_level K m n ms (Demand k x) done g = marks_length m.marks n.marks g.1.marks
goes_level K m n ms (Demand k x) (fault f l) g = marks_length m.marks n.marks g.0.marks

follows_level : (K : Kind) (m n : Meaning) (ms : List Made) (q : Ask) (r : Reply) → Follows K m (request ms q) r n → level n ≡ level m
follows_level K m n ms q r h =
    elim (either (fits K m (request ms q)) _ _ h) [
      | inl kept-all ↦ marks_length m.marks n.marks kept-all.1.marks
      | inr goes ↦ goes_level K m n ms q r goes
    ]

-- A call leaves as many marks open as there were.
pub told_level :
    {S F : Type 0} (asked : S → Request → Reply → S → Type 0) (number layer : F → ℕ) (meaning : S → Meaning) (K : Kind)
    → ((s t : S) (q : Request) (r : Reply) → asked s q r t → Follows K (meaning s) q r (meaning t))
    → (s t : S) (ms ns : List Made) (q : Ask) (r : Result Answer (Unanswered F))
    → Told asked number layer s ms q r t ns
    → level (meaning t) ≡ level (meaning s)
told_level asked number layer meaning K law s t ms ns q (Ok a) h = follows_level K (meaning s) (meaning t) ms q h.0 (law s t (request ms q) h.0 h.1)
told_level asked number layer meaning K law s t ms ns q (Err (Refused f)) h =
    let r = fault (number f) (layer f) in
    follows_level K (meaning s) (meaning t) ms q r (law s t (request ms q) r h.0)
told_level asked number layer meaning K law s t ms ns q (Err Memory) h = follows_level K (meaning s) (meaning t) ms q h.0 (law s t (request ms q) h.0 h.1)

-- A mark that is opened counts those that were open before it.
opened : (K : Kind) (m n : Meaning) (d : ℕ) → Follows K m mark (token d) n → (suc d ≡ level n) × (level n ≡ suc (level m))
opened K m n d h =
    let g = h.1 refl in
    let one = marks_length (m.state ∷ m.marks) n.marks g.4 in
    (ap suc g.1 ∙ sym one, one)

pub not_opened : (K : Kind) (m n : Meaning) (f l : ℕ) → Follows K m mark (fault f l) n → level n ≡ level m
not_opened K m n f l h = marks_length m.marks n.marks (h.1 refl).3.marks

dropped_length : (ss ts : List State) → Dropped ss ts → length ss ≡ suc (length ts)
dropped_length [] ts p = absurd p
dropped_length (s ∷ ss) ts p = ap suc (sym (marks_length ss ts p))

-- The newest mark is taken, and is then open no more.
pub kept : (K : Kind) (m n : Meaning) (d : ℕ) → suc d ≡ level m → Follows K m (keep d) done n → level m ≡ suc (level n)
kept K m n d e h = dropped_length m.marks n.marks (h.1 (eq-eqb (suc d) (level m) e)).2

pub undone : (K : Kind) (m n : Meaning) (d : ℕ) → suc d ≡ level m → Follows K m (back d) done n → level m ≡ suc (level n)
undone K m n d e h = sym (marks_length m.marks (n.state ∷ n.marks) (h.1 (eq-eqb (suc d) (level m) e)).1)

-- It is still the newest when as many are open again.
pub still_newest : (K : Kind) (m n u : Meaning) (d : ℕ) → Follows K m mark (token d) n → level u ≡ level n → suc d ≡ level u
still_newest K m n u d h under = (opened K m n d h).0 ∙ sym under
