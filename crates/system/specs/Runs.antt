-- Laws over runs of calls, and over the answers to one call.
use Rattle.std.specs.Prelude.{◌≡◌, ℕ, suc, ◌+◌, ◌≤◌, List, length}
use Rattle.system.specs.Meaning.{Valuation, State, Meaning, Known, Agree, Same, Each}
use Rattle.system.specs.Requests.{Request, fresh, build, equate, demand, mark, keep, back, Reply, code, token, done, fault}
use Rattle.system.specs.Follows.{Limited, Within}

-- A run of calls from one state to another, with at least n marks open after each.
pub data Over {S : Type 0} (meaning : S → Meaning) (asked : S → Request → Reply → S → Type 0) (n : ℕ) : S → S → Type 0 where
  rest : {s : S} → Over meaning asked n s s
  call : {s t u : S} (q : Request) (r : Reply) → asked s q r t → n ≤ length (meaning t).marks → Over meaning asked n t u → Over meaning asked n s u

-- Whatever is asked between a mark and its back, ending no older mark, back leaves what was meant when the mark was made.
abbrev pub BackUndoes : {S : Type 0} → (S → Meaning) → (S → Request → Reply → S → Type 0) → Type 0
BackUndoes {S} meaning asked =
    (s t u v : S) (d : ℕ) → asked s mark (token d) t → Over meaning asked (suc d) t u → asked u (back d) done v → Same (meaning s) (meaning v)

-- Two states have the same calls, codes, sorts and solutions; which of equal open codes stands for the others may differ.
pub record AlikeState (s t : State) : Type 0 where
  pub count : s.count ≡ t.count
  pub sorts : (c : ℕ) → s.sort_of c ≡ t.sort_of c
  pub onward : (v : Valuation) → s.solves v → t.solves v
  pub backward : (v : Valuation) → t.solves v → s.solves v

-- As many marks, each with such states.
abbrev pub AlikeMarks : List State → List State → Type 0
AlikeMarks = Each AlikeState

-- Two meanings are alike: the same but for the open codes.
pub record Alike (m n : Meaning) : Type 0 where
  pub capacity : m.capacity ≡ n.capacity
  pub state : AlikeState m.state n.state
  pub marks : AlikeMarks m.marks n.marks

-- Two meanings say the same of the codes that m knows: these have the same sorts, and the same values in the solutions. (Each may know more codes.)
pub record AlikeOn (m n o : Meaning) : Type 0 where
  pub capacity : n.capacity ≡ o.capacity
  pub count : n.state.count ≡ o.state.count
  pub marks : AlikeMarks n.marks o.marks
  pub sorts : (c : ℕ) → Known m.state c → n.state.sort_of c ≡ o.state.sort_of c
  pub onward : (v : Valuation) → n.state.solves v → (w : Valuation) × Agree m.state v w × o.state.solves w
  pub backward : (v : Valuation) → o.state.solves v → (w : Valuation) × Agree m.state v w × n.state.solves w

-- A limit that a call may meet: the 49 rule and the rule of 128 bind it.
abbrev pub MayLimit : Meaning → Request → ℕ → ℕ → Type 0
MayLimit m (fresh o) f l = Limited m (m.state.count + 1) (λ v. Unit {0}) f l
MayLimit m (build h x y k s) f l = Limited m (m.state.count + 1) (λ v. Unit {0}) f l
MayLimit m (equate a b) f l = Limited m m.state.count (λ v. v a ≡ v b) f l
MayLimit m (demand k c) f l = Limited m m.state.count (Within k c) f l
MayLimit m mark f l = ⊥
MayLimit m (keep d) f l = ⊥
MayLimit m (back d) f l = ⊥

-- What two systems whose meanings m and m' are alike may answer to one request, and what they then mean.
pub data Likewise (m m' : Meaning) (q : Request) (r : Reply) (n : Meaning) (r' : Reply) (n' : Meaning) : Type 0 where
  -- the same answer, and they still say the same of the codes known before
  same : r ≡ r' → AlikeOn m n n' → Likewise m m' q r n r' n'
  -- two new codes, whose numbers are free, and they still say the same of the codes known before
  codes : (c c' : ℕ) → r ≡ code c → r' ≡ code c' → AlikeOn m n n' → Likewise m m' q r n r' n'
  -- no solution would remain, and both say so, each with one of 12 to 15; no meaning changed
  denied : (f l f' l' : ℕ) → r ≡ fault f l → r' ≡ fault f' l' → (12 ≤ f) × (f ≤ 15) → (12 ≤ f') × (f' ≤ 15) → Alike n n' → Likewise m m' q r n r' n'
  -- one of them met a limit
  first_limit : (f l : ℕ) → r ≡ fault f l → MayLimit m q f l → Likewise m m' q r n r' n'
  second_limit : (f l : ℕ) → r' ≡ fault f l → MayLimit m' q f l → Likewise m m' q r n r' n'

-- One step of two systems of one kind: where their meanings are alike, so are their answers, but for what `Likewise` lists.
abbrev pub AnswersAgree : {S T : Type 0} → (S → Type 0) → (S → Meaning) → (S → Request → Reply → S → Type 0) → (T → Type 0) → (T → Meaning) → (T → Request → Reply → T → Type 0) → Type 0
AnswersAgree {S} {T} okS meaningS askedS okT meaningT askedT =
    (s s' : S) (t t' : T) (q : Request) (r r' : Reply) → okS s → okS s' → okT t' → Alike (meaningS s) (meaningT t) → askedS s q r s' → askedT t q r' t'
    → Likewise (meaningS s) (meaningT t) q r (meaningS s') r' (meaningT t')
