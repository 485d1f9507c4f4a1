-- What each call makes of the meaning, for every answer.
use Rattle.std.specs.Prelude.{◌≡◌, ℕ, ◌+◌, ◌*◌, ◌<◌, true, false, ◌⊎◌, List, [], ◌∷◌, length, ◌≢◌}
use Rattle.std.proofs.Math.Option.{some, none}
use Rattle.ground.specs.Values.{Ty, of_type}
use Rattle.ground.specs.Sorts.{Of}
use Rattle.ground.specs.Classes.{InClass}
use Rattle.ground.specs.Heads.{Builds, gives}
use Rattle.ground.specs.declared.sort.Sort.{Sort}
use Rattle.system.specs.Meaning.{Kind, Valuation, State, Meaning, Agree, Same, SameState, SameMarks}
use Rattle.system.specs.Requests.{Request, fresh, build, equate, demand, mark, keep, back, Reply, code, token, done, fault, fits, finder, most_marks, upper}

-- One code more, c, of the sort o: each old solution goes on once with each value of c that P allows.
pub record Added (m : Meaning) (c : ℕ) (o : Sort) (P : Valuation → Type 0) (n : Meaning) : Type 0 where
  pub capacity : n.capacity ≡ m.capacity
  pub marks : SameMarks m.marks n.marks
  pub count : n.state.count ≡ m.state.count + 1
  pub unknown : m.state.sort_of c ≡ none
  pub known : n.state.sort_of c ≡ some o
  pub old : (d : ℕ) → (d ≢ c) → n.state.sort_of d ≡ m.state.sort_of d
  pub onto : (v : Valuation) → n.state.solves v → m.state.solves v × P v
  pub from : (v : Valuation) → m.state.solves v → P v → n.state.solves v

-- Just the solutions that P allows are kept; codes may be added, and the values of the old codes fix theirs.
pub record Kept (m : Meaning) (P : Valuation → Type 0) (n : Meaning) : Type 0 where
  pub capacity : n.capacity ≡ m.capacity
  pub marks : SameMarks m.marks n.marks
  pub count : n.state.count ≡ m.state.count
  pub old : (c : ℕ) (o : Sort) → m.state.sort_of c ≡ some o → n.state.sort_of c ≡ some o
  pub onto : (v : Valuation) → n.state.solves v → m.state.solves v × P v
  pub from : (v : Valuation) → m.state.solves v → P v → (w : Valuation) × Agree m.state v w × n.state.solves w
  pub fixed : (v w : Valuation) → n.state.solves v → n.state.solves w → Agree m.state v w → Agree n.state v w

-- No solution would remain, were just those kept that P allows.
abbrev pub Void : Meaning → (Valuation → Type 0) → Type 0
Void m P = (v : Valuation) → m.state.solves v → P v → ⊥

-- The value of the code c is in the class k; only types are in one.
abbrev pub Within : ℕ → ℕ → Valuation → Type 0
Within k c v = (t : Ty) × (v c ≡ of_type t) × InClass k t

-- The code c is one of the list.
abbrev pub Among : List ℕ → ℕ → Type 0
Among [] c = ⊥
Among (d ∷ ds) c = (d ≡ c) ⊎ Among ds c

-- No code is twice in the list.
abbrev pub Different : List ℕ → Type 0
Different [] = Unit {0}
Different (d ∷ ds) = (Among ds d → ⊥) × Different ds

-- Over 128 open codes would have a class: each of these codes is within a class in all that would remain, and each can have two values while the
-- others of them keep theirs. (A code that is no open one is then a list of an open one, or a list of such lists, each over an open code of its own.)
pub record Crowded (m : Meaning) (P : Valuation → Type 0) : Type 0 where
  pub who : List ℕ
  pub many : 128 < length who
  pub different : Different who
  pub held : (c : ℕ) → Among who c → (k : ℕ) × ((v : Valuation) → m.state.solves v → P v → Within k c v)
  pub alone :
      (c : ℕ) → Among who c
      → (v w : Valuation) × m.state.solves v × P v × m.state.solves w × P w × (v c ≢ w c) × ((d : ℕ) → Among who d → (d ≢ c) → v d ≡ w d)

-- A limit is met: 16, found by the bottom system, never while 49 times the calls, this one counted, is at most the capacity; or 17, found by the class
-- layer, only when over 128 open codes would have a class.
abbrev pub Limited : Meaning → ℕ → (Valuation → Type 0) → ℕ → ℕ → Type 0
Limited m calls P f l = ((f ≡ 16) × (l ≡ 4) × (m.capacity < 49 * calls)) ⊎ ((f ≡ 17) × (l ≡ 3) × Crowded m P)

-- What is told when no solution would remain: 12 or 13, found by the bottom system; where there are classes also 14 or 15, found by the class layer.
abbrev pub Clash : Kind → ℕ → ℕ → Type 0
Clash K f l = (((f ≡ 12) ⊎ (f ≡ 13)) × (l ≡ 4)) ⊎ (((f ≡ 14) ⊎ (f ≡ 15)) × (l ≡ 3) × (K.classes ≡ 4))

-- The marks but the newest.
abbrev pub Dropped : List State → List State → Type 0
Dropped [] ts = ⊥
Dropped (s ∷ ss) ts = SameMarks ss ts

-- What a request that is not refused with 21 is answered, and what it makes of the meaning. Fresh and build count themselves against the 49 rule; equate
-- and demand are no fresh or build calls, and find the calls that stand.
abbrev pub Goes : Kind → Meaning → Request → Reply → Meaning → Type 0
Goes K m (fresh o) (code c) n = Added m c o (λ v. Of o (v c)) n
Goes K m (fresh o) (token d) n = ⊥
Goes K m (fresh o) done n = ⊥
Goes K m (fresh o) (fault f l) n = Same m n × Limited m (m.state.count + 1) (λ v. Unit {0}) f l
Goes K m (build h x y k s) (code c) n = Added m c (gives h s k) (λ v. Builds h k (v x) (v y) (v c)) n
Goes K m (build h x y k s) (token d) n = ⊥
Goes K m (build h x y k s) done n = ⊥
Goes K m (build h x y k s) (fault f l) n = Same m n × Limited m (m.state.count + 1) (λ v. Unit {0}) f l
Goes K m (equate a b) (code c) n = ⊥
Goes K m (equate a b) (token d) n = ⊥
Goes K m (equate a b) done n = Kept m (λ v. v a ≡ v b) n
Goes K m (equate a b) (fault f l) n = Same m n × ((Clash K f l × Void m (λ v. v a ≡ v b)) ⊎ Limited m m.state.count (λ v. v a ≡ v b) f l)
Goes K m (demand k c) (code d) n = ⊥
Goes K m (demand k c) (token d) n = ⊥
Goes K m (demand k c) done n = (K.classes ≡ 4) × Kept m (Within k c) n × ((d : ℕ) → n.state.sort_of d ≡ m.state.sort_of d)
Goes K m (demand k c) (fault f l) n =
    Same m n
    × (((K.classes ≡ 0) × (f ≡ 11) × (l ≡ 4))
    ⊎ ((K.classes ≡ 4) × ((Clash K f l × Void m (Within k c)) ⊎ Limited m m.state.count (Within k c) f l)))
Goes K m mark (code c) n = ⊥
Goes K m mark (token d) n = (length m.marks < most_marks K) × (d ≡ length m.marks) × (n.capacity ≡ m.capacity) × SameState m.state n.state × SameMarks (m.state ∷ m.marks) n.marks
Goes K m mark done n = ⊥
Goes K m mark (fault f l) n = (length m.marks ≡ most_marks K) × (f ≡ 23) × (l ≡ upper K) × Same m n
Goes K m (keep d) (code c) n = ⊥
Goes K m (keep d) (token e) n = ⊥
Goes K m (keep d) done n = (n.capacity ≡ m.capacity) × SameState m.state n.state × Dropped m.marks n.marks
Goes K m (keep d) (fault f l) n = ⊥
Goes K m (back d) (code c) n = ⊥
Goes K m (back d) (token e) n = ⊥
Goes K m (back d) done n = (n.capacity ≡ m.capacity) × SameMarks m.marks (n.state ∷ n.marks)
Goes K m (back d) (fault f l) n = ⊥

-- What any request is answered, and what it makes of the meaning: 21 and no change where it does not fit, before all else.
abbrev pub Follows : Kind → Meaning → Request → Reply → Meaning → Type 0
Follows K m q r n =
    (fits K m q ≡ false → (r ≡ fault 21 (finder K m q)) × Same m n)
    × (fits K m q ≡ true → Goes K m q r n)
