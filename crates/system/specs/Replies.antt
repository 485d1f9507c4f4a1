-- The answers of the calls, as replies.
use Rattle.std.specs.Prelude.{◌≡◌, ℕ, ◌<◌, true, length, Ok, Err, Result}
use Rattle.std.proofs.Math.Option.{some, none}
use Rattle.ground.specs.Heads.{Builds, gives, has_first, has_second}
use Rattle.ground.specs.declared.sort.Labels.{Labels}
use Rattle.ground.specs.declared.code.Code.{Code}
use Rattle.ground.specs.declared.classes.Classes.{Classes}
use Rattle.ground.specs.declared.head.Head.{Head}
use Rattle.system.specs.declared.unspent.Unspent.{Unspent}
use Rattle.system.specs.declared.view.View.{View}
use Rattle.system.specs.declared.view.View.TheVariants.{Open, Built}
use Rattle.system.specs.declared.tally.Tally.{Tally}
use Rattle.system.specs.Meaning.{Kind, Valuation, Meaning, Listed, Known}
use Rattle.system.specs.Requests.{Reply, code, token, done, fault, takes}

-- The kind with so many heads and classes.
abbrev pub kind_of : ℕ → ℕ → Kind
kind_of h c = record { heads = h; classes = c }

-- The answer of fresh and build, as a reply.
abbrev pub coded : {F : Type 0} → (F → ℕ) → (F → ℕ) → Result Code F → Reply
coded number layer (Ok c) = code c.0
coded number layer (Err e) = fault (number e) (layer e)

-- The answer of equate and demand, as a reply.
abbrev pub plain : {F : Type 0} → (F → ℕ) → (F → ℕ) → Result (Unit {0}) F → Reply
plain number layer (Ok u) = done
plain number layer (Err e) = fault (number e) (layer e)

-- The answer of mark, as a reply.
abbrev pub marked : {M F : Type 0} → (M → ℕ) → (F → ℕ) → (F → ℕ) → Result M F → Reply
marked depth number layer (Ok t) = token (depth t)
marked depth number layer (Err e) = fault (number e) (layer e)

-- The answer of keep and back, as a reply.
abbrev pub taken : {M F : Type 0} → (F → ℕ) → (F → ℕ) → Result (Unit {0}) (Unspent M F) → Reply
taken number layer (Ok u) = done
taken number layer (Err e) = fault (number e.fault) (layer e.fault)

-- On a refusal the very mark that was handed in comes back.
abbrev pub Returned : {M F : Type 0} → M → Result (Unit {0}) (Unspent M F) → Type 0
Returned t (Ok u) = Unit {0}
Returned t (Err e) = e.mark ≡ t

-- The open code d, with its class set, is equal to c in every solution, and is c itself where c is open. Values of different sorts are different.
pub record Stands (m : Meaning) (c d : ℕ) (k : Classes) : Type 0 where
  pub listed : Listed m.state.opens d k
  pub sort : m.state.sort_of d ≡ m.state.sort_of c
  pub equal : (v : Valuation) → m.state.solves v → v c ≡ v d
  pub itself : (j : Classes) → Listed m.state.opens c j → d ≡ c

-- A head over known codes of the right sorts, a row's label at most 23, from which every solution builds the value of c, which is not open. The rank counts
-- heads: that of c counts this head and so is at least 1, and it is above those of the children.
pub record Shaped (rank : ℕ → ℕ) (m : Meaning) (c : ℕ) (h : Head) (x y l : ℕ) : Type 0 where
  pub bound : (j : Classes) → Listed m.state.opens c j → ⊥
  pub lacked : Labels
  pub takes : takes m.state h x y l lacked ≡ true
  pub gives : m.state.sort_of c ≡ some (gives h lacked l)
  pub builds : (v : Valuation) → m.state.solves v → Builds h l (v x) (v y) (v c)
  pub counts : 0 < rank c
  pub first_falls : has_first h ≡ true → rank x < rank c
  pub second_falls : has_second h ≡ true → rank y < rank c

-- What a look can show of the code c: an open code, or a head.
pub data Looks (rank : ℕ → ℕ) (m : Meaning) (c : ℕ) : Type 0 where
  open_code : (d : ℕ) (k : Classes) → Stands m c d k → Looks rank m c
  built : (h : Head) (x y l : ℕ) → Shaped rank m c h x y l → Looks rank m c

-- The answer of look, of a known code; of an unknown one it is 21, found by the bottom system.
abbrev pub Looked : {F : Type 0} → (F → ℕ) → (F → ℕ) → (ℕ → ℕ) → Meaning → ℕ → Result View F → Type 0
Looked number layer rank m c (Ok (Open d k)) = Known m.state c × Stands m c d.0 k
Looked number layer rank m c (Ok (Built h x y l)) = Known m.state c × Shaped rank m c h x.0 y.0 l
Looked number layer rank m c (Err e) = (m.state.sort_of c ≡ none) × (number e ≡ 21) × (layer e ≡ 4)

-- The answer of tally: the calls that stand, the capacity and the number of open marks.
pub record Tallied (m : Meaning) (t : Tally) : Type 0 where
  pub calls : t.calls ≡ m.state.count
  pub capacity : t.capacity ≡ m.capacity
  pub marks : t.marks ≡ length m.marks
