-- What the layer's inner calls on the system below come to.
use Rattle.std.specs.Prelude.{◌≡◌, ℕ, true, false, List, [], Ok, Err, Result}
use Rattle.std.proofs.Math.Option.{some}
use Rattle.ground.specs.declared.sort.Sort.TheVariants.{«Type» as OfType}
use Rattle.system.specs.Meaning.{Meaning}
use Rattle.system.specs.Requests.{equate, demand, fault, fits}
use Rattle.system.specs.Follows.{Kept, Follows}
use Rattle.system.specs.Replies.{kind_of}
use Rattle.classes.specs.declared.entry.Entry.{Entry}
use Rattle.system.specs.declared.layer_fault.LayerFault.{LayerFault}
use Rattle.system.specs.declared.layer_fault.LayerFault.TheVariants.{Below, Own}
use Rattle.classes.specs.Following.{Followed}

-- An equate below, from the meaning m to n, and the entries followed again: the table that they make, what is refused below, or one of their classes.
abbrev pub Tried : {F : Type 0} → (F → ℕ) → (F → ℕ) → ℕ → Meaning → ℕ → ℕ → List Entry → Result (List Entry) (LayerFault F) → Meaning → Type 0
Tried number layer h m a b es (Ok t) n = (fits (kind_of h 0) m (equate a b) ≡ true) × Kept m (λ v. v a ≡ v b) n × Followed n es [] (Ok t)
Tried number layer h m a b es (Err (Below e)) n = Follows (kind_of h 0) m (equate a b) (fault (number e) (layer e)) n
Tried number layer h m a b es (Err (Own f)) n = (fits (kind_of h 0) m (equate a b) ≡ true) × Kept m (λ v. v a ≡ v b) n × Followed n es [] (Err f)

-- Whether a known code is a type: refused with the lower system's 21 where it is not.
abbrev pub Typed : {F : Type 0} → (F → ℕ) → (F → ℕ) → Meaning → ℕ → ℕ → Result (Unit {0}) F → Type 0
Typed number layer m k c (Ok u) = m.state.sort_of c ≡ some OfType
Typed number layer m k c (Err e) = (fits (kind_of 0 0) m (demand k c) ≡ false) × (number e ≡ 21) × (layer e ≡ 4)
