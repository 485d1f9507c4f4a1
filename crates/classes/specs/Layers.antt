-- A layer: what it is built with, what it means, and what holds between its calls.
use Rattle.std.specs.Prelude.{◌≡◌, ℕ, [], reverse, length, Ok, Err, vec_items, Result}
use Rattle.system.specs.Meaning.{Meaning, New}
use Rattle.system.specs.Faults.{class_number}
use Rattle.system.specs.Requests.{Request, Reply}
use Rattle.system.specs.Follows.{Follows}
use Rattle.system.specs.Replies.{kind_of}
use Rattle.classes.specs.Told.{Told}
use Rattle.ground.specs.declared.refusal.Refusal.{Ghosts as Numbers}
use Rattle.system.specs.declared.system.System.{Ghosts}
use Rattle.classes.specs.declared.layer.Layer.{Layer}
use Rattle.classes.specs.declared.unbuilt.Unbuilt.{Unbuilt}
use Rattle.classes.specs.declared.unbuilt.Want.{Want}
use Rattle.classes.specs.declared.unbuilt.Want.TheVariants.{NewSystem, Memory}
use Rattle.classes.specs.Layered.{layered, Standing}

-- What a layer means, by what the system below means.
abbrev pub means : {S F M : Type 0} {D : Ghosts S F M} {N : Numbers F} → (S → Meaning) → Layer S F M D N → Meaning
means meaning l = layered (meaning l.below) l.table (reverse (vec_items l.saved))

-- What holds of it between calls.
abbrev pub sure : {S F M : Type 0} {D : Ghosts S F M} {N : Numbers F} → (S → Type 0) → ℕ → (S → Meaning) → Layer S F M D N → Type 0
sure ok classes meaning l = Standing (ok l.below) classes (meaning l.below) l.table (reverse (vec_items l.saved))

-- What holds where the layer l answered a request so, and became k: the answer keeps to the meaning, the layer stands, and tells of its own refusals.
abbrev pub Answered : {S F M : Type 0} {D : Ghosts S F M} {N : Numbers F} → (S → Type 0) → ℕ → ℕ → (S → Meaning) → Layer S F M D N → Request → Reply → Layer S F M D N → Type 0
Answered ok heads classes meaning l q r k = Follows (kind_of heads 4) (means meaning l) q r (means meaning k) × sure ok classes meaning k × Told meaning heads l.below l.table q r k.below k.table

-- The system has no classes and is new, by its tally.
abbrev pub Unused : ℕ → Meaning → Type 0
Unused classes m = (classes ≡ 0) × (m.state.count ≡ 0) × (length m.marks ≡ 0)

-- What was wanting.
abbrev pub Wanting : ℕ → Meaning → Want → Type 0
Wanting classes m (NewSystem f) = (Unused classes m → ⊥) × (class_number f ≡ 21)
Wanting classes m Memory = Unused classes m

-- A layer is built over such a system, without entries, and is new where the system is; over any other it is refused with 21, and the system comes back.
abbrev pub Built : {S F M : Type 0} {D : Ghosts S F M} {N : Numbers F} → (S → Type 0) → ℕ → (S → Meaning) → S → Result (Layer S F M D N) (Unbuilt S) → Type 0
Built ok classes meaning s (Ok l) =
    Unused classes (meaning s) × (l.below ≡ s) × (l.table ≡ []) × sure ok classes meaning l × ((C : ℕ) → New C (meaning s) → New C (means meaning l))
Built ok classes meaning s (Err e) = (e.below ≡ s) × Wanting classes (meaning s) e.want
