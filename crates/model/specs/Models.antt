-- A model as a system: what it means, what holds between its calls, and what it is built with.
use Rattle.std.specs.Prelude.{ℕ, ◌+◌, ◌<◌, ◌≤◌, Bool, true, cond, ◌&&◌, ◌⊎◌, Ok, Err, vec_items, Result, nat_lt}
use Rattle.ground.specs.Heads.{has_first, has_second}
use Rattle.ground.specs.declared.head.Head.{Head}
use Rattle.system.specs.Meaning.{Kind, Meaning, New}
use Rattle.system.specs.Requests.{Request, Reply, head_number}
use Rattle.system.specs.Follows.{Follows}
use Rattle.system.specs.Replies.{kind_of}
use Rattle.system.specs.declared.fault.NewFault.{NewFault}
use Rattle.system.specs.declared.fault.NewFault.TheVariants.{Capacity, Memory}
use Rattle.model.specs.declared.model.Model.{Model}
use Rattle.model.specs.Cells.{view}
use Rattle.model.specs.Means.{meaning_of, Good, height}

-- Five heads and no class.
abbrev pub kind : Kind
kind = kind_of 5 0

-- What a model means.
abbrev pub means : Model → Meaning
means s = meaning_of s.codes.limit s.codes.cells s.codes.binds (vec_items s.saved)

-- What holds of it between calls.
abbrev pub sure : Model → Type 0
sure s = Good s.codes.limit s.codes.cells s.codes.binds (vec_items s.saved)

-- What it answered, and the state that this led to.
abbrev pub asks : Model → Request → Reply → Model → Type 0
asks s q r t = Follows kind (means s) q r (means t) × sure t

-- How many heads and links can follow one another from a code.
abbrev pub ranks : Model → ℕ → ℕ
ranks s c = height (view s.codes.cells s.codes.binds) (s.codes.limit + 1) c

-- A head of the first five over codes below n.
abbrev pub apt : ℕ → Head → ℕ → ℕ → Bool
apt n h x y = nat_lt (head_number h) 5 && cond (has_first h) (nat_lt x n) true && cond (has_second h) (nat_lt y n) true

-- A model of this capacity is built new; it is refused when the capacity is outside 16 to 4,096, and only then, but for want of memory.
abbrev pub Built : ℕ → Result Model NewFault → Type 0
Built z (Ok s) = (16 ≤ z) × (z ≤ 4096) × sure s × New z (means s)
Built z (Err Capacity) = (z < 16) ⊎ (4096 < z)
Built z (Err Memory) = (16 ≤ z) × (z ≤ 4096)
