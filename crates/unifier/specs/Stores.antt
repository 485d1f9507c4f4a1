-- What every call keeps of a store and of the pairs that wait.
use Rattle.std.specs.Prelude.{◌≡◌, ℕ, List, ◌++◌, vec_items}
use Rattle.stack.specs.declared.store.Stack.{Stack}
use Rattle.stack.specs.Stacks.{held, room}
use Rattle.cells.specs.declared.Pair.{Pair}
use Rattle.unifier.specs.declared.store.Store.{Store}
use Rattle.unifier.specs.declared.waiting.Waiting.{Waiting}
use Rattle.unifier.specs.Fine.{Fine}
use Rattle.unifier.specs.Trails.{Since}
use Rattle.unifier.specs.Turns.{Alike, Fieldly}

-- new cells, and writes that the trail undoes; the limit stays
pub record Later (s t : Store) : Type 0 where
  pub since : Since (vec_items s.cells) (vec_items s.trail) (vec_items t.cells) (vec_items t.trail)
  pub limit : t.limit ≡ s.limit

-- a stack over the slots that it was over
pub record Kept (s t : Stack (Pair ℕ)) : Type 0 where
  pub room : room t ≡ room s
  pub lender : t.slots.ghost_name ≡ s.slots.ghost_name

-- all pairs that wait, in the order of their turns
abbrev pub waits : Waiting → List (Pair ℕ)
waits w = held w.fields ++ held w.pending

pub record Lasts (v w : Waiting) : Type 0 where
  pub fields : Kept v.fields w.fields
  pub pending : Kept v.pending w.pending

-- what holds between turns: the cells are in order, each pair is of two known cells of one sort, and just fields wait with the fields
pub record Queued (s : Store) (w : Waiting) : Type 0 where
  pub fine : Fine (vec_items s.cells)
  pub alike : Alike (vec_items s.cells) (waits w)
  pub fields : Fieldly (vec_items s.cells) (held w.fields)
