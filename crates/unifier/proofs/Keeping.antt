-- What every call keeps, from call to call.
use Rattle.std.proofs.Common.{ℕ, vec_items, refl, ◌∙◌}
use Rattle.stack.specs.declared.store.Stack.{Stack}
use Rattle.cells.specs.declared.Pair.{Pair}
use Rattle.unifier.specs.declared.store.Store.{Store}
use Rattle.unifier.specs.declared.waiting.Waiting.{Waiting}
use Rattle.unifier.specs.Stores.{Later, Kept, Lasts}
use Rattle.unifier.proofs.Trailing.{since_none, since_more}

pub later_none : (s : Store) → Later s s
later_none s = record { since = since_none (vec_items s.cells) (vec_items s.trail); limit = refl }

pub later_more : (s t u : Store) → Later s t → Later t u → Later s u
later_more s t u a b = record {
  since = since_more (vec_items s.cells) (vec_items t.cells) (vec_items u.cells) (vec_items s.trail) (vec_items t.trail) (vec_items u.trail) a.since b.since;
  limit = b.limit ∙ a.limit;
}

pub kept_none : (s : Stack (Pair ℕ)) → Kept s s
kept_none s = record { room = refl; lender = refl }

pub kept_more : (s t u : Stack (Pair ℕ)) → Kept s t → Kept t u → Kept s u
kept_more s t u a b = record { room = b.room ∙ a.room; lender = b.lender ∙ a.lender }

pub lasts_none : (w : Waiting) → Lasts w w
lasts_none w = record { fields = kept_none w.fields; pending = kept_none w.pending }

pub lasts_more : (v w x : Waiting) → Lasts v w → Lasts w x → Lasts v x
lasts_more v w x a b = record { fields = kept_more v.fields w.fields x.fields a.fields b.fields; pending = kept_more v.pending w.pending x.pending a.pending b.pending }
