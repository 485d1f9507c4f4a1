use Rattle.std.proofs.Common.{◌+◌, vec_items}
use Rattle.unifier.specs.Marks.{Went}
use Rattle.unifier.specs.Swept.{AllDone, NewDone}
use Rattle.unifier.proofs.seen.Seen.acyclic.Given as goal

abbrev pub invariant-loop-e : goal.invariant-loop-e
invariant-loop-e l =
    Went l.cells l.base (vec_items l.initial.self.marks) l.initial.self.clock (vec_items l.self.marks) l.self.clock
    × AllDone l.base (vec_items l.self.marks) l.trail l.from (l.from + l.e-index)

abbrev pub invariant-loop-c : goal.invariant-loop-c
invariant-loop-c l =
    Went l.cells l.base (vec_items l.initial.self.marks) l.initial.self.clock (vec_items l.self.marks) l.self.clock × NewDone l.base (vec_items l.self.marks) l.first l.c
