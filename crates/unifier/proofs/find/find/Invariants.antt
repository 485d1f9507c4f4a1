use Rattle.std.proofs.Common.{◌-◌, ◌<◌, length}
use Rattle.cells.specs.Cells.{Leads, rank_at}
use Rattle.unifier.proofs.find.find.Given as goal

abbrev pub invariant-loop-i : goal.invariant-loop-i
invariant-loop-i l = (l.i < length l.cells) × Leads l.cells l.c l.i

abbrev pub decreases-loop-i : goal.decreases-loop-i
decreases-loop-i l = length l.cells - rank_at l.cells l.i
