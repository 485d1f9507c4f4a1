use Rattle.std.proofs.Common.{◌+◌, ◌*◌, vec_items}
use Rattle.unifier.specs.Marks.{unseens}
use Rattle.unifier.proofs.seen.Seen.+below_visit.Given as goal

abbrev pub decreases-visit : goal.decreases-visit
decreases-visit l = 2 * unseens l.base (vec_items l.self.now.marks)

abbrev pub decreases-below : goal.decreases-below
decreases-below l = 2 * unseens l.base (vec_items l.self.now.marks) + 1
