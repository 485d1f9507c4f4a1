use Rattle.std.proofs.Common.{◌+◌, ◌*◌}
use Rattle.model.proofs.codes.Codes.+children_unify.Given as goal

abbrev pub decreases-unify : goal.decreases-unify
decreases-unify l = 2 * l.fuel

abbrev pub decreases-children : goal.decreases-children
decreases-children l = 2 * l.fuel + 1
