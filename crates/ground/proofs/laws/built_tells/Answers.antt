use Rattle.std.proofs.Common.{refl}
use Rattle.ground.proofs.Told.{told_children, told_head, row_head, row_empty}
use Rattle.ground.proofs.laws.built_tells.Goals as goal

pub returns : goal.returns
returns c = record { children = told_children; head = told_head; rows = row_head; empty = row_empty; answer = refl }
