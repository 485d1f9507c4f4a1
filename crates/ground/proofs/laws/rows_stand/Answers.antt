use Rattle.std.proofs.Common.{refl}
use Rattle.ground.proofs.Rows.{at_put, at_other, at_end, row_ext}
use Rattle.ground.proofs.laws.rows_stand.Goals as goal

pub returns : goal.returns
returns c = record { here = at_put; elsewhere = at_other; empty = at_end; equal = row_ext; answer = refl }
