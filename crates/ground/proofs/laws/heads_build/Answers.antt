use Rattle.std.proofs.Common.{refl}
use Rattle.ground.proofs.Without.{without_one}
use Rattle.ground.proofs.Sorted.{builds_once, asks_sorts}
use Rattle.ground.proofs.Built.{others_ignored}
use Rattle.ground.proofs.Reached.{reached}
use Rattle.ground.proofs.laws.heads_build.Goals as goal

pub returns : goal.returns
returns c = record { once = builds_once; sorts = asks_sorts; others = others_ignored; without = without_one; all = reached; answer = refl }
