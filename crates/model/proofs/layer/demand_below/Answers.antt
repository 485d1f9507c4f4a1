use Rattle.std.proofs.Common.{refl}
use Rattle.system.proofs.Same.{same_same}
use Rattle.model.specs.Models.{means}
use Rattle.model.proofs.layer.demand_below.Goals as goal

pub returns-then-class-gt3 : goal.returns-then-class-gt3
returns-then-class-gt3 c = (c.if-class-gt3.true, refl, same_same (means c.args.model.now))
