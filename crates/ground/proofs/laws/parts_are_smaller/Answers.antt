use Rattle.std.proofs.Common.{refl}
use Rattle.ground.proofs.Smaller.{type_apart, field_apart, row_apart}
use Rattle.ground.proofs.laws.parts_are_smaller.Goals as goal

pub returns : goal.returns
returns c = record { types = type_apart; fields = field_apart; rows = row_apart; answer = refl }
