use Rattle.std.proofs.Common.{refl}
use Rattle.ground.proofs.Members.{compatible_members}
use Rattle.ground.proofs.Another.{another_type}
use Rattle.ground.proofs.laws.members_stand.Goals as goal

pub returns : goal.returns
returns c = record { members = compatible_members; another = another_type; answer = refl }
