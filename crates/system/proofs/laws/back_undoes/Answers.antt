use Rattle.system.specs.Replies.{kind_of}
use Rattle.system.proofs.Undoing.{back_undoes}
use Rattle.system.proofs.laws.back_undoes.Goals as goal

pub returns : goal.returns
returns g c = back_undoes (kind_of g.S.System.HEADS g.S.System.CLASSES) g.S.System.meaning g.S.System.asked g.met.S.System.told
