use Rattle.system.specs.Replies.{kind_of}
use Rattle.engine.proofs.FineStates.{stands}
use Rattle.engine.proofs.typing_stands.Goals as goal

pub returns : goal.returns
returns g c =
    let D = g.S.System in
    let L = g.met.S.System in
    stands (kind_of D.HEADS D.CLASSES) D.meaning D.asked D.rank D.ok L.told L.fine L.sound L.looked L.shallow
