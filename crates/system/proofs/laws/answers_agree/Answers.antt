use Rattle.system.proofs.Agreeing.{answers_agree}
use Rattle.system.proofs.laws.answers_agree.Goals as goal

pub returns : goal.returns
returns g c =
    answers_agree g.S.System.HEADS g.S.System.CLASSES g.T.System.HEADS g.T.System.CLASSES g.S.System.ok g.S.System.meaning g.S.System.asked
    g.T.System.ok g.T.System.meaning g.T.System.asked g.met.S.System.sound g.met.T.System.sound g.met.S.System.told g.met.T.System.told
