use Rattle.lines.proofs.Cutting.{ended_is}
use Rattle.lines.proofs.word.Words.at_end.Goals as goal

pub returns : goal.returns
returns c = ended_is c.args.self.now.rest c.is_none.result c.is_none.ensures
