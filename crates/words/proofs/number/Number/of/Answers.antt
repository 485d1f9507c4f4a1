use Rattle.words.proofs.Rule.{writes}
use Rattle.words.proofs.number.Number.of.Goals as goal

pub returns-clause-rule : goal.returns-clause-rule
returns-clause-rule c = writes c.args.word.now c.numbered.result c.numbered.ensures
