use Rattle.std.proofs.Common.{vec_items, rules}
use Rattle.values.specs.Writers.{writing}
use Rattle.values.proofs.Naming.{named_next}
use Rattle.values.proofs.speller.Speller.note.Goals as goal

pub returns : goal.returns
returns c = named_next (writing c.args.self.now) c.args.unsolved c.count_of-number.result (vec_items c.push.new.self) (search rules) (search rules) (search rules)
