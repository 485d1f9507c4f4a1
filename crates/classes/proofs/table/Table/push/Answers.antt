use Rattle.std.proofs.Common.{rules}
use Rattle.classes.proofs.Tabling.{spare_more}
use Rattle.classes.proofs.table.Table.push.Goals as goal

pub invariant_of-self : goal.invariant_of-self
invariant_of-self c = spare_more c.self.inside.count c.self.inside.entries c.args.entry (search rules) c.self.invariant
