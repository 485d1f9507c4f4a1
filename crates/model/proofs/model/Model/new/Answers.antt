use Rattle.std.proofs.Common.{vec_items, rules}
use Rattle.model.proofs.Following.{built_new}
use Rattle.model.proofs.model.Model.new.Goals as goal

pub returns : goal.returns
returns c = built_new c.args.capacity c.in_ok-codes.codes (vec_items c.in_ok-saved.saved) (search rules) (search rules) c.in_ok-codes.ensures (search rules)
