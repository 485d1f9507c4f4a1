use Rattle.std.proofs.Common.{vec_items, arith}
use Rattle.model.proofs.Following.{mark_opened}
use Rattle.model.proofs.as_system.ModelSystem.mark.Goals as goal

pub returns-clause-answered : goal.returns-clause-answered
returns-clause-answered c =
    let s = c.args.self.now in
    mark_opened s.codes (vec_items s.saved) c.requires _ c.size.result c.open.result (vec_items c.open.new.saved) (omega (arith, s.saved_room)) c.open.ensures.opened c.size.ensures
