use Rattle.std.proofs.Common.{vec_items, inl, inr, rules}
use Rattle.model.proofs.Following.{equate_refused}
use Rattle.model.proofs.as_system.ModelSystem.equate.Goals.{else-knows-via-then-knows+else-knows-2, else-knows-via-else-knows}
use Rattle.model.proofs.as_system.ModelSystem.equate.Goals as goal

pub returns-else-knows-clause-answered : goal.returns-else-knows-clause-answered
returns-else-knows-clause-answered c =
    let s = c.args.self.now in
    equate_refused s.codes.limit s.codes.cells s.codes.binds (vec_items s.saved) c.requires c.args.a.0 c.args.b.0
    (elim c.else-knows.branch [ else-knows-via-then-knows+else-knows-2 w ↦ inr (search rules) | else-knows-via-else-knows w ↦ inl (search rules) ])
