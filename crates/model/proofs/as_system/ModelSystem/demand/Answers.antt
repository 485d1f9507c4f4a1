use Rattle.std.proofs.Common.{vec_items, inl, inr, arith, rules}
use Rattle.model.proofs.Following.{demand_refused, demand_none}
use Rattle.model.proofs.as_system.ModelSystem.demand.Goals.{then-class-gt3-via-then-class-gt3, then-class-gt3-via-else-class-gt3+then-not-knows}
use Rattle.model.proofs.as_system.ModelSystem.demand.Goals as goal

pub returns-then-class-gt3-clause-answered : goal.returns-then-class-gt3-clause-answered
returns-then-class-gt3-clause-answered c =
    let s = c.args.self.now in
    demand_refused s.codes.limit s.codes.cells s.codes.binds (vec_items s.saved) c.requires c.args.class c.args.code.0
    (elim c.then-class-gt3.branch [ then-class-gt3-via-then-class-gt3 w ↦ inl (omega (arith, w.if-class-gt3.true)) | then-class-gt3-via-else-class-gt3+then-not-knows w ↦ inr (search rules) ])

pub returns-clause-answered : goal.returns-clause-answered
returns-clause-answered c =
    let s = c.args.self.now in
    demand_none s.codes.limit s.codes.cells s.codes.binds (vec_items s.saved) c.requires c.args.class c.args.code.0 (search rules) (search rules)
