use Rattle.std.proofs.Common.{vec_items, sym}
use Rattle.model.proofs.Following.{build_answer, build_refused}
use Rattle.model.proofs.as_system.ModelSystem.build.Goals as goal

pub returns-then-apt : goal.returns-then-apt
returns-then-apt c =
    let s = c.args.self.now in
    let it = build_answer s.codes (vec_items s.saved) c.requires c.add.result c.add.new.self c.add.ensures.answer c.args.head c.args.first.0 c.args.second.0 c.args._label c.args._lacked
    (sym c.if-apt.ensures) c.add.ensures.codes in
    record { fine = it.1; answered = it }

pub returns-else-apt-clause-answered : goal.returns-else-apt-clause-answered
returns-else-apt-clause-answered c =
    let s = c.args.self.now in
    build_refused s.codes.limit s.codes.cells s.codes.binds (vec_items s.saved) c.requires c.args.head c.args.first.0 c.args.second.0 c.args._label c.args._lacked (sym c.if-apt.ensures)
