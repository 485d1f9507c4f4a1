use Rattle.std.proofs.Common.{vec_items, sym, ap, rules}
use Rattle.system.specs.Requests.{fresh, build}
use Rattle.calls.specs.Asks.{request}
use Rattle.calls.proofs.Telling.{told_made, told_unnoted, build_request}
use Rattle.calls.proofs.answer.perform.Goals as goal

pub returns-in_ok-add-in-Fresh-clause-told : goal.returns-in_ok-add-in-Fresh-clause-told
returns-in_ok-add-in-Fresh-clause-told g c =
    let ms = vec_items c.args.book.now.made in
    told_made g.S.System.asked c.args.system.now c.fresh.new.self ms (vec_items c.add.new.self.made) c.args.ask
    (fresh c.in-Fresh.sort) c.into.result c.in_ok-code-in-Fresh.code c.add.result c.in_ok-add-in-Fresh.field-0
    (sym (ap (request ms) c.in-Fresh.is)) (search rules) (search rules) c.add.ensures (search rules)

pub returns-in_err-add-in-Fresh-clause-told : goal.returns-in_err-add-in-Fresh-clause-told
returns-in_err-add-in-Fresh-clause-told g c =
    let ms = vec_items c.args.book.now.made in
    told_unnoted g.S.System.asked g.S.Fault.Refusal.number g.S.Fault.Refusal.layer c.args.system.now c.fresh.new.self ms (vec_items c.add.new.self.made) c.args.ask
    (fresh c.in-Fresh.sort) c.in_ok-code-in-Fresh.code c.from_residual-in_err-add-in-Fresh.result
    (sym (ap (request ms) c.in-Fresh.is)) (search rules) (search rules)

pub returns-in_ok-add-in-Build-clause-told : goal.returns-in_ok-add-in-Build-clause-told
returns-in_ok-add-in-Build-clause-told g c =
    let ms = vec_items c.args.book.now.made in
    let b = c.in-Build in
    told_made g.S.System.asked c.args.system.now c.build.new.self ms (vec_items c.add-in-Build.new.self.made) c.args.ask
    (build b.head c.child.result.0 c.child-in-Build.result.0 b.label b.lacked) c.into-in-Build.result c.in_ok-code-in-Build.code c.add-in-Build.result c.in_ok-add-in-Build.field-0
    (build_request ms c.args.ask b.head b.first b.second b.label b.lacked c.child.result c.child-in-Build.result b.is c.child.ensures c.child-in-Build.ensures)
    (search rules) (search rules) c.add-in-Build.ensures (search rules)

pub returns-in_err-add-in-Build-clause-told : goal.returns-in_err-add-in-Build-clause-told
returns-in_err-add-in-Build-clause-told g c =
    let ms = vec_items c.args.book.now.made in
    let b = c.in-Build in
    told_unnoted g.S.System.asked g.S.Fault.Refusal.number g.S.Fault.Refusal.layer c.args.system.now c.build.new.self ms (vec_items c.add-in-Build.new.self.made) c.args.ask
    (build b.head c.child.result.0 c.child-in-Build.result.0 b.label b.lacked) c.in_ok-code-in-Build.code c.from_residual-in_err-add-in-Build.result
    (build_request ms c.args.ask b.head b.first b.second b.label b.lacked c.child.result c.child-in-Build.result b.is c.child.ensures c.child-in-Build.ensures)
    (search rules) (search rules)
