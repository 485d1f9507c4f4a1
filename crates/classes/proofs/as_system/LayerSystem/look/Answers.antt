use Rattle.std.proofs.Common.{reverse, vec_items}
use Rattle.system.specs.Faults.{layer_number, layer_layer}
use Rattle.classes.proofs.Viewing.{open_view, built_view}
use Rattle.classes.proofs.as_system.LayerSystem.look.Goals as goal

pub returns-in-Open : goal.returns-in-Open
returns-in-Open g c =
    let D = g.S.System in
    let s = c.args.self.now in
    open_view g.S.Fault.Refusal.number g.S.Fault.Refusal.layer (layer_number g.S.Fault.Refusal.number) (layer_layer g.S.Fault.Refusal.layer) (D.rank s.below) D.HEADS (D.meaning s.below) s.table (reverse (vec_items s.saved)) c.args.code.0 c.in_ok-built.built
    c.in-Open.open c.in-Open.field-1 c.set_of.result c.in-Open.is c.set_of.ensures c.in_ok-built.ensures

pub returns-in_default : goal.returns-in_default
returns-in_default g c =
    let D = g.S.System in
    let s = c.args.self.now in
    built_view g.S.Fault.Refusal.number g.S.Fault.Refusal.layer (layer_number g.S.Fault.Refusal.number) (layer_layer g.S.Fault.Refusal.layer) (D.rank s.below) D.HEADS (D.meaning s.below) s.table (reverse (vec_items s.saved)) c.args.code.0 c.in_ok-built.built c.in_default.not-Open c.in_ok-built.ensures
