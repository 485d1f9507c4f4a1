use Rattle.std.proofs.Common.{◌≡◌, length, vec_items, refl, rules}
use Rattle.classes.proofs.Starting.{starts}
use Rattle.classes.proofs.layer.Layer.new.Goals as goal

pub returns : goal.returns
returns g c =
    let D = g.S.System in
    let s = c.args.below in
    let m = D.meaning s in
    let z : D.CLASSES ≡ 0 = search rules in
    let n : m.state.count ≡ 0 = search rules in
    let l : length m.marks ≡ 0 = search rules in
    let it = starts (D.ok s) D.CLASSES m c.new.result (vec_items c.in-Ok.saved) c.requires z l c.new.ensures (search rules) in
    ((z, n, l), refl, c.new.ensures, it.0, it.1)
