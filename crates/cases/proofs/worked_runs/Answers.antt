use Rattle.std.proofs.Common.{◌≡◌, ℕ, arith}
use Rattle.system.specs.Replies.{kind_of}
use Rattle.cases.proofs.Runs.{worked}
use Rattle.cases.proofs.worked_runs.Goals as goal

four : (n : ℕ) → n ≡ 4 → n ≡ 0 → ⊥
four n e h = omega arith

pub returns : goal.returns
returns g c e =
    let D = g.S.System in
    let L = g.met.S.System in
    worked (kind_of D.HEADS D.CLASSES) D.meaning D.asked D.rank D.ok L.told L.fine L.sound L.looked (four D.CLASSES e)
