use Rattle.std.proofs.Common.{◌≡◌, ℕ, sym, arith}
use Rattle.script.proofs.Binders.{packs}
use Rattle.script.proofs.due.read_binder.Goals as goal

pub unreachable-requires : goal.unreachable-requires
unreachable-requires c =
    let n = packs c.word_of-word.result.now (sym c.if-not-is_name.ensures) in
    let e = c.in-None.ensures in
    let z : ◌≡◌ {A = ℕ} 0 1 = cc (n, e) in
    omega (arith, z)
