-- A word is told as the number that the rule writes.
use Rattle.std.proofs.Common.{◌≡◌, ℕ, List, Some, None, Option, sym, arith}
use Rattle.words.specs.Numbers.{Told, number_of, Writes}
use Rattle.words.proofs.Written.{numbers_are_written}

not_none : (o : Option Told) (v : Told) → None ≡ o → o ≡ Some v → ⊥
not_none o v e h =
    let z : ◌≡◌ {A = ℕ} 0 1 = cc (e, h) in
    omega (arith, z)

same : (o : Option Told) (u v : Told) → Some v ≡ o → o ≡ Some u → u ≡ v
same o u v e h = cc (e, h)

pub writes : (w : List ℕ) (o : Option Told) → o ≡ number_of w → Writes w o
writes w None e = λ v h. not_none (number_of w) v e ((numbers_are_written w v).1 h)
writes w (Some v) e = ((numbers_are_written w v).0 (sym e), λ u h. same (number_of w) u v e ((numbers_are_written w u).1 h))
