use Rattle.std.proofs.Common.{◌≡◌, ◌≤◌, drop, Some, fold}
use Rattle.words.specs.Numbers.{step, capped, digits}
use Rattle.words.proofs.number.magnitude.Given as goal

-- what is left, read on from n, gives the value of the word
abbrev pub invariant-loop-b : goal.invariant-loop-b
invariant-loop-b l = (l.n ≤ 100000) × (capped (fold step (Some l.n) (drop l.b-index l.word)) ≡ capped (digits l.word))
