use Rattle.std.proofs.Common.{◌≡◌, ◌≤◌, drop}
use Rattle.script.specs.Nesting.{nesting_of}
use Rattle.script.proofs.nesting.nesting.Given as goal

abbrev pub invariant-loop-b : goal.invariant-loop-b
invariant-loop-b l = (l.count ≤ l.b-index) × (nesting_of l.count l.most (drop l.b-index l.text) ≡ nesting_of 0 0 l.text)
