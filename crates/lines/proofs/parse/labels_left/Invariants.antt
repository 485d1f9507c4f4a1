use Rattle.std.proofs.Common.{◌≡◌}
use Rattle.lines.specs.Words.{left}
use Rattle.lines.specs.Lines.{labels_from}
use Rattle.lines.proofs.parse.labels_left.Given as goal

-- the labels so far and those that are left are those of the line
abbrev pub invariant-loop-word : goal.invariant-loop-word
invariant-loop-word l = labels_from l.set (left l.word-iterator) ≡ labels_from 0 (left l.fn.words)
