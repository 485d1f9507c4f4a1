use Rattle.std.proofs.Common.{◌≡◌, ◌-◌}
use Rattle.words.specs.Sheets.{spaced, words_behind, good_up_to}
use Rattle.words.proofs.sheet.reading.are_labels.Given as goal

-- what is left decides, with less room
abbrev pub invariant-loop : goal.invariant-loop
invariant-loop l = good_up_to (24 - l.counter) (words_behind l.rest) ≡ good_up_to 24 (spaced l.text)
