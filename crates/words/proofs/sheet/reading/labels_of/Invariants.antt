use Rattle.std.proofs.Common.{◌≡◌, ◌-◌, ◌≤◌, true, ◌++◌, length, vec_items, vec_len, vec_capacity}
use Rattle.ground.specs.Names.{texts}
use Rattle.words.specs.Sheets.{words_behind, labels_of, good_up_to}
use Rattle.words.proofs.sheet.reading.labels_of.Given as goal

-- the labels so far and what is left are the labels of the text, and there is room for what is left
abbrev pub invariant-loop-rest : goal.invariant-loop-rest
invariant-loop-rest l = record {
  few : vec_len l.labels ≤ 24;
  room : 24 ≤ vec_capacity l.labels;
  good : good_up_to (24 - vec_len l.labels) (words_behind l.rest) ≡ true;
  all : texts (vec_items l.labels) ++ words_behind l.rest ≡ labels_of l.text;
}

abbrev pub decreases-loop-rest : goal.decreases-loop-rest
decreases-loop-rest l = length (words_behind l.rest)
