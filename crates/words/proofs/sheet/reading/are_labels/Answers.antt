use Rattle.std.proofs.Common.{◌≡◌, ◌-◌, is_none, ◌∙◌, arith, rules}
use Rattle.words.proofs.Labels.{none_left}
use Rattle.words.proofs.sheet.reading.are_labels.Goals as goal

pub returns : goal.returns
returns c =
    let none : c.is_none.result ≡ is_none c.loop.rest = search rules in
    none ∙ none_left (24 - c.loop.counter) c.loop.rest (omega arith) ∙ c.loop.invariant
