use Rattle.std.proofs.Common.{◌≡◌, length, ap, arith, rules}
use Rattle.words.specs.Sheets.{words_behind}
use Rattle.lines.specs.Words.{left, others}
use Rattle.lines.proofs.Cutting.{word_taken}
use Rattle.lines.proofs.Yielding.{fewer}
use Rattle.lines.proofs.word.WordsIterator.next.Goals as goal

pub returns : goal.returns
returns c =
    let w = c.split_word.result.0.now in
    let it = word_taken c.in_ok-text.text.now w (words_behind c.split_word.result.1) (left c.args.self.now) c.split_word.ensures (ap words_behind c.in_ok-text.was) in
    let lt = fewer w (left c.args.self.now) it.0 in
    let kept = ap length it.1 in
    record { steps = (it.0, search (rules, it.1)); goes = record { on = λ f. (tt, tt, search (rules, arith, lt, kept)); keeps = tt; rests = λ f. tt } }
