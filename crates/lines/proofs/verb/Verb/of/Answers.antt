use Rattle.std.proofs.Common.{codes, sym, ap, rules}
use Rattle.std.proofs.lemmas.Slice.Eq.{text_from_reads}
use Rattle.lines.specs.Lines.{verb_of}
use Rattle.lines.proofs.verb.Verb.of.Goals as goal

pub returns-in-equate : goal.returns-in-equate
returns-in-equate c = sym (ap verb_of (text_from_reads c.args.word.now (codes "equate") (search rules) (search rules)))

pub returns-in-demand : goal.returns-in-demand
returns-in-demand c = sym (ap verb_of (text_from_reads c.args.word.now (codes "demand") (search rules) (search rules)))
