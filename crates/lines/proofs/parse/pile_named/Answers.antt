use Rattle.std.proofs.Common.{codes, sym, ap, rules}
use Rattle.std.proofs.lemmas.Slice.Eq.{text_from_reads}
use Rattle.lines.specs.Lines.{pile_of}
use Rattle.lines.proofs.parse.pile_named.Goals as goal

pub returns-in-classrows : goal.returns-in-classrows
returns-in-classrows c = sym (ap pile_of (text_from_reads c.args.word.now (codes "classrows") (search rules) (search rules)))

pub returns-in-classtrees : goal.returns-in-classtrees
returns-in-classtrees c = sym (ap pile_of (text_from_reads c.args.word.now (codes "classtrees") (search rules) (search rules)))
