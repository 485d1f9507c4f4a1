use Rattle.std.proofs.Common.{codes, sym, ap, rules}
use Rattle.std.proofs.lemmas.Slice.Eq.{text_from_reads}
use Rattle.lines.specs.Lines.{head_of}
use Rattle.lines.proofs.parse.head_named.Goals as goal

pub returns-in-record : goal.returns-in-record
returns-in-record c = sym (ap head_of (text_from_reads c.args.word.now (codes "record") (search rules) (search rules)))

pub returns-in-absent : goal.returns-in-absent
returns-in-absent c = sym (ap head_of (text_from_reads c.args.word.now (codes "absent") (search rules) (search rules)))
