use Rattle.std.proofs.Common.{◌≡◌, codes, arith, rules}
use Rattle.std.proofs.lemmas.Slice.Eq.{text_from_reads}
use Rattle.words.proofs.keyword.Keyword.of.Goals as goal

pub returns-in-call : goal.returns-in-call
returns-in-call c =
    let is : c.args.word.now ≡ codes "call" = text_from_reads c.args.word.now (codes "call") (omega arith) (search rules) in
    rw is

pub returns-in-record : goal.returns-in-record
returns-in-record c =
    let is : c.args.word.now ≡ codes "record" = text_from_reads c.args.word.now (codes "record") (omega arith) (search rules) in
    rw is

pub returns-in-with : goal.returns-in-with
returns-in-with c =
    let is : c.args.word.now ≡ codes "with" = text_from_reads c.args.word.now (codes "with") (omega arith) (search rules) in
    rw is

pub returns-in-drop : goal.returns-in-drop
returns-in-drop c =
    let is : c.args.word.now ≡ codes "drop" = text_from_reads c.args.word.now (codes "drop") (omega arith) (search rules) in
    rw is
