use Rattle.std.proofs.Common.{◌++◌, length, Err, vec_len, sym, ap, ◌∙◌, rules}
use Rattle.script.specs.Nodes.{nodes}
use Rattle.script.specs.Settings.{setting_of}
use Rattle.script.specs.Tokens.{tokens, rest, token_of}
use Rattle.script.specs.Reads.{finished}
use Rattle.script.proofs.Bytes.{of_good, whole_fault, whole_form, behind_form, from_start}
use Rattle.script.proofs.reader.Reader.read_script.Goals as goal

pub returns-in_err-at : goal.returns-in_err-at
returns-in_err-at c =
    let S = setting_of c.args.source.now in
    let t = c.args.source.now.text.now in
    let zero = c.args.self.now.nodes.ok.0 ∙ ap length c.requires in
    let r = from_start S (length t) (tokens t) c.new-scope.result.items (vec_len c.args.self.now.nodes) c.new-scope.ensures zero ∙ c.in_err-at.ensures.answer in
    let e = of_good S t c.if-source-gt-MOST_BYTES.false (sym c.in_default.ensures) ∙ whole_fault S t c.in_err-at.field-0.0 r in
    search (rules, e)

pub returns-in-End : goal.returns-in-End
returns-in-End c =
    let S = setting_of c.args.source.now in
    let t = c.args.source.now.text.now in
    let zero = c.args.self.now.nodes.ok.0 ∙ ap length c.requires in
    let f = c.in_ok-at.ensures.answer in
    let r = from_start S (length t) (tokens t) c.new-scope.result.items (vec_len c.args.self.now.nodes) c.new-scope.ensures zero ∙ f.1 in
    let end = sym c.token_at-token.ensures.token ∙ ap (token_of t) c.in-End.is in (
      f.0,
      of_good S t c.if-source-gt-MOST_BYTES.false (sym c.in_default.ensures) ∙ whole_form S t f.0 (rest t c.in_ok-at.at) r ∙ ap (finished S (length t) f.0) end,
      f.2 ∙ ap (λ xs. xs ++ nodes f.0) c.requires,
    )

pub returns-in_default-token : goal.returns-in_default-token
returns-in_default-token c =
    let S = setting_of c.args.source.now in
    let t = c.args.source.now.text.now in
    let zero = c.args.self.now.nodes.ok.0 ∙ ap length c.requires in
    let f = c.in_ok-at.ensures.answer in
    let r = from_start S (length t) (tokens t) c.new-scope.result.items (vec_len c.args.self.now.nodes) c.new-scope.ensures zero ∙ f.1 in
    of_good S t c.if-source-gt-MOST_BYTES.false (sym c.in_default.ensures)
    ∙ whole_form S t f.0 (rest t c.in_ok-at.at) r
    ∙ ap (finished S (length t) f.0) (sym c.token_at-token.ensures.token)
    ∙ behind_form S (length t) t f.0 c.token_at-token.result.0 c.in_default-token.not-End
    ∙ ap Err (sym c.wrong_token.ensures)
