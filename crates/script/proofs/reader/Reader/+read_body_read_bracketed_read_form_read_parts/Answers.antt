use Rattle.std.proofs.Common.{◌+◌, ◌-◌, [], ◌∷◌, ◌++◌, length, take, drop, Ok, vec_items, vec_len, sym, refl, ap, ◌∙◌, subst, arith, rules}
use Rattle.ground.specs.Names.{text, pack}
use Rattle.script.specs.Tokens.{token_of, rest, behind, bytes_at}
use Rattle.script.specs.Reads.{then, reads, parts_at, bracketed}
use Rattle.script.specs.Settings.{setting_of}
use Rattle.script.specs.Scopes.{over, in_scope}
use Rattle.script.specs.Came.{CameForm, CameParts}
use Rattle.script.specs.declared.part.Part.TheVariants.{Binder}
use Rattle.script.specs.Faults.{span}
use Rattle.script.specs.Nodes.{node, all_nodes}
use Rattle.script.specs.Items.{item_of}
use Rattle.script.specs.Parts.{parts_of, made}
use Rattle.script.proofs.Naming.{bound_more}
use Rattle.script.proofs.Filling.{all_forms, filled, nodes_filled}
use Rattle.script.proofs.OneForm.{at_open, at_word, parted, none_due, sub_due, body_due, counted, at_word_full}
use Rattle.script.proofs.reader.Reader.+read_body_read_bracketed_read_form_read_parts.Goals as goal

pub read_form-returns-in_err-item-in-Word-clause-answer : goal.read_form-returns-in_err-item-in-Word-clause-answer
read_form-returns-in_err-item-in-Word-clause-answer t c =
    let src = c.args.source.now in
    let e = ap (token_of src.text.now) (sym c.in-Word.is) ∙ c.token_at-token.ensures.token in
    let h = at_word (setting_of src) (length src.text.now) c.args.depth (in_scope c.args.scope.now.items src) (vec_len c.args.self.now.nodes) (rest src.text.now c.args.at) c.in-Word.place (bytes_at src.text.now c.in-Word.place) e (search rules) in
    let k = h ∙ ap (λ o. then o (λ f. Ok (f, behind (rest src.text.now c.args.at)))) c.in_err-item-in-Word.ensures in
    search (rules, k)

pub read_form-returns-else-len-ge-MOST_FORMS-clause-answer : goal.read_form-returns-else-len-ge-MOST_FORMS-clause-answer
read_form-returns-else-len-ge-MOST_FORMS-clause-answer t c =
    let src = c.args.source.now in
    let S = setting_of src in
    let stop = length src.text.now in
    let d = c.args.depth - 1 in
    let ns = in_scope c.args.scope.now.items src in
    let n = vec_len c.args.self.now.nodes in
    let e = ap (token_of src.text.now) (sym c.in-Open.is) ∙ c.token_at-token.ensures.token in
    let h = at_open S stop c.args.depth ns n (rest src.text.now c.args.at) c.in-Open.i c.if-depth-eq0.false e (search rules) in
    let k = h ∙ ap (bracketed S stop (reads S stop d) d ns n c.in-Open.i) (sym c.token_at-token.ensures.rest) in
    subst (CameForm src.text.now (vec_items c.args.self.now.nodes) (vec_items c.read_bracketed.new.self.nodes) c.read_bracketed.result) (sym k) c.read_bracketed.ensures.answer

pub read_form-returns-in_ok-item-in-Word-clause-answer : goal.read_form-returns-in_ok-item-in-Word-clause-answer
read_form-returns-in_ok-item-in-Word-clause-answer t c =
    let src = c.args.source.now in
    let ts = rest src.text.now c.args.at in
    let e = ap (token_of src.text.now) (sym c.in-Word.is) ∙ c.token_at-token.ensures.token in
    let h = at_word (setting_of src) (length src.text.now) c.args.depth (in_scope c.args.scope.now.items src) (vec_len c.args.self.now.nodes) ts c.in-Word.place (bytes_at src.text.now c.in-Word.place) e (search rules) in
    let leaf = c.in_ok-item-in-Word.ensures in (
      leaf.0,
      h ∙ ap (λ o. then o (λ f. Ok (f, behind ts))) leaf.1 ∙ ap (λ us. Ok (leaf.0, us)) (sym c.token_at-token.ensures.rest),
      c.push_reserved.ensures.items ∙ ap (λ xs. vec_items c.args.self.now.nodes ++ xs) (sym leaf.2),
    )

pub read_parts-returns-in_default-clause-answer : goal.read_parts-returns-in_default-clause-answer
read_parts-returns-in_default-clause-answer t c =
    let src = c.args.source.now in
    let S = setting_of src in
    let stop = length src.text.now in
    none_due S stop src.text.now (reads S stop c.args.depth) c.args.depth (in_scope c.args.scope.now.items src) (vec_items c.args.self.now.nodes) (vec_len c.args.self.now.nodes) c.args.parts.now (text c.args.seen.binder) c.args.seen.label (c.args.seen, c.args.at) (omega arith) c.requires.packed refl

pub read_parts-returns-in_ok-at-in-Sub-clause-answer : goal.read_parts-returns-in_ok-at-in-Sub-clause-answer
read_parts-returns-in_ok-at-in-Sub-clause-answer t c =
    let src = c.args.source.now in
    let S = setting_of src in
    let stop = length src.text.now in
    let rd = reads S stop c.args.depth in
    let ns = in_scope c.args.scope.now.items src in
    let es = vec_items c.args.self.now.nodes in
    let ms = vec_items c.read_form.new.self.nodes in
    let xs = vec_items c.read_parts-in-Sub.new.self.nodes in
    let n = vec_len c.args.self.now.nodes in
    let k = vec_len c.read_form.new.self.nodes in
    let later = take (length c.args.parts.now - 1) (drop 1 c.args.parts.now) in
    let us = rest src.text.now c.in_ok-at-in-Sub.at in
    let f = c.in_ok-at-in-Sub.ensures.answer in
    let ps = parted c.args.parts.now Binder (λ z. omega arith) ∙ ap (λ p. p ∷ later) c.in-Sub.is in
    let h = subst (λ b. CameParts src.text.now ms xs c.read_parts-in-Sub.result (parts_at S stop rd c.args.depth (over b S.names) k later (text c.args.seen.binder) c.args.seen.label us)) c.in_ok-at-in-Sub.ensures.bound c.read_parts-in-Sub.ensures.answer in
    sub_due S stop src.text.now rd c.args.depth ns es xs n k c.args.parts.now later (text c.args.seen.binder) c.args.seen.label (rest src.text.now c.args.at) us f.0 ms c.read_parts-in-Sub.result ps f.1 f.2 (counted c.args.self.now.nodes c.read_form.new.self.nodes f.0 f.2) h

pub read_parts-returns-in_ok-at-in-Body-clause-answer : goal.read_parts-returns-in_ok-at-in-Body-clause-answer
read_parts-returns-in_ok-at-in-Body-clause-answer t c =
    let src = c.args.source.now in
    let S = setting_of src in
    let stop = length src.text.now in
    let rd = reads S stop c.args.depth in
    let ns = in_scope c.args.scope.now.items src in
    let es = vec_items c.args.self.now.nodes in
    let ms = vec_items c.read_body.new.self.nodes in
    let xs = vec_items c.read_parts-in-Body.new.self.nodes in
    let n = vec_len c.args.self.now.nodes in
    let k = vec_len c.read_body.new.self.nodes in
    let later = take (length c.args.parts.now - 1) (drop 1 c.args.parts.now) in
    let us = rest src.text.now c.in_ok-at-in-Body.at in
    let f = c.in_ok-at-in-Body.ensures.answer in
    let ps = parted c.args.parts.now Binder (λ z. omega arith) ∙ ap (λ p. p ∷ later) c.in-Body.is in
    let h = subst (λ b. CameParts src.text.now ms xs c.read_parts-in-Body.result (parts_at S stop rd c.args.depth (over b S.names) k later (text c.args.seen.binder) c.args.seen.label us)) c.in_ok-at-in-Body.ensures.bound c.read_parts-in-Body.ensures.answer in
    body_due S stop src.text.now rd c.args.depth ns es xs n k c.args.parts.now later (text c.args.seen.binder) c.args.seen.label (rest src.text.now c.args.at) us f.0 ms c.read_parts-in-Body.result ps f.1 f.2 (counted c.args.self.now.nodes c.read_body.new.self.nodes f.0 f.2) h

pub read_body-returns-clause-answer : goal.read_body-returns-clause-answer
read_body-returns-clause-answer t c =
    let src = c.args.source.now in
    let S = setting_of src in
    let ps = c.args.scope.now.items in
    let qs = c.push.new.self.items in
    subst (λ ns. CameForm src.text.now (vec_items c.args.self.now.nodes) (vec_items c.read_form.new.self.nodes) c.read_form.result (reads S (length src.text.now) c.args.depth ns (vec_len c.args.self.now.nodes) (rest src.text.now c.args.at)))
    (bound_more ps c.args.name S.names qs c.push.ensures.items) c.read_form.ensures.answer

pub read_bracketed-returns-clause-answer : goal.read_bracketed-returns-clause-answer
read_bracketed-returns-clause-answer t c =
    let src = c.args.source.now in
    let S = setting_of src in
    let stop = length src.text.now in
    let rd = reads S stop c.args.depth in
    let ns = in_scope c.args.scope.now.items src in
    let n = vec_len c.args.self.now.nodes in
    let k = c.in_ok-keyword.keyword in
    let q = c.in_ok-seen.ensures.answer in
    let us = rest src.text.now c.in_ok-keyword.at in
    let vs = rest src.text.now c.in_ok-seen.at in
    let ws = rest src.text.now c.in_ok-close.at in
    let parts = ap (λ m. parts_at S stop rd c.args.depth ns m (parts_of k) [] 0 us) (sym c.push_reserved.ensures.len) ∙ ap (λ ps. parts_at S stop rd c.args.depth ns (vec_len c.push_reserved.new.self) ps [] 0 us) (sym c.parts.ensures.parts) ∙ q.1 in
    let place = span c.args.start (c.in_ok-close.close + 1 - c.args.start) in
    let item =
    ap (λ m. node (span c.args.start m) c.item.result) c.saturating_sub.ensures
    ∙ ap (node place) (c.item.ensures ∙ ap (λ b. item_of k b c.in_ok-seen.seen.label) q.3 ∙ ap (item_of k (pack q.0.binder)) q.4) in (
      made k place q.0,
      filled S stop rd c.args.depth ns n c.args.start (rest src.text.now c.args.at) us vs ws k q.0 c.in_ok-close.close (sym c.in_ok-keyword.ensures) parts (sym c.in_ok-close.ensures.answer),
      nodes_filled (vec_items c.args.self.now.nodes) (vec_items c.read_parts.new.self.nodes) _ _ k place q.0 c.len-here.result (sym (c.len-here.ensures ∙ c.args.self.now.nodes.ok.0)) (q.2 ∙ ap (λ zs. zs ++ all_nodes q.0.forms) c.push_reserved.ensures.items) item (all_forms S stop rd c.args.depth ns (parts_of k) (n + 1) [] 0 us q.0 vs parts),
    )

pub read_form-returns-then-len-ge-MOST_FORMS-2 : goal.read_form-returns-then-len-ge-MOST_FORMS-2
read_form-returns-then-len-ge-MOST_FORMS-2 t c =
    let src = c.args.source.now in
    let e = ap (token_of src.text.now) (sym c.in-Word.is) ∙ c.token_at-token.ensures.token in
    let h = at_word_full (setting_of src) (length src.text.now) c.args.depth (in_scope c.args.scope.now.items src) (vec_len c.args.self.now.nodes) (rest src.text.now c.args.at) c.in-Word.place (bytes_at src.text.now c.in-Word.place) e in
    search (rules, h)
