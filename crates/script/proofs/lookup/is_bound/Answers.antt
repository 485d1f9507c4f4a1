use Rattle.std.proofs.Common.{true, false, refl, sym, ap, ◌∙◌}
use Rattle.std.proofs.lemmas.Bool.{false≢true}
use Rattle.ground.specs.Names.{named, texts, built_in_list}
use Rattle.script.proofs.Naming.{found}
use Rattle.script.proofs.lookup.is_bound.Goals.{then-among, else-among}
use Rattle.script.proofs.lookup.is_bound.Goals as goal

pub returns-then-among-2 : goal.returns-then-among-2
returns-then-among-2 c =
    let w = c.args.word.now in
    let ps = c.args.scope.now.items in
    let qs = c.args.source.now.defined.now in
    let ns = built_in_list c.args.source.now.classes in
    let bound = c.among.ensures ∙ ap (λ xs. named (texts xs) w) c.as_slice.ensures.value in
    c.if-among-2.true ∙ elim c.if-among.branch [
      | then-among h ↦ found ps qs ns w true (named (texts qs) w) (named ns w) (sym h.if-among.true ∙ bound) refl refl
      | else-among h ↦ found ps qs ns w false true (named ns w) (sym h.if-among.false ∙ bound) (sym c.if-among-2.true ∙ h.value-is ∙ h.among-else-among.ensures) refl
    ]

pub returns-else-among-2 : goal.returns-else-among-2
returns-else-among-2 c =
    let w = c.args.word.now in
    let ps = c.args.scope.now.items in
    let qs = c.args.source.now.defined.now in
    let ns = built_in_list c.args.source.now.classes in
    let bound = c.among.ensures ∙ ap (λ xs. named (texts xs) w) c.as_slice.ensures.value in
    elim c.if-among.branch [
      | then-among h ↦ absurd (false≢true (sym c.if-among-2.false ∙ h.value-is ∙ h.if-among.true))
      | else-among h ↦
          found ps qs ns w false false c.is_built_in.result (sym h.if-among.false ∙ bound) (sym c.if-among-2.false ∙ h.value-is ∙ h.among-else-among.ensures)
          c.is_built_in.ensures
    ]
