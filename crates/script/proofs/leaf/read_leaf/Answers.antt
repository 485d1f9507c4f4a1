use Rattle.std.proofs.Common.{◌≡◌, ℕ, [], ◌∷◌, Ok, sym, refl, ap, ◌∙◌, arith, rules}
use Rattle.ground.specs.Forms.{truth, name}
use Rattle.script.specs.declared.node.Item.TheVariants.{Name}
use Rattle.script.specs.Nodes.{node}
use Rattle.script.specs.Tokens.{bytes_at}
use Rattle.script.specs.Scopes.{in_scope}
use Rattle.script.proofs.Binders.{packs, named_word, leaf_is, leaf_number, leaf_bound}
use Rattle.script.proofs.leaf.read_leaf.Goals as goal

pub unreachable-requires : goal.unreachable-requires
unreachable-requires c =
    let n = packs c.word_of-word.result.now (named_word c.word_of-word.result.now (sym c.in-Ok-Name.ensures ∙ ap Ok c.in-Ok-Name.field-0-is)) in
    let e = c.in-None.ensures in
    let z : ◌≡◌ {A = ℕ} 0 1 = cc (n, e) in
    omega (arith, z)

pub returns-in-Ok-Truth : goal.returns-in-Ok-Truth
returns-in-Ok-Truth c = (
  truth c.args.place c.in-Ok-Truth.b,
  leaf_is (in_scope c.args.scope.now.items c.args.source.now) c.args.place (bytes_at c.args.source.now.text.now c.args.place) c.word_of-word.result.now _ (sym (ap Ok c.in-Ok-Truth.field-0-is) ∙ c.in-Ok-Truth.ensures) c.word_of-word.ensures,
  refl,
)

pub returns-in-Ok-Number : goal.returns-in-Ok-Number
returns-in-Ok-Number c =
    let ns = in_scope c.args.scope.now.items c.args.source.now in
    let w = bytes_at c.args.source.now.text.now c.args.place in
    let q = leaf_number ns c.args.place w c.in-Ok-Number.number in (
      q.0,
      leaf_is ns c.args.place w c.word_of-word.result.now _ (sym (ap Ok c.in-Ok-Number.field-0-is) ∙ c.in-Ok-Number.ensures) c.word_of-word.ensures ∙ q.1,
      q.2 ∙ ap (λ i. node c.args.place i ∷ []) (search rules),
    )

pub returns-in-Some : goal.returns-in-Some
returns-in-Some c =
    let w = c.word_of-word.result.now in
    let is = sym (ap Ok c.in-Ok-Name.field-0-is) ∙ c.in-Ok-Name.ensures in
    let good = named_word w (sym is) in
    let n = packs w good in
    let e = c.in-Some.ensures in (
      name c.args.place w,
      leaf_bound (in_scope c.args.scope.now.items c.args.source.now) c.args.place (bytes_at c.args.source.now.text.now c.args.place) w is c.word_of-word.ensures c.if-not-is_bound.ensures,
      ap (λ x. node c.args.place (Name x) ∷ []) (cc (n, e)),
    )
