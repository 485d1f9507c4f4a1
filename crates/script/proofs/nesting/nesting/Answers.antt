use Rattle.std.proofs.Common.{◌+◌, max, drop, sym, ap, ◌∙◌, arith}
use Rattle.std.proofs.lemmas.List.{at_drop_more, at_drop_all}
use Rattle.script.specs.Nesting.{nesting_of}
use Rattle.script.proofs.nesting.nesting.Goals as goal

pub loop-b-preserved : goal.loop-b-preserved
loop-b-preserved c =
    let t = c.args.text.now in
    let i = c.loop-b.b-index in
    let e = at_drop_more (nesting_of c.loop-b.count c.loop-b.most) t i 0 c.loop-b-test.true in (
      omega (arith, c.behind-count.ensures.step, c.loop-b.invariant.0),
      ap (λ m. nesting_of c.behind-count.result m (drop (i + 1) t)) c.max-most.ensures
          ∙ ap (λ n. nesting_of n (max c.loop-b.most n) (drop (i + 1) t)) c.behind-count.ensures.value
          ∙ sym e
          ∙ c.loop-b.invariant.1,
    )

pub returns : goal.returns
returns c = sym (at_drop_all (nesting_of c.loop-b.count c.loop-b.most) c.args.text.now c.loop-b.b-index c.loop-b-test.false) ∙ c.loop-b.invariant.1
