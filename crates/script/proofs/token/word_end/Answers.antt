use Rattle.std.proofs.Common.{◌≡◌, ◌+◌, ◌-◌, take, drop, ◌∷◌, ap, ◌∙◌, arith}
use Rattle.std.proofs.lemmas.List.{length-take, length-drop, take_rest}
use Rattle.script.specs.declared.token.Kind.TheVariants.{Letter}
use Rattle.script.specs.Faults.{span}
use Rattle.script.specs.Tokens.{word, rest, run}
use Rattle.script.proofs.Cutting.{word_on}
use Rattle.script.proofs.token.word_end.Goals as goal

pub overflow_add-result : goal.overflow_add-result
overflow_add-result c = let w = simp (length-take, length-drop) at c.run.ensures.within in omega (arith, w)

pub returns : goal.returns
returns c =
    let t = c.args.text.now in
    let s = c.args.start in
    let n = c.run.result in
    let w = simp (length-take, length-drop) at c.run.ensures.within in
    let back : n ≡ s + n - s = omega arith in
    record {
      after = omega arith;
      before = omega (arith, w);
      cut =
          word_on t s n c.requires.within c.requires.letter (c.run.ensures.value ∙ ap (run Letter) (take_rest t s))
          ∙ ap (λ k. word (span s k) (take k (drop s t)) ∷ rest t (s + n)) back;
    }
