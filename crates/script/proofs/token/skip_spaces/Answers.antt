use Rattle.std.proofs.Common.{◌+◌, slice_index, sym, ap, ◌∙◌, arith}
use Rattle.std.proofs.lemmas.List.{length-take, length-drop}
use Rattle.script.specs.declared.token.Kind.TheVariants.{Space}
use Rattle.script.specs.Tokens.{kind_of, rest, run}
use Rattle.script.proofs.Cutting.{from_byte, spaces_on, space_stops}
use Rattle.script.proofs.token.skip_spaces.Goals as goal

pub overflow_add-result : goal.overflow_add-result
overflow_add-result c = let w = simp (length-take, length-drop) at c.run.ensures.within in omega (arith, w)

pub returns : goal.returns
returns c =
    let t = c.args.text.now in
    let at = c.args.at in
    let all = c.run.ensures.value ∙ ap (run Space) (from_byte t at c.min.result c.min.ensures) in
    record {
      same = ap (λ n. rest t (at + n)) all ∙ spaces_on t at;
      stops = λ h e. space_stops t at (omega (arith, all)) (sym (ap (λ n. kind_of (slice_index t (at + n))) all) ∙ e);
    }
