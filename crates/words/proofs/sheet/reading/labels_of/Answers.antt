use Rattle.std.proofs.Common.{◌≡◌, ◌-◌, ◌++◌, vec_items, vec_len, sym, ap, ◌∙◌, arith, rules}
use Rattle.ground.specs.Names.{texts}
use Rattle.words.specs.Sheets.{words_behind, labels_of, good_up_to}
use Rattle.words.proofs.Listed.{good_first, name_fits, none_packs, listed_more}
use Rattle.words.proofs.sheet.reading.labels_of.Goals as goal

pub unreachable-requires : goal.unreachable-requires
unreachable-requires c =
    let w = c.split_word.result.0.now in
    let first = ap words_behind c.in-Some.is ∙ c.split_word.ensures in
    let here = good_first (24 - vec_len c.loop-rest.labels) w (words_behind c.split_word.result.1) (sym (ap (good_up_to (24 - vec_len c.loop-rest.labels)) first) ∙ c.loop-rest.invariant.good) in
    none_packs w (name_fits w here.0) (sym c.in_default-of.is ∙ c.of.ensures)

pub loop-rest-preserved : goal.loop-rest-preserved
loop-rest-preserved c =
    let w = c.split_word.result.0.now in
    let ws = words_behind c.split_word.result.1 in
    let ps = vec_items c.loop-rest.labels in
    let first = ap words_behind c.in-Some.is ∙ c.split_word.ensures in
    let here = good_first (24 - vec_len c.loop-rest.labels) w ws (sym (ap (good_up_to (24 - vec_len c.loop-rest.labels)) first) ∙ c.loop-rest.invariant.good) in
    let less : 24 - vec_len c.push_reserved.new.self ≡ 24 - vec_len c.loop-rest.labels - 1 = omega (arith, c.push_reserved.ensures.len) in
    record {
      few = omega (arith, here.1, c.push_reserved.ensures.len);
      room = search rules;
      good = ap (λ k. good_up_to k ws) less ∙ here.2;
      all =
          listed_more w ws ps (vec_items c.push_reserved.new.self) c.in-Some-of.name (labels_of c.args.text.now) (name_fits w here.0)
          (sym c.in-Some-of.is ∙ c.of.ensures) c.push_reserved.ensures.items (sym (ap (λ vs. texts ps ++ vs) first) ∙ c.loop-rest.invariant.all);
    }
