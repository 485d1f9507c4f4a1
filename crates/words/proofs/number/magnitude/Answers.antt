use Rattle.std.proofs.Common.{◌+◌, get_or, drop, Some, fold, sym, refl, ◌∙◌, arith, rules}
use Rattle.std.proofs.lemmas.List.{at_drop_more, at_drop_all}
use Rattle.words.specs.Numbers.{step, capped}
use Rattle.words.proofs.Capped.{digit_more, no_digit}
use Rattle.words.proofs.number.magnitude.Goals as goal

pub returns-then-not-is_digit : goal.returns-then-not-is_digit
returns-then-not-is_digit c =
    let s = c.args.word.now in
    let i = c.loop-b.b-index in
    let e = at_drop_more (λ xs. capped (fold step (Some c.loop-b.n) xs)) s i 0 c.loop-b-test.true in
    let none = no_digit c.loop-b.n (get_or s i 0) (drop (i + 1) s) (sym c.is_digit.ensures ∙ c.if-not-is_digit.true) in
    record { value = sym none ∙ sym e ∙ c.loop-b.invariant.1; cap = refl }

pub loop-b-preserved : goal.loop-b-preserved
loop-b-preserved c =
    let s = c.args.word.now in
    let i = c.loop-b.b-index in
    let e = at_drop_more (λ xs. capped (fold step (Some c.loop-b.n) xs)) s i 0 c.loop-b-test.true in
    let d = digit_more c.loop-b.n (get_or s i 0) (drop (i + 1) s) c.min-n.result (sym c.is_digit.ensures ∙ c.if-not-is_digit.false) c.min-n.ensures in
    (omega (arith, c.min-n.ensures), d ∙ sym e ∙ c.loop-b.invariant.1)

pub returns : goal.returns
returns c = search (rules, at_drop_all (λ xs. capped (fold step (Some c.loop-b.n) xs)))
