use Rattle.std.proofs.Common.{vec_items, sym, ◌∙◌, rules}
use Rattle.model.proofs.Following.{joined, unjoined}
use Rattle.model.proofs.model.Model.join.Goals as goal

pub returns-then-is_err : goal.returns-then-is_err
returns-then-is_err c =
    let s = c.args.self.now in
    unjoined s.codes (vec_items s.saved) c.requires.sure c.args.a c.args.b 40000000 c.requires.a c.requires.b (search rules) c.unify-answer.result c.unify-answer.new.self c.back_to.new.self
    (sym c.is_err.ensures.value ∙ c.if-is_err.true) c.unify-answer.ensures.answer c.unify-answer.ensures.codes (search rules)

pub returns-else-is_err : goal.returns-else-is_err
returns-else-is_err c =
    let s = c.args.self.now in
    joined s.codes (vec_items s.saved) c.requires.sure c.args.a c.args.b 40000000 c.requires.a c.requires.b (search rules) c.unify-answer.result c.unify-answer.new.self
    (sym c.is_err.ensures.value ∙ c.if-is_err.false) c.unify-answer.ensures.answer c.unify-answer.ensures.codes
