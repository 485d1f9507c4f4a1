use Rattle.std.proofs.Common.{◌≡◌, take, fold, vec_items}
use Rattle.values.specs.Spelling.{with_class, class_words}
use Rattle.values.proofs.class.put_classes.Given as goal

abbrev pub invariant-loop-word : goal.invariant-loop-word
invariant-loop-word l = vec_items l.tokens ≡ fold (with_class l.unsolved) (vec_items l.initial.tokens) (take l.word-index (class_words l.unsolved.classes))
