use Rattle.std.proofs.Common.{◌≡◌, [], take, vec_items}
use Rattle.values.specs.Spelling.{classed}
use Rattle.values.proofs.class.class_tokens.Given as goal

abbrev pub invariant-loop-v : goal.invariant-loop-v
invariant-loop-v l = vec_items l.tokens ≡ classed [] (take l.v-index l.names)
