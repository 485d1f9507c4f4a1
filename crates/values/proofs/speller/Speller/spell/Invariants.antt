use Rattle.std.proofs.Common.{◌≡◌, take}
use Rattle.values.specs.Spelling.{spelled}
use Rattle.values.specs.Writers.{writing}
use Rattle.values.proofs.speller.Speller.spell.Given as goal

abbrev pub invariant-loop-token : goal.invariant-loop-token
invariant-loop-token l = writing l.self ≡ spelled (writing l.initial.self) (take l.token-index l.tokens)
