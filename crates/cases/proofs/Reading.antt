-- The reader makes these forms of the scripts: by computation.
use Rattle.std.proofs.Common.{refl}
use Rattle.cases.specs.Cases.{ReadSo}

pub reads : ReadSo
reads = record {
  self = refl;
  twice = refl;
  sum = refl;
  negated = refl;
  held = refl;
  empty = refl;
  largest = refl;
  too_large = refl;
  seven = refl;
}
