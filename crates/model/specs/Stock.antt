-- What a model's codes come to.
use Rattle.std.specs.Prelude.{ℕ, List}
use Rattle.model.specs.declared.cell.Cell.{Cell}
use Rattle.model.specs.declared.cell.Bind.{Bind}

-- The cells, the binds, and how many cells there can be.
pub record Stock : Type 0 where
  pub cells : List Cell
  pub binds : List Bind
  pub limit : ℕ
