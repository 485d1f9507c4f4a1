-- What a script says. Each form has its place; a name is its bytes, a label its number on the sheet.
use Rattle.std.specs.Prelude.{ℕ, Bool, ℤ}
use Rattle.ground.specs.declared.place.Place.{Place}
use Rattle.ground.specs.Names.{Name}

pub data Form : Type 0 where
  name : Place → Name → Form
  -- a number without a point, and one with; both by their value in tenths
  number : Place → ℤ → Form
  tenths : Place → ℤ → Form
  truth : Place → Bool → Form
  fun : Place → Name → Form → Form
  call : Place → Form → Form → Form
  let_in : Place → Name → Form → Form → Form
  fix : Place → Name → Form → Form
  if_then : Place → Form → Form → Form → Form
  empty_record : Place → Form
  extend : Place → Form → ℕ → Form → Form
  select : Place → Form → ℕ → Form
  remove : Place → Form → ℕ → Form
