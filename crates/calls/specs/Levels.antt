-- How many marks are open.
use Rattle.std.specs.Prelude.{ℕ, Bool, true, false, length}
use Rattle.system.specs.Meaning.{Meaning}
use Rattle.system.specs.Requests.{Request, keep, back}

abbrev pub level : Meaning → ℕ
level m = length m.marks

-- How a mark is ended: kept, or undone.
abbrev pub ending : Bool → ℕ → Request
ending true d = keep d
ending false d = back d
