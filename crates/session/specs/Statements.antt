-- What is shown of the scripts that a session reads.
use Rattle.std.specs.Prelude.{◌≡◌, ℕ, ◌≤◌, true, List, length, Ok}
use Rattle.ground.specs.Forms.{Form}
use Rattle.script.specs.Reads.{Setting, reading}
use Rattle.system.specs.Meaning.{Kind}
use Rattle.engine.specs.Proper.{Proper}

-- A form that the reader accepts can be typed, where record forms are known only with ten heads and the sheet has at most 24 labels.
abbrev pub ReadFormsAreProper : Type 0
ReadFormsAreProper =
    (K : Kind) (S : Setting)
    → (S.records ≡ true → 10 ≤ K.heads)
    → length S.sheet ≤ 24
    → (text : List ℕ) (f : Form)
    → reading S text ≡ Ok f
    → Proper K S.names f
