-- The lines of a text: each ends at a line end (10), or where the text does.
use Rattle.std.specs.Prelude.{◌≡◌, ℕ, suc, ◌+◌, ◌-◌, ◌^◌, ◌<◌, min, cond, List, [], ◌∷◌, length, take, drop, Some, None, Option, ◌==◌}
use Rattle.std.specs.Borrow.{Bor}
use Rattle.lines.specs.declared.lines.Lines.{Lines}

-- how many bytes the first line has
abbrev pub line_length : List ℕ → ℕ
line_length [] = 0
line_length (b ∷ bs) = cond (b == 10) 0 (suc (line_length bs))

-- a step reads the first line, which takes the next number as far as numbers reach, and leaves what stands behind its end
abbrev pub Reads : Lines → Option (Bor (List ℕ)) → Lines → Type 0
Reads s None t = (s.rest.now ≡ []) × (t.rest.now ≡ []) × (t.number ≡ s.number)
Reads s (Some l) t =
    (0 < length s.rest.now)
    × (l.now ≡ take (line_length s.rest.now) s.rest.now)
    × (t.rest.now ≡ drop (line_length s.rest.now + 1) s.rest.now)
    × (t.number ≡ min (s.number + 1) (2 ^ 64 - 1))
