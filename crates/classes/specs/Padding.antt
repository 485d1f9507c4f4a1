-- The 128 places of a table: its entries, and blanks behind them.
use Rattle.std.specs.Prelude.{◌≡◌, ℕ, ◌-◌, ◌≤◌, List, ◌++◌, length, take, drop, replicate}
use Rattle.std.proofs.Common.{sym, ap, ◌∙◌, arith, take-append-drop, length-take-le}
use Rattle.classes.specs.declared.entry.Entry.{Entry}
use Rattle.classes.specs.Entries.{blank}

-- The places of a table with these entries.
abbrev pub padded : List Entry → List Entry
padded es = es ++ replicate (128 - length es) blank

-- Whether the places from n on are blank.
abbrev pub Spare : ℕ → List Entry → Type 0
Spare n xs = (n ≤ 128) × (length xs ≡ 128) × (drop n xs ≡ replicate (128 - n) blank)

-- So many entries there are.
pub counted : (n : ℕ) (xs : List Entry) → Spare n xs → length (take n xs) ≡ n
counted n xs h = length-take-le n xs (omega (arith, h.0, h.1))

-- Then the entries alone say what stands in each place.
pub refilled : (n : ℕ) (xs : List Entry) → Spare n xs → padded (take n xs) ≡ xs
refilled n xs h =
    ap (λ k. take n xs ++ replicate (128 - k) blank) (counted n xs h)
    ∙ ap (λ ys. take n xs ++ ys) (sym h.2)
    ∙ take-append-drop n xs
