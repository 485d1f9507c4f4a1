-- The scripts of the worked cases, and the forms that they say, each with its place.
use Rattle.std.specs.Prelude.{ℕ, true, List, [], ◌∷◌, pos, codes}
use Rattle.ground.specs.Names.{built_in_list}
use Rattle.ground.specs.Forms.{Form, name, number, truth, fun, call, let_in, if_then}
use Rattle.script.specs.Faults.{span}
use Rattle.script.specs.Reads.{Setting}

-- What they are read with: records and classes are known, the sheet is blade, tilt, winch, and no definition stands.
abbrev pub here : Setting
here = record { records = true; sheet = codes "blade" ∷ codes "tilt" ∷ codes "winch" ∷ []; names = built_in_list true }

-- A function called with itself.
abbrev pub self_text : List ℕ
self_text = codes "(fun f (call f f))"

-- (call f f)
abbrev pub self_call : Form
self_call = call (span 7 10) (name (span 13 1) (codes "f")) (name (span 15 1) (codes "f"))

-- The whole.
abbrev pub self : Form
self = fun (span 0 18) (codes "f") self_call

-- A function's name, bound again by let, called with a flag and with a number.
abbrev pub twice_text : List ℕ
twice_text = codes "(fun f (let g f (if (call g yes) (call g 1) 2)))"

-- (call g yes)
abbrev pub flag_call : Form
flag_call = call (span 20 12) (name (span 26 1) (codes "g")) (truth (span 28 3) true)

-- (call g 1)
abbrev pub number_call : Form
number_call = call (span 33 10) (name (span 39 1) (codes "g")) (number (span 41 1) (pos 10))

-- (if (call g yes) (call g 1) 2)
abbrev pub twice_choice : Form
twice_choice = if_then (span 16 30) flag_call number_call (number (span 44 1) (pos 20))

-- (let g f (if (call g yes) (call g 1) 2))
abbrev pub twice_let : Form
twice_let = let_in (span 7 40) (codes "g") (name (span 14 1) (codes "f")) twice_choice

-- The whole.
abbrev pub twice : Form
twice = fun (span 0 48) (codes "f") twice_let

-- A number added to itself.
abbrev pub sum_text : List ℕ
sum_text = codes "(fun p (call (call add p) p))"

-- The whole.
abbrev pub sum : Form
sum =
    fun (span 0 29) (codes "p")
    (call (span 7 21) (call (span 13 12) (name (span 19 3) (codes "add")) (name (span 23 1) (codes "p"))) (name (span 26 1) (codes "p")))

-- A flag negated.
abbrev pub negated_text : List ℕ
negated_text = codes "(call neg yes)"

-- The whole.
abbrev pub negated : Form
negated = call (span 0 14) (name (span 6 3) (codes "neg")) (truth (span 10 3) true)

-- A value that is compared and then held.
abbrev pub held_text : List ℕ
held_text = codes "(fun p (if (call (call less p) p) (call hold p) p))"

-- (call (call less p) p)
abbrev pub less_call : Form
less_call = call (span 11 22) (call (span 17 13) (name (span 23 4) (codes "less")) (name (span 28 1) (codes "p"))) (name (span 31 1) (codes "p"))

-- (call hold p)
abbrev pub hold_call : Form
hold_call = call (span 34 13) (name (span 40 4) (codes "hold")) (name (span 45 1) (codes "p"))

-- (if (call (call less p) p) (call hold p) p)
abbrev pub held_choice : Form
held_choice = if_then (span 7 43) less_call hold_call (name (span 48 1) (codes "p"))

-- The whole.
abbrev pub held : Form
held = fun (span 0 51) (codes "p") held_choice

-- Two empty lists compared.
abbrev pub empty_text : List ℕ
empty_text = codes "(call (call equal nil) nil)"

-- The whole.
abbrev pub empty : Form
empty = call (span 0 27) (call (span 6 16) (name (span 12 5) (codes "equal")) (name (span 18 3) (codes "nil"))) (name (span 23 3) (codes "nil"))

-- The largest number, by its value in tenths.
abbrev pub largest : Form
largest = number (span 0 5) (pos 327670)
