-- Forms that can be typed: what the reader lets through.
use Rattle.std.specs.Prelude.{◌≡◌, ◌≤◌, true, List, ◌∷◌}
use Rattle.ground.specs.Names.{Name, named}
use Rattle.ground.specs.Forms.{Form, name, number, tenths, truth, fun, call, let_in, fix, if_then, empty_record, extend, select, remove}
use Rattle.system.specs.Meaning.{Kind}

-- Each name of the form is bound in it or is one of these; there are record forms only where all ten heads are known, and their labels are at
-- most 23.
abbrev pub Proper : Kind → List Name → Form → Type 0
Proper K ns (name p n) = named ns n ≡ true
Proper K ns (number p z) = Unit {0}
Proper K ns (tenths p z) = Unit {0}
Proper K ns (truth p b) = Unit {0}
Proper K ns (fun p n B) = Proper K (n ∷ ns) B
Proper K ns (call p F S) = Proper K ns F × Proper K ns S
Proper K ns (let_in p n S B) = Proper K ns S × Proper K (n ∷ ns) B
Proper K ns (fix p n B) = Proper K (n ∷ ns) B
Proper K ns (if_then p C S B) = Proper K ns C × Proper K ns S × Proper K ns B
Proper K ns (empty_record p) = 10 ≤ K.heads
Proper K ns (extend p R l S) = (10 ≤ K.heads) × (l ≤ 23) × Proper K ns R × Proper K ns S
Proper K ns (select p R l) = (10 ≤ K.heads) × (l ≤ 23) × Proper K ns R
Proper K ns (remove p R l) = (10 ≤ K.heads) × (l ≤ 23) × Proper K ns R
