-- How many nodes a bracketed form has, and how deep it nests, by what stands behind its keyword.
use Rattle.std.proofs.Common.{◌≡◌, ℕ, suc, ◌+◌, max, List, [], ◌∷◌, length, refl, arith, length-append}
use Rattle.ground.specs.declared.place.Place.{Place}
use Rattle.ground.specs.Names.{Name}
use Rattle.ground.specs.Forms.{Form}
use Rattle.words.specs.declared.keyword.Keyword.{Keyword}
use Rattle.words.specs.declared.keyword.Keyword.TheVariants.{Fun, Call, Let, Rec, If, Record, With, Get, Drop}
use Rattle.script.specs.Tokens.{Token}
use Rattle.script.specs.Nodes.{nodes, all_nodes}
use Rattle.script.specs.Parts.{parts_of, Pieces, made}
use Rattle.grammar.specs.Grammar.{Rules, Behind, no_more, binder, label, sub, body, deep}

-- how deep the deepest of some forms nests
abbrev pub deepest : List Form → ℕ
deepest [] = 0
deepest (f ∷ fs) = max (deep f) (deepest fs)

-- how many nodes they have
abbrev pub sizes : List Form → ℕ
sizes fs = length (all_nodes fs)

pub sizes_more : (f : Form) (fs : List Form) → sizes (f ∷ fs) ≡ length (nodes f) + sizes fs
sizes_more f fs = length-append (nodes f) (all_nodes fs)

pub made_size :
    {R : Rules} {ns : List Name} {b : Name} {l : ℕ} {ts : List Token} {q : Pieces} {rest : List Token}
    (k : Keyword) (p : Place)
    → Behind R ns (parts_of k) b l ts q rest
    → (length (nodes (made k p q)) ≡ suc (sizes q.forms)) × (deep (made k p q) ≡ suc (deepest q.forms))
made_size Fun p (binder g (body {f = f} x no_more)) = (simp length-append (omega arith), omega arith)
made_size Call p (sub {f = f} x (sub {f = g} y no_more)) = (simp length-append (omega arith), omega arith)
made_size Let p (binder h (sub {f = f} x (body {f = g} y no_more))) = (simp length-append (omega arith), omega arith)
made_size Rec p (binder g (body {f = f} x no_more)) = (simp length-append (omega arith), omega arith)
made_size If p (sub {f = f} x (sub {f = g} y (sub {f = h} z no_more))) = (simp length-append (omega arith), omega arith)
made_size Record p no_more = (refl, refl)
made_size With p (sub {f = f} x (label u v (sub {f = g} y no_more))) = (simp length-append (omega arith), omega arith)
made_size Get p (sub {f = f} x (label u v no_more)) = (simp length-append (omega arith), omega arith)
made_size Drop p (sub {f = f} x (label u v no_more)) = (simp length-append (omega arith), omega arith)
