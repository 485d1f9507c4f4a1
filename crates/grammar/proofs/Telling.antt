-- What the reader answers, told in the words of the grammar.
use Rattle.std.proofs.Common.{◌≡◌, ℕ, List, Ok, Err, Result, sym, refl, subst, arith}
use Rattle.ground.specs.Forms.{Form}
use Rattle.script.specs.declared.fault.ReadFault.{ReadFault}
use Rattle.script.specs.declared.node.Node.{Node}
use Rattle.script.specs.Faults.{Out}
use Rattle.script.specs.Reads.{Setting, reading}
use Rattle.script.specs.Read.{answered, nodes_read}
use Rattle.grammar.specs.Statements.{Script, Told}
use Rattle.grammar.proofs.Accepts.{accepts}
use Rattle.grammar.proofs.Named.{names}

one_form : (S : Setting) (text : List ℕ) (f g : Form) → reading S text ≡ Ok f → Script S text g → g ≡ f
one_form S text f g e s = let h = (accepts S text g).1 s in cc (h, e)

no_form : (S : Setting) (text : List ℕ) (x : ReadFault) (g : Form) → reading S text ≡ Err x → Script S text g → ⊥
no_form S text x g e s =
    let h = (accepts S text g).1 s in
    let z : ◌≡◌ {A = ℕ} 0 1 = cc (h, e) in
    omega (arith, z)

outcome : (S : Setting) (text : List ℕ) (o : Out Form) → reading S text ≡ o → Told S text (nodes_read o) (answered o)
outcome S text (Ok f) e = (f, (accepts S text f).0 e, (λ g s. one_form S text f g e s), refl)
outcome S text (Err x) e = (names S text x e, (λ g s. no_form S text x g e s), refl)

pub told : (S : Setting) (text : List ℕ) (kept : List Node) (r : Result (Unit {0}) ReadFault)
    → r ≡ answered (reading S text) → kept ≡ nodes_read (reading S text) → Told S text kept r
told S text kept r er ek =
    subst (λ x. Told S text kept x) (sym er) (subst (λ ns. Told S text ns (answered (reading S text))) (sym ek) (outcome S text (reading S text) refl))
