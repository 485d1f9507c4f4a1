-- No end stands among the tokens of a text, nor in what a form leaves of them.
use Rattle.std.proofs.Common.{ℕ, ◌+◌, List, [], ◌∷◌}
use Rattle.ground.specs.Names.{Name}
use Rattle.ground.specs.Forms.{Form}
use Rattle.script.specs.declared.part.Part.{Part}
use Rattle.script.specs.declared.token.Kind.{Kind}
use Rattle.script.specs.declared.token.Kind.TheVariants.{Space, Open, Close, Letter}
use Rattle.script.specs.Tokens.{Token, opening, closing, word, ending, kind_of, Begun, between, inside, grown, ended, by_kind, cut, tokens}
use Rattle.script.specs.Parts.{Pieces}
use Rattle.grammar.specs.Grammar.{Rules, Says, by_word, in_brackets, Behind, no_more, binder, label, sub, body}

abbrev pub Plain : List Token → Type 0
Plain [] = Unit {0}
Plain (opening i ∷ ts) = Plain ts
Plain (closing i ∷ ts) = Plain ts
Plain (word p w ∷ ts) = Plain ts
Plain (ending n ∷ ts) = ⊥

ended_plain : (g : Begun) (ts : List Token) → Plain ts → Plain (ended g ts)
ended_plain between ts h = h
ended_plain (inside s w) ts h = h

kind_plain : (k : Kind) (g : Begun) (at : ℕ) (next more : List Token) → Plain next → Plain more → Plain (by_kind k g at next more)
kind_plain Space g at next more h m = ended_plain g next h
kind_plain Open g at next more h m = ended_plain g (opening at ∷ next) h
kind_plain Close g at next more h m = ended_plain g (closing at ∷ next) h
kind_plain Letter g at next more h m = m

cut_plain : (g : Begun) (at : ℕ) (bs : List ℕ) → Plain (cut g at bs)
cut_plain g at [] = ended_plain g [] tt
cut_plain g at (b ∷ bs) =
    let h = grown g at b in
    kind_plain (kind_of b) g at (cut between (at + 1) bs) (cut h (at + 1) bs) (cut_plain between (at + 1) bs) (cut_plain h (at + 1) bs)

pub tokens_plain : (text : List ℕ) → Plain (tokens text)
tokens_plain text = cut_plain between 0 text

mutual
  pub rest_plain : {R : Rules} {ns : List Name} {ts rest : List Token} {f : Form} → Says R ns ts f rest → Plain ts → Plain rest
  rest_plain (by_word s) h = h
  rest_plain (in_brackets j k q e b) h = parts_plain b h

  parts_plain :
      {R : Rules} {ns : List Name} {ps : List Part} {b : Name} {l : ℕ} {ts rest : List Token} {q : Pieces}
      → Behind R ns ps b l ts q rest
      → Plain ts
      → Plain rest
  parts_plain no_more h = h
  parts_plain (binder g r) h = parts_plain r h
  parts_plain (label g e r) h = parts_plain r h
  parts_plain (sub s r) h = parts_plain r (rest_plain s h)
  parts_plain (body s r) h = parts_plain r (rest_plain s h)
