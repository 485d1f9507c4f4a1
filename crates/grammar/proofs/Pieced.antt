-- The steps that the reader takes through a bracketed form, by name.
use Rattle.std.proofs.Common.{ℕ, ◌+◌, ◌-◌, List, [], length, Ok}
use Rattle.ground.specs.Names.{Name}
use Rattle.ground.specs.Forms.{Form}
use Rattle.words.specs.declared.keyword.Keyword.{Keyword}
use Rattle.script.specs.declared.part.Part.{Part}
use Rattle.script.specs.Faults.{span, Out}
use Rattle.script.specs.Tokens.{Token, first, behind}
use Rattle.script.specs.Nodes.{nodes}
use Rattle.script.specs.Parts.{parts_of, Pieces, made}
use Rattle.script.specs.Reads.{Setting, Reads, with_form, then, close_at, parts_at}

-- the pieces with one more form in front
abbrev pub with_form_left : Form → Pieces × List Token → Pieces × List Token
with_form_left f y = (with_form f y.0, y.1)

-- the form of a keyword, its pieces and its closing bracket, which opened at i
abbrev pub form : ℕ → Keyword × List Token → Pieces × List Token → ℕ × List Token → Form × List Token
form i k q c = (made k.0 (span i (c.0 + 1 - i)) q.0, c.1)

module _ (S : Setting) (stop : ℕ) (rd : Reads) (d : ℕ) where
  -- the parts behind a form that was read, and that form with them
  abbrev pub others : List Part → List Name → ℕ → Name → ℕ → Form × List Token → Out (Pieces × List Token)
  others ps ns n b l x = parts_at S stop rd d ns (n + length (nodes x.0)) ps b l x.1

  abbrev pub form_and_others : List Part → List Name → ℕ → Name → ℕ → Form × List Token → Out (Pieces × List Token)
  form_and_others ps ns n b l x = then (others ps ns n b l x) (λ y. Ok (with_form_left x.0 y))

  -- the parts behind a keyword, and its closing bracket
  abbrev pub inside : List Name → ℕ → Keyword × List Token → Out (Pieces × List Token)
  inside ns n k = parts_at S stop rd d ns (n + 1) (parts_of k.0) [] 0 k.1

  abbrev pub shut : ℕ → Keyword × List Token → Pieces × List Token → Out (Form × List Token)
  shut i k q = then (close_at d (first stop q.1) (behind q.1)) (λ c. Ok (form i k q c))
