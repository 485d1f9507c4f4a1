-- What is read from a byte of a source on.
use Rattle.std.specs.Prelude.{ℕ, List, ◌∷◌, length}
use Rattle.ground.specs.Names.{Name}
use Rattle.ground.specs.Forms.{Form}
use Rattle.script.specs.declared.part.Part.{Part}
use Rattle.ground.specs.declared.name.Name.{Name as Packed}
use Rattle.script.specs.declared.source.Source.{Source}
use Rattle.script.specs.Faults.{Out}
use Rattle.script.specs.Tokens.{Token, first, behind, rest}
use Rattle.script.specs.Parts.{Pieces}
use Rattle.script.specs.Reads.{reads, parts_at, bracketed}
use Rattle.script.specs.Settings.{setting_of}
use Rattle.script.specs.Scopes.{in_scope}

abbrev pub text_of : Source → List ℕ
text_of src = src.text.now

-- the token at a byte or behind it, and those behind that
abbrev pub token_here : List ℕ → ℕ → Token
token_here text at = first (length text) (rest text at)

abbrev pub behind_here : List ℕ → ℕ → List Token
behind_here text at = behind (rest text at)

-- a form that may nest d brackets, under the names of a scope, with n forms begun before it
abbrev pub form_here : Source → List Packed → ℕ → ℕ → ℕ → Out (Form × List Token)
form_here src ps d n at = reads (setting_of src) (length (text_of src)) d (in_scope ps src) n (rest (text_of src) at)

-- one in which a name is bound
abbrev pub body_here : Source → List Packed → Name → ℕ → ℕ → ℕ → Out (Form × List Token)
body_here src ps b d n at = reads (setting_of src) (length (text_of src)) d (b ∷ in_scope ps src) n (rest (text_of src) at)

-- what is behind the bracket that opens at `start`; inside, d more may open
abbrev pub bracket_here : Source → List Packed → ℕ → ℕ → ℕ → ℕ → Out (Form × List Token)
bracket_here src ps d n start at =
    bracketed (setting_of src) (length (text_of src)) (reads (setting_of src) (length (text_of src)) d) d (in_scope ps src) n start (rest (text_of src) at)

-- the parts behind a keyword, with the name and the label so far
abbrev pub parts_here : Source → List Packed → ℕ → ℕ → List Part → Name → ℕ → ℕ → Out (Pieces × List Token)
parts_here src ps d n qs b l at =
    parts_at (setting_of src) (length (text_of src)) (reads (setting_of src) (length (text_of src)) d) d (in_scope ps src) n qs b l (rest (text_of src) at)
