-- What the reader's answers come to.
use Rattle.std.specs.Prelude.{◌≡◌, ℕ, ◌<◌, ◌≤◌, true, false, List, [], ◌∷◌, ◌++◌, length, Ok, Err, Result}
use Rattle.ground.specs.Forms.{Form}
use Rattle.script.specs.declared.fault.ReadFault.{ReadFault}
use Rattle.script.specs.declared.fault.Reason.TheVariants.{TooLong, BadByte, Unexpected}
use Rattle.script.specs.declared.node.Node.{Node}
use Rattle.script.specs.Faults.{fault, span}
use Rattle.script.specs.Tokens.{Token, opening, closing, word, ending, tokens}
use Rattle.script.specs.Nodes.{nodes}
use Rattle.script.specs.Reads.{Setting, printable, reading}
use Rattle.grammar.specs.Grammar.{strict, free, Says, deep}
use Rattle.grammar.specs.Walk.{State, start, step, walk}

-- each byte is one of 32 to 126
abbrev pub Printable : List ℕ → Type 0
Printable [] = Unit {0}
Printable (b ∷ bs) = (printable b ≡ true) × Printable bs

-- the text is a script that says f, with all rules and limits kept
pub record Script (S : Setting) (text : List ℕ) (f : Form) : Type 0 where
  pub short : length text ≤ 4096
  pub bytes : Printable text
  pub says : Says (strict S) S.names (tokens text) f []
  pub nests : deep f ≤ 32
  pub few : length (nodes f) ≤ 512

-- a script is accepted exactly where it is one, with that form (and so with no other)
abbrev pub AcceptsScripts : Type 0
AcceptsScripts = (S : Setting) (text : List ℕ) (f : Form) → (reading S text ≡ Ok f → Script S text f) × (Script S text f → reading S text ≡ Ok f)

-- the tokens begin a script, limits and bindings apart
abbrev pub Goes_on : Setting → List Token → Type 0
Goes_on S ws = (more : List Token) × (f : Form) × Says free S.names (ws ++ more) f []

-- with this token behind them, or with the end, they are and begin none
abbrev pub EndsHere : Setting → List Token → Token → Type 0
EndsHere S ws (opening i) = Goes_on S (ws ++ (opening i ∷ [])) → ⊥
EndsHere S ws (closing i) = Goes_on S (ws ++ (closing i ∷ [])) → ⊥
EndsHere S ws (word p w) = Goes_on S (ws ++ (word p w ∷ [])) → ⊥
EndsHere S ws (ending n) = (f : Form) → Says free S.names ws f [] → ⊥

-- The first token from the left, or the end, that breaks a rule: the tokens before it break none and begin a script; where it is told as
-- unexpected, no continuation makes them one.
pub record Stops (S : Setting) (text : List ℕ) (e : ReadFault) : Type 0 where
  pub before : List Token
  pub here : Token
  pub after : List Token
  pub at : State
  pub split : tokens text ++ (ending (length text) ∷ []) ≡ before ++ (here ∷ after)
  pub walked : walk (strict S) (start S) before ≡ Ok at
  pub breaks : step (strict S) at here ≡ Err e
  pub goes_on : Goes_on S before
  pub ends_here : e.reason ≡ Unexpected → EndsHere S before here

-- the first byte outside 32 to 126
pub record BadAt (text : List ℕ) (e : ReadFault) : Type 0 where
  pub before : List ℕ
  pub byte : ℕ
  pub after : List ℕ
  pub split : text ≡ before ++ (byte ∷ after)
  pub good : Printable before
  pub bad : printable byte ≡ false
  pub told : e ≡ fault BadByte (span (length before) 1)

-- a text that is too long, else one with a bad byte, else one that stops at a token or at its end
pub data Refused (S : Setting) (text : List ℕ) (e : ReadFault) : Type 0 where
  too_long : 4096 < length text → e ≡ fault TooLong (span 0 0) → Refused S text e
  bad_byte : length text ≤ 4096 → BadAt text e → Refused S text e
  stops : length text ≤ 4096 → Printable text → Stops S text e → Refused S text e

abbrev pub NamesTheFault : Type 0
NamesTheFault = (S : Setting) (text : List ℕ) (e : ReadFault) → reading S text ≡ Err e → Refused S text e

-- What is told of a text, with the nodes that are kept: of a script, the nodes of the one form that it says; of any other text, why it
-- is none.
abbrev pub Told : Setting → List ℕ → List Node → Result (Unit {0}) ReadFault → Type 0
Told S text kept (Ok x) = (f : Form) × Script S text f × ((g : Form) → Script S text g → g ≡ f) × (kept ≡ nodes f)
Told S text kept (Err e) = Refused S text e × ((f : Form) → Script S text f → ⊥) × (kept ≡ [])
