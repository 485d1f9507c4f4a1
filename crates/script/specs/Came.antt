-- What a program that reads answers, beside what is read.
use Rattle.std.specs.Prelude.{◌≡◌, ℕ, ◌≤◌, List, [], ◌∷◌, ◌++◌, length, Ok, Err, Result}
use Rattle.ground.specs.declared.place.Place.{Place}
use Rattle.ground.specs.declared.name.Name.{Name as Packed}
use Rattle.ground.specs.Names.{Name, pack}
use Rattle.ground.specs.Forms.{Form}
use Rattle.script.specs.declared.fault.ReadFault.{ReadFault}
use Rattle.script.specs.declared.node.Node.{Node}
use Rattle.script.specs.declared.node.Item.{Item}
use Rattle.script.specs.declared.seen.Seen.{Seen}
use Rattle.script.specs.Faults.{Out}
use Rattle.script.specs.Tokens.{Token, rest}
use Rattle.script.specs.Nodes.{node, nodes, all_nodes}
use Rattle.script.specs.Parts.{Pieces}

-- a value read by tokens, told with the byte behind it
abbrev pub on_tokens : {A : Type 0} → List ℕ → Result (A × ℕ) ReadFault → Out (A × List Token)
on_tokens text (Ok x) = Ok (x.0, rest text x.1)
on_tokens text (Err e) = Err e

-- the same for a name as a program holds it
abbrev pub CameName : List ℕ → Result (Packed × ℕ) ReadFault → Out (Name × List Token) → Type 0
CameName text (Ok x) o = (w : Name) × (o ≡ Ok (w, rest text x.1)) × (x.0 ≡ pack w) × (length w ≤ 12)
CameName text (Err e) o = o ≡ Err e

-- a word that is a form by itself, told as the item of its node
abbrev pub CameLeaf : Place → Result Item ReadFault → Out Form → Type 0
CameLeaf p (Ok i) o = (f : Form) × (o ≡ Ok f) × (nodes f ≡ node p i ∷ [])
CameLeaf p (Err e) o = o ≡ Err e

-- a form whose nodes were put behind those there were, told by the byte behind it
abbrev pub CameForm : List ℕ → List Node → List Node → Result ℕ ReadFault → Out (Form × List Token) → Type 0
CameForm text before after (Ok at) o = (f : Form) × (o ≡ Ok (f, rest text at)) × (after ≡ before ++ nodes f)
CameForm text before after (Err e) o = o ≡ Err e

-- what stands behind a keyword, likewise
abbrev pub CameParts : List ℕ → List Node → List Node → Result (Seen × ℕ) ReadFault → Out (Pieces × List Token) → Type 0
CameParts text before after (Ok x) o =
    (q : Pieces) × (o ≡ Ok (q, rest text x.1)) × (after ≡ before ++ all_nodes q.forms) × (x.0.binder ≡ pack q.binder) × (x.0.label ≡ q.label)
CameParts text before after (Err e) o = o ≡ Err e
