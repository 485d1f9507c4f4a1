-- A form as the list of its nodes: itself, and then its sub-forms from the left.
use Rattle.std.specs.Prelude.{List, [], ◌∷◌, ◌++◌}
use Rattle.ground.specs.declared.place.Place.{Place}
use Rattle.ground.specs.Names.{pack}
use Rattle.ground.specs.Forms.{Form, name, number, tenths, truth, fun, call, let_in, fix, if_then, empty_record, extend, select, remove}
use Rattle.script.specs.declared.node.Node.{Node}
use Rattle.script.specs.declared.node.Item.{Item}
use Rattle.script.specs.declared.node.Item.TheVariants.{Whole, Tenths, Truth, Name, Fun, Call, Let, Rec, If, Record, With, Get, Drop}

abbrev pub node : Place → Item → Node
node p i = record { place = p; item = i }

abbrev pub nodes : Form → List Node
nodes (name p n) = node p (Name (pack n)) ∷ []
nodes (number p z) = node p (Whole z) ∷ []
nodes (tenths p z) = node p (Tenths z) ∷ []
nodes (truth p b) = node p (Truth b) ∷ []
nodes (fun p n B) = node p (Fun (pack n)) ∷ nodes B
nodes (call p F S) = node p Call ∷ (nodes F ++ nodes S)
nodes (let_in p n S B) = node p (Let (pack n)) ∷ (nodes S ++ nodes B)
nodes (fix p n B) = node p (Rec (pack n)) ∷ nodes B
nodes (if_then p C S B) = node p If ∷ (nodes C ++ (nodes S ++ nodes B))
nodes (empty_record p) = node p Record ∷ []
nodes (extend p R l S) = node p (With l) ∷ (nodes R ++ nodes S)
nodes (select p R l) = node p (Get l) ∷ nodes R
nodes (remove p R l) = node p (Drop l) ∷ nodes R

-- the nodes of forms one after another
abbrev pub all_nodes : List Form → List Node
all_nodes [] = []
all_nodes (f ∷ fs) = nodes f ++ all_nodes fs
