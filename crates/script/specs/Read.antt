-- What a reader answers and keeps.
use Rattle.std.specs.Prelude.{◌≡◌, List, [], Ok, Err, Result}
use Rattle.ground.specs.Forms.{Form}
use Rattle.script.specs.declared.fault.ReadFault.{ReadFault}
use Rattle.script.specs.declared.node.Node.{Node}
use Rattle.script.specs.Faults.{Out}
use Rattle.script.specs.Nodes.{nodes}

-- that there was a form, or the fault
abbrev pub answered : Out Form → Result (Unit {0}) ReadFault
answered (Ok f) = Ok tt
answered (Err e) = Err e

-- the nodes of the form, none where there was a fault
abbrev pub nodes_read : Out Form → List Node
nodes_read (Ok f) = nodes f
nodes_read (Err e) = []

abbrev pub CameScript : List Node → Result (Unit {0}) ReadFault → Out Form → Type 0
CameScript after (Ok x) o = (f : Form) × (o ≡ Ok f) × (after ≡ nodes f)
CameScript after (Err e) o = o ≡ Err e
