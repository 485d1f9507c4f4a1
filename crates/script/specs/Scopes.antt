-- The names that are bound where a script is read.
use Rattle.std.specs.Prelude.{List, [], ◌∷◌}
use Rattle.ground.specs.Names.{Name, text}
use Rattle.ground.specs.declared.name.Name.{Name as Packed}
use Rattle.script.specs.declared.source.Source.{Source}
use Rattle.script.specs.Settings.{setting_of}

-- names bound one after another over others: the last is the innermost
abbrev pub over : List Packed → List Name → List Name
over [] ns = ns
over (p ∷ ps) ns = over ps (text p ∷ ns)

-- the names of a scope, the innermost last, over those that a source is read with
abbrev pub in_scope : List Packed → Source → List Name
in_scope ps src = over ps (setting_of src).names
