-- What a source stands for.
use Rattle.std.specs.Prelude.{◌++◌, vec_items}
use Rattle.ground.specs.Names.{texts, built_in_list}
use Rattle.script.specs.Reads.{Setting}
use Rattle.script.specs.declared.source.Source.{Source}

abbrev pub setting_of : Source → Setting
setting_of s = record { records = s.records; sheet = texts (vec_items s.sheet.now.labels); names = texts s.defined.now ++ built_in_list s.classes }
