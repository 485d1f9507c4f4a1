use Rattle.std.proofs.Common.{vec_items}
use Rattle.script.specs.Settings.{setting_of}
use Rattle.grammar.proofs.Telling.{told}
use Rattle.grammar.proofs.read_script.Goals as goal

pub returns : goal.returns
returns c =
    told (setting_of c.args.source.now) c.args.source.now.text.now (vec_items c.read.new.self.nodes) c.read.result c.read.ensures.answer c.read.ensures.nodes
