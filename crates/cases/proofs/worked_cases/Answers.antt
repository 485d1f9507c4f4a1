use Rattle.cases.proofs.Reading.{reads}
use Rattle.cases.proofs.Belonging.{types}
use Rattle.cases.proofs.Names.{plain_names, class_names, no_class_names}
use Rattle.cases.proofs.worked_cases.Goals as goal

pub returns : goal.returns
returns c = record { read = reads; typed = types; names = plain_names; class_names = class_names; no_class_names = no_class_names }
