use Rattle.session.proofs.ReadForms.{read_proper}
use Rattle.session.proofs.read_forms.Goals as goal

pub returns : goal.returns
returns c = read_proper
