use Rattle.std.proofs.Common.{◌+◌, ◌*◌}
use Rattle.hmx.proofs.spell.Speller.+bracketed_form_forms.Given as goal

abbrev pub decreases-form : goal.decreases-form
decreases-form g l = 3 * l.fuel

abbrev pub decreases-forms : goal.decreases-forms
decreases-forms g l = 3 * l.fuel + 1

abbrev pub decreases-bracketed : goal.decreases-bracketed
decreases-bracketed g l = 3 * l.fuel + 2
