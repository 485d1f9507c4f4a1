use Rattle.std.proofs.Common.{◌+◌, ◌*◌}
use Rattle.values.specs.Tokens.{Begins}
use Rattle.values.proofs.value.+put_field_put_head_put_row_put_type.Given as goal

abbrev pub decreases-put_type : goal.decreases-put_type
decreases-put_type g l = 4 * l.levels

abbrev pub decreases-put_field : goal.decreases-put_field
decreases-put_field g l = 4 * l.levels + 1

abbrev pub decreases-put_row : goal.decreases-put_row
decreases-put_row g l = 4 * l.levels + 2

abbrev pub decreases-put_head : goal.decreases-put_head
decreases-put_head g l = 4 * l.levels + 3

abbrev pub invariant-put_row-loop-label : goal.invariant-put_row-loop-label
invariant-put_row-loop-label g l = Begins l.initial.tokens.list.items l.tokens.list.items
