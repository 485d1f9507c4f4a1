use Rattle.std.proofs.Common.{◌+◌, ◌*◌, length}
use Rattle.script.proofs.reader.Reader.+read_body_read_bracketed_read_form_read_parts.Given as goal

abbrev pub decreases-read_form : goal.decreases-read_form
decreases-read_form l = 8 * l.depth

abbrev pub decreases-read_body : goal.decreases-read_body
decreases-read_body l = 8 * l.depth + 1

abbrev pub decreases-read_parts : goal.decreases-read_parts
decreases-read_parts l = 8 * l.depth + (2 + length l.parts.now)

abbrev pub decreases-read_bracketed : goal.decreases-read_bracketed
decreases-read_bracketed l = 8 * l.depth + 7
