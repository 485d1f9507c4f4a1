use Rattle.std.proofs.Common.{◌≡◌, ◌+◌, ◌*◌, ◌≤◌, length}
use Rattle.calls.specs.Levels.{level}
use Rattle.calls.proofs.session.Session.+hear_hear_mark_hear_under.Given as goal

abbrev pub decreases-hear : goal.decreases-hear
decreases-hear g l = 3 * length l.lines.rest.now

abbrev pub decreases-hear_under : goal.decreases-hear_under
decreases-hear_under g l = 3 * length l.lines.rest.now + 1

abbrev pub decreases-hear_mark : goal.decreases-hear_mark
decreases-hear_mark g l = 3 * length l.lines.rest.now + 2

abbrev pub invariant-hear-loop-text : goal.invariant-hear-loop-text
invariant-hear-loop-text g l =
    g.S.System.ok l.self.system
    × (level (g.S.System.meaning l.self.system) ≡ level (g.S.System.meaning l.initial.self.system))
    × (length l.lines.rest.now ≤ length l.fn.lines.rest.now)
    × (length l.before.rest.now ≤ length l.fn.lines.rest.now)

abbrev pub decreases-hear-loop-text : goal.decreases-hear-loop-text
decreases-hear-loop-text g l = length l.lines.rest.now
