use Rattle.std.proofs.Common.{◌≤◌, List, [], length, drop, Result}
use Rattle.system.specs.declared.fault.ClassFault.{ClassFault}
use Rattle.classes.specs.declared.entry.Entry.{Entry}
use Rattle.classes.specs.Following.{Followed}
use Rattle.classes.proofs.follow.followed.Given as goal

-- no more entries than were followed, and what comes of the rest comes of all
abbrev pub invariant-loop-entry : goal.invariant-loop-entry
invariant-loop-entry g l =
    (length l.next ≤ l.entry-index)
    × ((r : Result (List Entry) ClassFault) → Followed (g.S.System.meaning l.below) (drop l.entry-index l.table) l.next r → Followed (g.S.System.meaning l.below) l.table [] r)
