use Rattle.std.proofs.Common.{◌≡◌, ◌≤◌, take, drop, vec_items, vec_len, vec_capacity}
use Rattle.unifier.specs.Trails.{rewound}
use Rattle.unifier.proofs.back.unwind.Given as goal

abbrev pub invariant-loop-trail : goal.invariant-loop-trail
invariant-loop-trail l =
    (l.m ≤ vec_len l.trail)
    × (rewound (vec_items l.cells) (drop l.m (vec_items l.trail)) ≡ rewound (vec_items l.initial.cells) (drop l.m (vec_items l.initial.trail)))
    × (take l.m (vec_items l.trail) ≡ take l.m (vec_items l.initial.trail))
    × (vec_capacity l.cells ≡ vec_capacity l.initial.cells)
    × (vec_capacity l.trail ≡ vec_capacity l.initial.trail)

abbrev pub decreases-loop-trail : goal.decreases-loop-trail
decreases-loop-trail l = vec_len l.trail
