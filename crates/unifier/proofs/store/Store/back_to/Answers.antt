use Rattle.std.proofs.Common.{◌≡◌, length, take, drop, vec_items, vec_len, ap, arith, rules, length-take}
use Rattle.unifier.specs.Trails.{rewound}
use Rattle.unifier.proofs.Trailing.{length_rewound}
use Rattle.unifier.proofs.store.Store.back_to.Goals as goal

pub invariant_of-self-clause-within : goal.invariant_of-self-clause-within
invariant_of-self-clause-within c =
    let s = c.args.self.now in
    let cs = vec_items s.cells in
    let es = drop c.args.m (vec_items s.trail) in
    let n : vec_len s.cells ≡ length cs = search rules in
    let k : vec_len c.unwind.new.cells ≡ length (vec_items c.unwind.new.cells) = search rules in
    let e : length (vec_items c.unwind.new.cells) ≡ length (take c.args.n (rewound cs es)) = ap length c.unwind.ensures.cells in
    omega (arith, n, k, e, length-take c.args.n (rewound cs es), length_rewound cs es, s.within)
