-- The laws of a system hold of every solver.
use Rattle.std.specs.Prelude.{◌≡◌, ℕ, suc, ◌+◌, ◌-◌, ◌≤◌, vec_items}
use Rattle.std.proofs.Common.{subst, arith}
use Rattle.system.specs.Meaning.{Sound, Known}
use Rattle.system.specs.Replies.{kind_of, Looks}
use Rattle.unifier.specs.declared.solver.Solver.{Solver}
use Rattle.unifier.specs.Solvers.{means, sure, ranks, height}
use Rattle.unifier.specs.Codes.{known_code}
use Rattle.unifier.specs.Heights.{height_most}
use Rattle.unifier.specs.Sound.{sound}
use Rattle.unifier.specs.LookAnswer.{looks}

pub solver_sound : (h : ℕ) (s : Solver h) → sure h s → Sound (kind_of h 0) (means h s)
solver_sound h s k = sound h (s.store.limit - 1) s.calls (vec_items s.store.cells) (vec_items s.store.trail) (vec_items s.saved) k

pub solver_looks : (h : ℕ) (s : Solver h) (c : ℕ) → sure h s → Known (means h s).state c → Looks (ranks h s) (means h s) c
solver_looks h s c k i =
    let cs = vec_items s.store.cells in
    let r = known_code cs c i.0 i.1 in
    let one : suc (s.store.limit - 1) ≡ s.store.limit = omega (arith, k.least) in
    subst (λ (m : ℕ). Looks (height cs m) (means h s) c) one (looks h (s.store.limit - 1) s.calls cs (vec_items s.store.trail) (vec_items s.saved) k c r.0 r.1)

pub solver_shallow : (h : ℕ) (s : Solver h) (c : ℕ) → sure h s → ranks h s c ≤ (means h s).capacity + 1
solver_shallow h s c k = omega (arith, height_most (vec_items s.store.cells) s.store.limit c, k.least)
