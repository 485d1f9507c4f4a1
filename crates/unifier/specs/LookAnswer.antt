-- The answer of look, by the root that was found.
use Rattle.std.specs.Prelude.{◌≡◌, ℕ, zero, suc, ◌<◌, List, length, Ok, refl}
use Rattle.std.proofs.Common.{ap, arith}
use Rattle.system.specs.Faults.{system_number, system_layer}
use Rattle.system.specs.Replies.{Looked, Looks}
use Rattle.system.specs.declared.fault.SystemFault.{SystemFault}
use Rattle.cells.specs.declared.What.{What}
use Rattle.cells.specs.declared.What.TheVariants.{Open, Link, Leaf, One, Two, Row as RowAt}
use Rattle.cells.specs.declared.Cell.{Cell}
use Rattle.cells.specs.Cells.{what_at, sort_at, Root, rootly, Leads, stay, on, Formed, Refers}
use Rattle.cells.specs.Weights.{Lower, Falls}
use Rattle.unifier.specs.declared.undo.Undo.{Undo}
use Rattle.unifier.specs.declared.saved.Saved.{Saved}
use Rattle.unifier.specs.States.{meaning_of, Good}
use Rattle.unifier.specs.Solvers.{height}
use Rattle.unifier.specs.Views.{viewed}
use Rattle.unifier.specs.Codes.{code_known}
use Rattle.unifier.specs.Looking.{look_open, look_leaf, look_one, look_two, look_row, looks_at}

pub look_answer : (h z n : ℕ) (cs : List (Cell ℕ)) (tr : List Undo) (ss : List Saved) → Good h z n cs tr ss → (c r : ℕ) → 0 < c → c < length cs → r < length cs → Leads cs c r → (w : What ℕ) → what_at cs r ≡ w → Root w
    → Looked {F = SystemFault} (λ f. system_number f) (λ f. system_layer f) (height cs (suc z)) (meaning_of z n cs tr ss) c (Ok (viewed r w))
look_answer h z n cs tr ss good c r cp cl rl l Open e q = ((sort_at cs c, code_known cs c cp cl), look_open h z n cs tr ss good c cp cl r rl l e)
look_answer h z n cs tr ss good c r cp cl rl l (Link p) e q = absurd (let y : ⊥ = omega (arith, q) in y)
look_answer h z n cs tr ss good c r cp cl rl l (Leaf k) e q = ((sort_at cs c, code_known cs c cp cl), look_leaf h z n cs tr ss good c cp cl r rl l k e)
look_answer h z n cs tr ss good c r cp cl rl l (One k x) e q = ((sort_at cs c, code_known cs c cp cl), look_one h z n cs tr ss good c cp cl r rl l k x e)
look_answer h z n cs tr ss good c r cp cl rl l (Two x y) e q = ((sort_at cs c, code_known cs c cp cl), look_two h z n cs tr ss good c cp cl r rl l x y e)
look_answer h z n cs tr ss good c r cp cl rl l (RowAt k x y) e q = ((sort_at cs c, code_known cs c cp cl), look_row h z n cs tr ss good c cp cl r rl l k x y e)

-- links lead to a root, since a number falls along them
rooted : (cs : List (Cell ℕ)) (k : ℕ → ℕ) → Falls cs k → Formed cs → (m c i : ℕ) → Leads cs c i → i < length cs → k i < m → (r : ℕ) × (r < length cs) × Leads cs c r × Root (what_at cs r)
rooted cs k falls f zero c i l il b = absurd (let y : ⊥ = omega arith in y)
rooted cs k falls f (suc m) c i l il b = go (λ p q pl pb. rooted cs k falls f m c p q pl pb) (what_at cs i) refl (falls i) (f.refers i il)
  where
    go : ((p : ℕ) → Leads cs c p → p < length cs → k p < m → (r : ℕ) × (r < length cs) × Leads cs c r × Root (what_at cs r)) → (w : What ℕ) → what_at cs i ≡ w → Lower k i w → Refers cs i w → (r : ℕ) × (r < length cs) × Leads cs c r × Root (what_at cs r)
    go ih Open e lo q = (i, il, l, ap rootly e)
    go ih (Link p) e lo q = ih p (on l e) q.0 (omega (arith, lo, b))
    go ih (Leaf h) e lo q = (i, il, l, ap rootly e)
    go ih (One h x) e lo q = (i, il, l, ap rootly e)
    go ih (Two x y) e lo q = (i, il, l, ap rootly e)
    go ih (RowAt h x y) e lo q = (i, il, l, ap rootly e)

pub looks : (h z n : ℕ) (cs : List (Cell ℕ)) (tr : List Undo) (ss : List Saved) → Good h z n cs tr ss → (c : ℕ) → 0 < c → c < length cs → Looks (height cs (suc z)) (meaning_of z n cs tr ss) c
looks h z n cs tr ss good c cp cl =
    let k = good.sane.order in
    let r = rooted cs k good.sane.falls good.sane.fine.formed (suc (k c)) c c stay cl (omega arith) in
    looks_at h z n cs tr ss good c cp cl r.0 r.1 r.2 r.3
