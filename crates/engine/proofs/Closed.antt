-- Schemes in which no code stays: they are the same in every state of a system.
use Rattle.std.proofs.Common.{ℕ, refl}
use Rattle.ground.specs.Values.{Ty, of_type}
use Rattle.ground.specs.Heads.{first_sort, second_sort}
use Rattle.ground.specs.declared.sort.Sort.{Sort}
use Rattle.ground.specs.declared.classes.Classes.{Classes}
use Rattle.system.specs.Meaning.{Kind, Valuation, Meaning}
use Rattle.engine.specs.Trees.{Tree, any, stay, leaf, over, pair, scheme, Scope, Types}
use Rattle.engine.specs.Schemes.{Mono, Reached, name, stands, first, second, TreeOf, free, held, bare, on, two}
use Rattle.engine.specs.Scopes.{Grown}
use Rattle.engine.specs.Standing.{Closed}
use Rattle.engine.proofs.TreeValues.{Even, has_even}

-- No fun or rec name is in scope.
abbrev pub NoCode : Scope → Type 0
NoCode E = (c : ℕ) → Mono E c → ⊥

none_reached : (rank : ℕ → ℕ) (m : Meaning) (E : Scope) → NoCode E → {c : ℕ} → Reached rank m E c → ⊥
none_reached rank m E n (name {c = c} x) = n c x
none_reached rank m E n (stands r s) = none_reached rank m E n r
none_reached rank m E n (first r b f) = none_reached rank m E n r
none_reached rank m E n (second r b f) = none_reached rank m E n r

pub tree_closed : (rank : ℕ → ℕ) (m : Meaning) (E : Scope) → NoCode E → {c : ℕ} {t : Tree} → TreeOf rank m E c t → Closed t
tree_closed rank m E n (free s e r) = tt
tree_closed rank m E n (held s r) = none_reached rank m E n r
tree_closed rank m E n (bare b f) = tt
tree_closed rank m E n (on b f g t) = tree_closed rank m E n t
tree_closed rank m E n (two b f g t u) = (tree_closed rank m E n t, tree_closed rank m E n u)

pub closed_grown : (K : Kind) (σ : ℕ → Sort) (κ : ℕ → Classes) (m n : Meaning) (E F : Scope) (t : Tree) (p : Sort) → Closed t → Grown K σ κ m E t p → Grown K σ κ n F t p
closed_grown K σ κ m n E F (any g o k) p c h = h
closed_grown K σ κ m n E F (stay d) p c h = absurd c
closed_grown K σ κ m n E F (leaf d s) p c h = h
closed_grown K σ κ m n E F (over d t) p c h = (h.0, h.1, h.2, h.3, closed_grown K σ κ m n E F t (first_sort d) c h.4)
closed_grown K σ κ m n E F (pair d l s t u) p c h =
    (h.0, h.1, h.2, closed_grown K σ κ m n E F t (first_sort d) c.0 h.3, closed_grown K σ κ m n E F u (second_sort d s) c.1 h.4)

closed_even : (a v w : Valuation) (t : Tree) → Closed t → Even a a v w t
closed_even a v w (any g o k) c = refl
closed_even a v w (stay d) c = absurd c
closed_even a v w (leaf d s) c = tt
closed_even a v w (over d t) c = closed_even a v w t c
closed_even a v w (pair d l s t u) c = (closed_even a v w t c.0, closed_even a v w u c.1)

pub closed_types : (t : Tree) → Closed t → (v w : Valuation) (T : Ty) → Types v (scheme t) T → Types w (scheme t) T
closed_types t c v w T h = (h.0, has_even h.0 h.0 v w t (of_type T) (closed_even h.0 v w t c) h.1)
