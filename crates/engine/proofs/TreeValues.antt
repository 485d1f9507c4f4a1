-- The value of a tree: there is at most one, and it depends on its variables and on the codes that stay.
use Rattle.std.proofs.Common.{◌≡◌, ℕ, sym, refl, ◌∙◌}
use mathlib.Core.Option.{some}
use Rattle.ground.specs.Values.{Value}
use Rattle.ground.specs.Heads.{first_sort, second_sort}
use Rattle.ground.specs.declared.sort.Sort.{Sort}
use Rattle.ground.specs.declared.classes.Classes.{Classes}
use Rattle.ground.proofs.Built.{builds_swap, builds_one}
use Rattle.system.specs.Meaning.{Kind, Valuation, Meaning}
use Rattle.engine.specs.Trees.{Tree, any, stay, leaf, over, pair, Has, Scope}
use Rattle.engine.specs.Scopes.{Level, Grown}
use Rattle.engine.proofs.FewChildren.{builds_leaf}

-- The valuations a and b agree on the variables of the tree, v and w on its codes that stay.
abbrev pub Even : Valuation → Valuation → Valuation → Valuation → Tree → Type 0
Even a b v w (any g o k) = a g ≡ b g
Even a b v w (stay c) = v c ≡ w c
Even a b v w (leaf h s) = Unit {0}
Even a b v w (over h t) = Even a b v w t
Even a b v w (pair h l s t u) = Even a b v w t × Even a b v w u

pub has_even : (a b v w : Valuation) (t : Tree) (x : Value) → Even a b v w t → Has a v t x → Has b w t x
has_even a b v w (any g o k) x e h = (h.0 ∙ e, h.1, h.2)
has_even a b v w (stay c) x e h = h ∙ e
has_even a b v w (leaf d s) x e h = h
has_even a b v w (over d t) x e h = (h.0, has_even a b v w t h.0 e h.1, h.2)
has_even a b v w (pair d l s t u) x e h = (h.0, h.1, has_even a b v w t h.0 e.0 h.2, has_even a b v w u h.1 e.1 h.3, h.4)

pub grown_even : (K : Kind) (σ : ℕ → Sort) (κ : ℕ → Classes) (m : Meaning) (E : Scope) (a v w : Valuation) (t : Tree) (p : Sort)
    → Grown K σ κ m E t p → m.state.solves v → m.state.solves w → Level v w E → Even a a v w t
grown_even K σ κ m E a v w (any g o k) p h sv sw l = refl
grown_even K σ κ m E a v w (stay c) p h sv sw l = h.1 v w sv sw l
grown_even K σ κ m E a v w (leaf d s) p h sv sw l = tt
grown_even K σ κ m E a v w (over d t) p h sv sw l = grown_even K σ κ m E a v w t (first_sort d) h.4 sv sw l
grown_even K σ κ m E a v w (pair d i s t u) p h sv sw l =
    (grown_even K σ κ m E a v w t (first_sort d) h.3 sv sw l, grown_even K σ κ m E a v w u (second_sort d s) h.4 sv sw l)

-- What can be copied can be copied in a later meaning, which has no more solutions.
pub grown_later : (K : Kind) (σ : ℕ → Sort) (κ : ℕ → Classes) (m n : Meaning) (E : Scope)
    → ((c : ℕ) (o : Sort) → m.state.sort_of c ≡ some o → n.state.sort_of c ≡ some o) → ((v : Valuation) → n.state.solves v → m.state.solves v)
    → (t : Tree) (p : Sort) → Grown K σ κ m E t p → Grown K σ κ n E t p
grown_later K σ κ m n E old down (any g o k) p h = h
grown_later K σ κ m n E old down (stay c) p h = (old c p h.0, λ v w sv sw l. h.1 v w (down v sv) (down w sw) l)
grown_later K σ κ m n E old down (leaf d s) p h = h
grown_later K σ κ m n E old down (over d t) p h = (h.0, h.1, h.2, h.3, grown_later K σ κ m n E old down t (first_sort d) h.4)
grown_later K σ κ m n E old down (pair d l s t u) p h =
    (h.0, h.1, h.2, grown_later K σ κ m n E old down t (first_sort d) h.3, grown_later K σ κ m n E old down u (second_sort d s) h.4)

-- There is at most one value.
pub has_one : (K : Kind) (σ : ℕ → Sort) (κ : ℕ → Classes) (m : Meaning) (E : Scope) (a v : Valuation) (t : Tree) (p : Sort) (x y : Value)
    → Grown K σ κ m E t p → Has a v t x → Has a v t y → x ≡ y
has_one K σ κ m E a v (any g o k) p x y r h d = h.0 ∙ sym d.0
has_one K σ κ m E a v (stay c) p x y r h d = h ∙ sym d
has_one K σ κ m E a v (leaf i s) p x y r h d = builds_one i 0 x x x y h (builds_leaf i 0 0 y y x x y r.1 d)
has_one K σ κ m E a v (over i t) p x y r h d =
    let e = has_one K σ κ m E a v t (first_sort i) d.0 h.0 r.4 d.1 h.1 in
    builds_one i 0 h.0 h.0 x y h.2 (builds_swap i 0 d.0 d.0 h.0 h.0 y (λ f. e) (λ f. e) d.2)
has_one K σ κ m E a v (pair i l s t u) p x y r h d =
    let e = has_one K σ κ m E a v t (first_sort i) d.0 h.0 r.3 d.2 h.2 in
    let g = has_one K σ κ m E a v u (second_sort i s) d.1 h.1 r.4 d.3 h.3 in
    builds_one i l h.0 h.1 x y h.4 (builds_swap i l d.0 d.1 h.0 h.1 y (λ f. e) (λ f. g) d.4)
