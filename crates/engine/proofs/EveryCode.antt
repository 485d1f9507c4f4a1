-- Each known code has a scheme, where it can be told of each open code whether it is reached.
use Rattle.std.proofs.Common.{◌≡◌, ℕ, zero, suc, ◌<◌, Bool, true, false, ◌⊎◌, refl, inl, inr, arith}
use Rattle.ground.specs.Heads.{has_first, has_second, first_sort, second_sort}
use Rattle.ground.specs.declared.classes.Classes.{Classes}
use Rattle.ground.specs.declared.head.Head.{Head}
use Rattle.system.specs.Meaning.{Kind, Meaning, Sound, Known, Listed}
use Rattle.system.specs.Replies.{Shaped, Looks, open_code, built}
use Rattle.system.proofs.Takes.{takes_first, takes_second}
use Rattle.engine.specs.Trees.{Tree, any, stay, leaf, over, pair, Scope}
use Rattle.engine.specs.Schemes.{Reached, TreeOf, free, held, bare, on, two}

module _ (K : Kind) (rank : ℕ → ℕ) (m : Meaning) (E : Scope) (snd : Sound K m) where
  module _ (looks : (c : ℕ) → Known m.state c → Looks rank m c) (tell : (d : ℕ) (k : Classes) → Listed m.state.opens d k → Reached rank m E d ⊎ (Reached rank m E d → ⊥)) where
    tree_below : (n c : ℕ) → rank c < n → Known m.state c → (t : Tree) × TreeOf rank m E c t
    tree_below zero c lt kn = absurd (omega arith)
    tree_below (suc n) c lt kn = go (looks c kn) (tree_below n)
      where
        shape : (h : Head) (x y l : ℕ) → Shaped rank m c h x y l → ((d : ℕ) → rank d < n → Known m.state d → (t : Tree) × TreeOf rank m E d t)
            → (p q : Bool) → has_first h ≡ p → has_second h ≡ q → (t : Tree) × TreeOf rank m E c t
        shape h x y l b ih false q e f = (leaf h b.lacked, bare b e)
        shape h x y l b ih true false e f =
            let z = b.first_falls e in
            let t = ih x (omega arith) (first_sort h, takes_first m.state h x y l b.lacked b.takes e) in
            (over h t.0, on b e f t.1)
        shape h x y l b ih true true e f =
            let z = b.first_falls e in
            let i = b.second_falls f in
            let t = ih x (omega arith) (first_sort h, takes_first m.state h x y l b.lacked b.takes e) in
            let u = ih y (omega arith) (second_sort h b.lacked, takes_second m.state h x y l b.lacked b.takes f) in
            (pair h l b.lacked t.0 u.0, two b e f t.1 u.1)

        go : Looks rank m c → ((d : ℕ) → rank d < n → Known m.state d → (t : Tree) × TreeOf rank m E d t) → (t : Tree) × TreeOf rank m E c t
        go (open_code d k s) ih = elim (tell d k s.listed) [
          | inl r ↦ (stay d, held s r)
          | inr r ↦ let o = snd.known d k s.listed in (any d o.0 k, free s o.1 r)
        ]
        go (built h x y l b) ih = shape h x y l b ih (has_first h) (has_second h) refl refl

    pub tree_exists : (c : ℕ) → Known m.state c → (t : Tree) × TreeOf rank m E c t
    tree_exists c kn = tree_below (suc (rank c)) c (omega arith) kn
