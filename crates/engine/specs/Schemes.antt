-- The scheme of a code, as it is looked at: the tree of its type. The open codes that no fun or rec name reaches are its variables, the others stay.
use Rattle.std.specs.Prelude.{◌≡◌, ℕ, true, false, ◌⊎◌, [], ◌∷◌}
use Rattle.std.proofs.Math.Option.{some}
use Rattle.ground.specs.Heads.{has_first, has_second}
use Rattle.ground.specs.declared.sort.Sort.{Sort}
use Rattle.ground.specs.declared.classes.Classes.{Classes}
use Rattle.ground.specs.declared.head.Head.{Head}
use Rattle.system.specs.Meaning.{Meaning}
use Rattle.system.specs.Replies.{Stands, Shaped}
use Rattle.engine.specs.Trees.{Tree, any, stay, leaf, over, pair, Binding, code, scheme, Scope}

-- The binding is the code c of a fun or rec name.
abbrev pub Bears : Binding → ℕ → Type 0
Bears (code d) c = d ≡ c
Bears (scheme t) c = ⊥

-- c is the code of a fun or rec name of the scope, hidden by an inner name or not. The scope of a form has the names whose bodies it stands in.
abbrev pub Mono : Scope → ℕ → Type 0
Mono [] c = ⊥
Mono (b ∷ bs) c = Bears b.1 c ⊎ Mono bs c

-- In the meaning m, under the names of the scope E; the rank is the system's, which falls from a head to its children.
module _ (rank : ℕ → ℕ) (m : Meaning) (E : Scope) where
  -- The code is reached from a fun or rec name, step by step as looks go.
  pub data Reached : ℕ → Type 0 where
    name : {c : ℕ} → Mono E c → Reached c
    stands : {c d : ℕ} {k : Classes} → Reached c → Stands m c d k → Reached d
    first : {c x y l : ℕ} {h : Head} → Reached c → Shaped rank m c h x y l → has_first h ≡ true → Reached x
    second : {c x y l : ℕ} {h : Head} → Reached c → Shaped rank m c h x y l → has_second h ≡ true → Reached y

  -- The tree is that of the code.
  pub data TreeOf : ℕ → Tree → Type 0 where
    -- an open code that is not reached is a variable
    free : {c d : ℕ} {k : Classes} {o : Sort} → Stands m c d k → m.state.sort_of d ≡ some o → (Reached d → ⊥) → TreeOf c (any d o k)
    -- one that is reached stays
    held : {c d : ℕ} {k : Classes} → Stands m c d k → Reached d → TreeOf c (stay d)
    -- a head without children, with one, with two
    bare : {c x y l : ℕ} {h : Head} → (b : Shaped rank m c h x y l) → has_first h ≡ false → TreeOf c (leaf h b.lacked)
    on :
        {c x y l : ℕ} {h : Head} {t : Tree}
        → Shaped rank m c h x y l
        → has_first h ≡ true
        → has_second h ≡ false
        → TreeOf x t
        → TreeOf c (over h t)
    two :
        {c x y l : ℕ} {h : Head} {t u : Tree}
        → (b : Shaped rank m c h x y l)
        → has_first h ≡ true
        → has_second h ≡ true
        → TreeOf x t
        → TreeOf y u
        → TreeOf c (pair h l b.lacked t u)

-- The scheme of a code in a state of a system, under the names of a scope.
module _ {S : Type 0} (meaning : S → Meaning) (rank : S → ℕ → ℕ) where
  abbrev pub Scheme : S → ℕ → Scope → Tree → Type 0
  Scheme s c E t = TreeOf (rank s) (meaning s) E c t
