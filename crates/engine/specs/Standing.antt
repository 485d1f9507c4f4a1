-- Schemes that stand for the entries of a book: what is kept between the calls of a session.
use Rattle.std.specs.Prelude.{◌≡◌, [], ◌∷◌}
use Rattle.ground.specs.Belongs.{Env, Alike, names as names_of}
use Rattle.system.specs.Meaning.{Kind, Valuation, Meaning}
use Rattle.engine.specs.Trees.{Tree, any, stay, leaf, over, pair, Binding, code, scheme, Scope, names, env}
use Rattle.engine.specs.Scopes.{Ready}

-- No code stays in the tree, so that it means the same in every state of a system.
abbrev pub Closed : Tree → Type 0
Closed (any g o k) = Unit {0}
Closed (stay c) = ⊥
Closed (leaf h s) = Unit {0}
Closed (over h t) = Closed t
Closed (pair h l s t u) = Closed t × Closed u

-- The binding is a scheme in which no code stays.
abbrev pub Schematic : Binding → Type 0
Schematic (code c) = ⊥
Schematic (scheme t) = Closed t

-- All bindings of the scope are.
abbrev pub AllClosed : Scope → Type 0
AllClosed [] = Unit {0}
AllClosed (b ∷ bs) = Schematic b.1 × AllClosed bs

-- The scope stands for the names b with their ground types: it has these names in this order, gives each its types under every valuation, and
-- forms can be typed in it.
pub record Standing (K : Kind) (m : Meaning) (b : Env) (E : Scope) : Type 0 where
  pub named : names E ≡ names_of b
  pub types : (v : Valuation) → Alike (env v E) b
  pub closed : AllClosed E
  pub ready : Ready K m E
