-- A scheme as it was bound: the tree of a code's type, with its generalised variables and the codes that stay; and scopes of names bound so.
use Rattle.std.specs.Prelude.{◌≡◌, ℕ, List, [], ◌∷◌}
use Rattle.ground.specs.Values.{Ty, Value, of_type}
use Rattle.ground.specs.Sorts.{Of}
use Rattle.ground.specs.Classes.{Allowed}
use Rattle.ground.specs.Heads.{Builds}
use Rattle.ground.specs.Names.{Name}
use Rattle.ground.specs.Belongs.{Env}
use Rattle.ground.specs.declared.sort.Sort.{Sort}
use Rattle.ground.specs.declared.sort.Labels.{Labels}
use Rattle.ground.specs.declared.classes.Classes.{Classes}
use Rattle.ground.specs.declared.head.Head.{Head}
use Rattle.system.specs.Meaning.{Valuation}

-- A tree of places. One code may stand behind several places: each is a place of its own.
pub data Tree : Type 0 where
  -- a generalised variable, told by the open code that it was, with its sort and its classes
  any : ℕ → Sort → Classes → Tree
  -- an open code that stays as it is
  stay : ℕ → Tree
  -- a head without children, with the labels that it lacks
  leaf : Head → Labels → Tree
  -- a head over one child
  over : Head → Tree → Tree
  -- a head over two children, with its label and the labels that the second child lacks
  pair : Head → ℕ → Labels → Tree → Tree → Tree

-- The tree has the value x where a gives its variables and v the codes that stay.
abbrev pub Has : Valuation → Valuation → Tree → Value → Type 0
Has a v (any g o k) x = (x ≡ a g) × Of o x × Allowed k x
Has a v (stay c) x = x ≡ v c
Has a v (leaf h m) x = Builds h 0 x x x
Has a v (over h t) x = (y : Value) × Has a v t y × Builds h 0 y y x
Has a v (pair h l m s t) x = (y : Value) × (z : Value) × Has a v s y × Has a v t z × Builds h l y z x

-- A name of fun or rec is bound to the code of its type, any other name to a scheme.
pub data Binding : Type 0 where
  code : ℕ → Binding
  scheme : Tree → Binding

-- Names with what they are bound to, the innermost first.
abbrev pub Scope : Type 0
Scope = List (Name × Binding)

-- The names of a scope, in its order.
abbrev pub names : Scope → List Name
names [] = []
names (b ∷ bs) = b.0 ∷ names bs

-- The ground types of a binding under a solution: the one type of a code; the types of a scheme, its variables being whatever they may be.
abbrev pub Types : Valuation → Binding → Ty → Type 0
Types v (code c) T = v c ≡ of_type T
Types v (scheme t) T = (a : Valuation) × Has a v t (of_type T)

-- The names of a scope with their ground types under a solution.
abbrev pub env : Valuation → Scope → Env
env v [] = []
env v (b ∷ bs) = (b.0, Types v b.1) ∷ env v bs
