-- The built-in names as schemes.
use Rattle.std.specs.Prelude.{ℕ, Bool, true, false, [], ◌∷◌, ◌++◌, codes}
use Rattle.ground.specs.Heads.{none_lacked}
use Rattle.ground.specs.declared.sort.Sort.TheVariants.{«Type» as OfType}
use Rattle.ground.specs.declared.head.Head.TheVariants.{Flag, To, List as ListOf}
use Rattle.engine.specs.Trees.{Tree, any, leaf, over, pair, scheme, Scope}

-- The one variable of such a scheme, a type, with this set of classes.
abbrev pub var : ℕ → Tree
var s = any 0 OfType (record { 0 = s })

-- A flag.
abbrev pub flags : Tree
flags = leaf Flag none_lacked

-- A function from s to t.
abbrev pub arrow : Tree → Tree → Tree
arrow s t = pair To 0 none_lacked s t

-- A list of t.
abbrev pub listed : Tree → Tree
listed t = over ListOf t

-- The names that stand below all definitions.
abbrev pub plain_scope : Scope
plain_scope =
    (codes "not", scheme (arrow flags flags))
    ∷ (codes "nil", scheme (listed (var 0)))
    ∷ (codes "cons", scheme (arrow (var 0) (arrow (listed (var 0)) (listed (var 0)))))
    ∷ []

-- The names that stand there with the four classes: the sets of the one class num, ord, eq and steady are 1, 2, 4 and 8.
abbrev pub class_scope : Scope
class_scope =
    (codes "add", scheme (arrow (var 1) (arrow (var 1) (var 1))))
    ∷ (codes "neg", scheme (arrow (var 1) (var 1)))
    ∷ (codes "less", scheme (arrow (var 2) (arrow (var 2) flags)))
    ∷ (codes "equal", scheme (arrow (var 4) (arrow (var 4) flags)))
    ∷ (codes "hold", scheme (arrow (var 8) (var 8)))
    ∷ []

-- The built-in names, with or without the four classes.
abbrev pub built_in_scope : Bool → Scope
built_in_scope true = class_scope ++ plain_scope
built_in_scope false = plain_scope
