-- A scheme as a program keeps it: the places of its tree in the order in which a copy comes to them. A large tree is cut: a copy of it is refused
-- for want of room before it comes to the cut.
use Rattle.std.specs.Prelude.{ℕ, ◌+◌, ◌*◌, max, List, [], ◌∷◌, ◌++◌, take}
use Rattle.ground.specs.Heads.{none_lacked}
use Rattle.ground.specs.declared.place.Place.{Place}
use Rattle.ground.specs.declared.sort.Sort.{Sort}
use Rattle.ground.specs.declared.sort.Labels.{Labels}
use Rattle.ground.specs.declared.classes.Classes.{Classes}
use Rattle.ground.specs.declared.head.Head.{Head}
use Rattle.system.specs.Requests.{build}
use Rattle.engine.specs.Trees.{Tree, any, stay, leaf, over, pair}
use Rattle.engine.specs.Calls.{Calls, ask, Given, got, variable}

-- One place of a scheme: a variable, a code that stays, a head without children, over the newest code, over the two newest.
pub data Item : Type 0 where
  open_item : ℕ → Sort → Classes → Item
  stay_item : ℕ → Item
  leaf_item : Head → Labels → Item
  over_item : Head → Item
  pair_item : Head → ℕ → Labels → Item

-- The places of a tree, children first, from the left.
abbrev pub items : Tree → List Item
items (any g o s) = open_item g o s ∷ []
items (stay c) = stay_item c ∷ []
items (leaf h s) = leaf_item h s ∷ []
items (over h t) = items t ++ (over_item h ∷ [])
items (pair h l s t u) = items t ++ (items u ++ (pair_item h l s ∷ []))

-- The newest of the codes made so far.
abbrev pub newest : List ℕ → ℕ
newest [] = 0
newest (c ∷ cs) = c

-- Those below the newest.
abbrev pub below : List ℕ → List ℕ
below [] = []
below (c ∷ cs) = cs

-- A copy comes to a place: the codes of its children are taken off, and its own is put on.
abbrev pub visit : Place → Item → List ℕ → Given → (List ℕ → Given → Calls) → Calls
visit p (open_item g o s) cs m k = variable (got m g) p g o s m (λ c n. k (c ∷ cs) n)
visit p (stay_item c) cs m k = k (c ∷ cs) m
visit p (leaf_item h s) cs m k = ask p (build h 0 0 0 s) (λ c. k (c ∷ cs) m)
visit p (over_item h) cs m k = ask p (build h (newest cs) 0 0 none_lacked) (λ c. k (c ∷ below cs) m)
visit p (pair_item h l s) cs m k = ask p (build h (newest (below cs)) (newest cs) l s) (λ c. k (c ∷ below (below cs)) m)

-- And to one after another.
abbrev pub visits : Place → List Item → List ℕ → Given → (List ℕ → Given → Calls) → Calls
visits p [] cs m k = k cs m
visits p (i ∷ is) cs m k = visit p i cs m (λ ds n. visits p is ds n k)

-- One for a built place: it is built again by one call.
abbrev pub cost : Item → ℕ
cost (open_item g o s) = 0
cost (stay_item c) = 0
cost (leaf_item h s) = 1
cost (over_item h) = 1
cost (pair_item h l s) = 1

-- How many of the places are built.
abbrev pub built : List Item → ℕ
built [] = 0
built (i ∷ is) = cost i + built is

-- How many codes a copy of the tree holds at once.
abbrev pub height : Tree → ℕ
height (any g o s) = 1
height (stay c) = 1
height (leaf h s) = 1
height (over h t) = height t
height (pair h l s t u) = max (height t) (1 + height u)

-- What is kept of a scheme in a system of capacity C. Of a tree with more places, more than C are built among these.
abbrev pub kept : ℕ → Tree → List Item
kept C t = take (3 * C + 4) (items t)
