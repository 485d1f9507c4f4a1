-- The trail: what each written cell was, and what of the cells every write keeps.
use Rattle.std.specs.Prelude.{◌≡◌, ℕ, ◌+◌, ◌*◌, ◌<◌, ◌≤◌, List, [], ◌∷◌, ◌++◌, length, slice_set}
use Rattle.cells.specs.declared.What.{What}
use Rattle.cells.specs.declared.What.TheVariants.{Open, Link, Leaf, One, Two, Row as RowAt}
use Rattle.cells.specs.declared.Cell.{Cell}
use Rattle.cells.specs.Cells.{what_at, sort_at}
use Rattle.unifier.specs.declared.undo.Undo.{Undo}
use Rattle.cells.specs.declared.Bare.{Bare}

-- the cells before these entries were written, the oldest first
abbrev pub rewound : List (Cell ℕ) → List Undo → List (Cell ℕ)
rewound cs [] = cs
rewound cs (e ∷ es) = slice_set (rewound cs es) e.at e.was

abbrev pub Under : ℕ → List Undo → Type 0
Under n [] = Unit {0}
Under n (e ∷ es) = (e.at < n) × Under n es

-- a root that may be linked to another: leaves stay where they are
abbrev pub Movable : What ℕ → Type 0
Movable Open = Unit {0}
Movable (Link p) = ⊥
Movable (Leaf h) = ⊥
Movable (One h x) = Unit {0}
Movable (Two x y) = Unit {0}
Movable (RowAt l x y) = Unit {0}

-- how many entries a cell may still bring to the trail: two when it is linked, one when it is made empty
abbrev pub due : What ℕ → ℕ
due Open = 3
due (Link p) = 0
due (Leaf h) = 2
due (One h x) = 2
due (Two x y) = 2
due (RowAt l x y) = 2

abbrev pub dues : List (Cell ℕ) → ℕ
dues [] = 0
dues (c ∷ cs) = due c.what + dues cs

-- so three entries for each cell suffice
abbrev pub Roomy : List (Cell ℕ) → List Undo → Type 0
Roomy cs tr = length tr + dues cs ≤ 3 * length cs

-- from cells and trail to later ones: by new cells, and by writes that the trail undoes
pub record Since (cs : List (Cell ℕ)) (tr : List Undo) (ds : List (Cell ℕ)) (ts : List Undo) : Type 0 where
  pub new : List Undo
  pub extra : List (Cell ℕ)
  pub trail : ts ≡ tr ++ new
  pub undoes : rewound ds new ≡ cs ++ extra
  pub under : Under (length ds) new
  pub cost : length new + dues ds + 3 * length cs ≤ dues cs + 3 * length ds
  -- no write changes a sort or a leaf
  pub sorts : (i : ℕ) → i < length cs → sort_at ds i ≡ sort_at cs i
  pub leaves : (i : ℕ) (h : Bare) → what_at cs i ≡ Leaf h → what_at ds i ≡ Leaf h
