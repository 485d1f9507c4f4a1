-- Two labels exchanged in values, and what that changes.
use Rattle.std.specs.Prelude.{◌≡◌, ℕ, Bool, cond, ◌≢◌, ◌↔◌, ◌∷◌, ◌==◌}
use Rattle.ground.specs.Values.{Ty, whole, tenth, flag, to, list, record_of, Row, end, next, at, put, Field, absent, has, Value, of_type, of_field, of_row}
use Rattle.ground.specs.Classes.{InClass}
use Rattle.ground.specs.Heads.{Builds}
use Rattle.ground.specs.declared.head.Head.{Head}
use Rattle.ground.specs.Forms.{Form, name, number, tenths, truth, fun, call, let_in, fix, if_then, empty_record, extend, select, remove}
use Rattle.ground.specs.Names.{Name}
use Rattle.ground.specs.Belongs.{Env, Given, Belongs, built_in}

-- The label a for b, b for a, and any other for itself.
abbrev pub swap_label : ℕ → ℕ → ℕ → ℕ
swap_label a b l = cond (l == a) b (cond (l == b) a l)

-- The row with its fields at a and at b exchanged.
abbrev pub exchange : ℕ → ℕ → Row → Row
exchange a b r = put (put r a (at r b)) b (at r a)

abbrev mutual
  -- The type with a and b exchanged in every row within it.
  pub swap_ty : ℕ → ℕ → Ty → Ty
  swap_ty a b whole = whole
  swap_ty a b tenth = tenth
  swap_ty a b flag = flag
  swap_ty a b (to t u) = to (swap_ty a b t) (swap_ty a b u)
  swap_ty a b (list t) = list (swap_ty a b t)
  swap_ty a b (record_of r) = record_of (exchange a b (swap_inside a b r))

  -- The row with a and b exchanged in each of its types, its own labels kept.
  pub swap_inside : ℕ → ℕ → Row → Row
  swap_inside a b end = end
  swap_inside a b (next g t r) = next g (swap_ty a b t) (swap_inside a b r)

-- The row with a and b exchanged in it and in every row within it.
abbrev pub swap_row : ℕ → ℕ → Row → Row
swap_row a b r = exchange a b (swap_inside a b r)

-- The field with a and b exchanged in its type.
abbrev pub swap_field : ℕ → ℕ → Field → Field
swap_field a b absent = absent
swap_field a b (has t) = has (swap_ty a b t)

-- The value with a and b exchanged.
abbrev pub swap_value : ℕ → ℕ → Value → Value
swap_value a b (of_type t) = of_type (swap_ty a b t)
swap_value a b (of_field f) = of_field (swap_field a b f)
swap_value a b (of_row r) = of_row (swap_row a b r)

-- What a row has at a label, the swapped row has, swapped, at the swapped label.
abbrev pub SwapMovesFields : Type 0
SwapMovesFields = (a b : ℕ) (r : Row) (l : ℕ) → at (swap_row a b r) (swap_label a b l) ≡ swap_field a b (at r l)

-- To swap twice changes nothing.
abbrev pub SwapUndoesItself : Type 0
SwapUndoesItself = (a b : ℕ) (v : Value) → swap_value a b (swap_value a b v) ≡ v

-- What a head builds, swapped, it builds of the swapped children with the swapped label.
abbrev pub SwapKeepsHeads : Type 0
SwapKeepsHeads = (a b : ℕ) (h : Head) (l : ℕ) (x y v : Value) → Builds h l x y v → Builds h (swap_label a b l) (swap_value a b x) (swap_value a b y) (swap_value a b v)

-- A swapped type is in the classes of the type.
abbrev pub SwapKeepsClasses : Type 0
SwapKeepsClasses = (a b k : ℕ) (t : Ty) → (InClass k t ↔ InClass k (swap_ty a b t))

-- The label stands nowhere in the form.
abbrev pub Unnamed : ℕ → Form → Type 0
Unnamed l (name p n) = Unit {0}
Unnamed l (number p z) = Unit {0}
Unnamed l (tenths p z) = Unit {0}
Unnamed l (truth p b) = Unit {0}
Unnamed l (fun p n B) = Unnamed l B
Unnamed l (call p F S) = Unnamed l F × Unnamed l S
Unnamed l (let_in p n S B) = Unnamed l S × Unnamed l B
Unnamed l (fix p n B) = Unnamed l B
Unnamed l (if_then p C S B) = Unnamed l C × Unnamed l S × Unnamed l B
Unnamed l (empty_record p) = Unit {0}
Unnamed l (extend p R k S) = Unnamed l R × (k ≢ l) × Unnamed l S
Unnamed l (select p R k) = Unnamed l R × (k ≢ l)
Unnamed l (remove p R k) = Unnamed l R × (k ≢ l)

-- Each type of a name, swapped, is a type of that name.
abbrev pub Swappable : ℕ → ℕ → Env → Type 0
Swappable a b E = (n : Name) (T : Ty) → Given E n T → Given E n (swap_ty a b T)

-- Where the names' types are swappable, a type belongs to a form in which neither label stands exactly when the swapped type does.
abbrev pub UnnamedLabelsSwap : Env → Type 0
UnnamedLabelsSwap E = (a b : ℕ) → Swappable a b E → (e : Form) → Unnamed a e → Unnamed b e
    → (T : Ty) → (Belongs E e T ↔ Belongs E e (swap_ty a b T))

-- The names' types stay swappable with one more name, given all types of such a form.
abbrev pub DefinitionsSwap : Env → Type 0
DefinitionsSwap E = (a b : ℕ) → Swappable a b E → (n : Name) (e : Form) → Unnamed a e → Unnamed b e → Swappable a b ((n, Belongs E e) ∷ E)

-- The types of the built-in names are swappable.
abbrev pub BuiltInNamesSwap : Type 0
BuiltInNamesSwap = (c : Bool) (a b : ℕ) → Swappable a b (built_in c)

-- So a type belongs to a script over the built-in names, in which neither label stands, exactly when the swapped type does.
abbrev pub ScriptsSwap : Type 0
ScriptsSwap = (c : Bool) (a b : ℕ) (e : Form) → Unnamed a e → Unnamed b e
    → (T : Ty) → (Belongs (built_in c) e T ↔ Belongs (built_in c) e (swap_ty a b T))
