-- Which ground types belong to a script.
use Rattle.std.specs.Prelude.{◌≡◌, ℕ, Bool, true, false, ◌≢◌, ◌↔◌, List, [], ◌∷◌, ◌++◌, codes}
use Rattle.ground.specs.Values.{Ty, whole, tenth, flag, to, list, record_of, Row, end, at, absent, has}
use Rattle.ground.specs.Classes.{InClass}
use Rattle.ground.specs.Names.{Name, same_name}
use Rattle.ground.specs.Forms.{Form, name, number, tenths, truth, fun, call, let_in, fix, if_then, empty_record, extend, select, remove}

-- An environment: names, each with the set of ground types that it is given, the innermost first.
abbrev pub Env : Type 1
Env = List (Name × (Ty → Type 0))

-- The first of two statements where the test is true, else the second.
abbrev pub choose : Bool → Type 0 → Type 0 → Type 0
choose true P Q = P
choose false P Q = Q

-- The type T is in the set that E gives the name n: the innermost binding of n counts, and a name that is not bound has no type.
abbrev pub Given : Env → Name → Ty → Type 0
Given [] n T = ⊥
Given (b ∷ E) n T = choose (same_name n b.0) (b.1 T) (Given E n T)

-- Both environments give each name the same types.
abbrev pub Alike : Env → Env → Type 0
Alike E F = (n : Name) (T : Ty) → (Given E n T ↔ Given F n T)

-- The rows q and r agree at every label but l.
abbrev pub Elsewhere : ℕ → Row → Row → Type 0
Elsewhere l q r = (k : ℕ) → k ≢ l → at q k ≡ at r k

-- The ground type T belongs to the form, its free names having the types that E gives.
abbrev pub Belongs : Env → Form → Ty → Type 0
-- A name has the types that it is given; a number, tenths and a truth have one type each.
Belongs E (name p n) T = Given E n T
Belongs E (number p z) T = T ≡ whole
Belongs E (tenths p z) T = T ≡ tenth
Belongs E (truth p b) T = T ≡ flag
-- A function has (to A R) when R belongs to its body with the name given A alone.
Belongs E (fun p n B) T = (A : Ty) × (R : Ty) × (T ≡ to A R) × Belongs ((n, λ X. X ≡ A) ∷ E) B R
-- A call has T when for some A the function has (to A T) and the argument has A.
Belongs E (call p F S) T = (A : Ty) × Belongs E F (to A T) × Belongs E S A
-- A let has T when its first form has some type and its second has T, with the name given all types of the first.
Belongs E (let_in p n S B) T = ((A : Ty) × Belongs E S A) × Belongs ((n, Belongs E S) ∷ E) B T
-- A rec has T when its body has T with the name given T alone.
Belongs E (fix p n B) T = Belongs ((n, λ X. X ≡ T) ∷ E) B T
-- An if has T when its condition has flag and both other forms have T.
Belongs E (if_then p C S B) T = Belongs E C flag × Belongs E S T × Belongs E B T
-- The empty record has the record that is absent everywhere.
Belongs E (empty_record p) T = T ≡ record_of end
-- A with has each record with a type of S at l that elsewhere agrees with some record of R.
Belongs E (extend p R l S) T = (q : Row) × (r : Row) × (A : Ty) × (T ≡ record_of q) × Belongs E R (record_of r) × Belongs E S A × (at q l ≡ has A) × Elsewhere l q r
-- A get has T when some record of R has T at l.
Belongs E (select p R l) T = (r : Row) × Belongs E R (record_of r) × (at r l ≡ has T)
-- A drop has each record absent at l that elsewhere agrees with some record of R.
Belongs E (remove p R l) T = (q : Row) × (r : Row) × (T ≡ record_of q) × Belongs E R (record_of r) × (at q l ≡ absent) × Elsewhere l q r

-- The names that stand below all definitions. Each has its types for every type A.
abbrev pub plain_names : Env
plain_names =
    (codes "not", λ T. T ≡ to flag flag)
    ∷ (codes "nil", λ T. (A : Ty) × (T ≡ list A))
    ∷ (codes "cons", λ T. (A : Ty) × (T ≡ to A (to (list A) (list A))))
    ∷ []

-- The names that stand there besides, where the four classes are known. Each has its types for every type A of one class.
abbrev pub class_names : Env
class_names =
    (codes "add", λ T. (A : Ty) × InClass 0 A × (T ≡ to A (to A A)))
    ∷ (codes "neg", λ T. (A : Ty) × InClass 0 A × (T ≡ to A A))
    ∷ (codes "less", λ T. (A : Ty) × InClass 1 A × (T ≡ to A (to A flag)))
    ∷ (codes "equal", λ T. (A : Ty) × InClass 2 A × (T ≡ to A (to A flag)))
    ∷ (codes "hold", λ T. (A : Ty) × InClass 3 A × (T ≡ to A A))
    ∷ []

-- The built-in names, with or without the four classes.
abbrev pub built_in : Bool → Env
built_in true = class_names ++ plain_names
built_in false = plain_names

-- The names of an environment, in its order.
abbrev pub names : Env → List Name
names [] = []
names (b ∷ E) = b.0 ∷ names E
