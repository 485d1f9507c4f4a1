-- What is claimed of the worked cases.
use Rattle.std.specs.Prelude.{◌≡◌, Bool, true, false, ◌⊎◌, ◌∷◌, Ok, Err, codes}
use Rattle.ground.specs.Values.{Ty, whole, tenth, flag, to, list}
use Rattle.ground.specs.Names.{Name}
use Rattle.ground.specs.Forms.{Form}
use Rattle.ground.specs.Belongs.{Env, Given, Belongs, built_in}
use Rattle.script.specs.declared.fault.Reason.TheVariants.{OutOfRange}
use Rattle.script.specs.Faults.{fault, number, span}
use Rattle.script.specs.Reads.{reading}
use Rattle.cases.specs.Scripts.{here, self_text, self_call, self, twice_text, flag_call, number_call, twice, sum_text, sum, negated_text, negated, held_text, less_call, hold_call, held, empty_text, empty, largest}

-- The types that are in P, and no others, belong to the form under the names of E.
abbrev pub Has : Env → Form → (Ty → Type 0) → Type 0
Has E e P = (T : Ty) → (Belongs E e T → P T) × (P T → Belongs E e T)

-- No type does.
abbrev pub HasNone : Env → Form → Type 0
HasNone E e = (T : Ty) → Belongs E e T → ⊥

-- The built-in names with the four classes, and with one name more that has the one type A.
abbrev pub given : Name → Ty → Env
given n A = (n, λ X. X ≡ A) ∷ built_in true

-- The types of numbers.
abbrev pub Number : Ty → Type 0
Number A = (A ≡ whole) ⊎ (A ≡ tenth)

-- The types of numbers and flags.
abbrev pub Plain : Ty → Type 0
Plain A = Number A ⊎ (A ≡ flag)

-- A type in P, or a list of such, or a list of such lists, and so on.
pub data ListsOf (P : Ty → Type 0) : Ty → Type 0 where
  itself : {A : Ty} → P A → ListsOf P A
  list_of : {A : Ty} → ListsOf P A → ListsOf P (list A)

-- With or without classes, the name has the types that are in P, and no others.
abbrev pub NameHas : Bool → Name → (Ty → Type 0) → Type 0
NameHas c n P = (T : Ty) → (Given (built_in c) n T → P T) × (P T → Given (built_in c) n T)

-- The names that are built in with and without classes.
pub record PlainNames (c : Bool) : Type 0 where
  pub not : NameHas c (codes "not") (λ T. T ≡ to flag flag)
  pub nil : NameHas c (codes "nil") (λ T. (A : Ty) × (T ≡ list A))
  pub cons : NameHas c (codes "cons") (λ T. (A : Ty) × (T ≡ to A (to (list A) (list A))))

-- Those that are built in with classes,
pub record ClassNames : Type 0 where
  pub add : NameHas true (codes "add") (λ T. (A : Ty) × Number A × (T ≡ to A (to A A)))
  pub neg : NameHas true (codes "neg") (λ T. (A : Ty) × Number A × (T ≡ to A A))
  pub less : NameHas true (codes "less") (λ T. (A : Ty) × ListsOf Number A × (T ≡ to A (to A flag)))
  pub equal : NameHas true (codes "equal") (λ T. (A : Ty) × ListsOf Plain A × (T ≡ to A (to A flag)))
  pub hold : NameHas true (codes "hold") (λ T. (A : Ty) × ListsOf (λ X. X ≡ flag) A × (T ≡ to A A))

-- and that have no type without them.
pub record NoClassNames : Type 0 where
  pub add : NameHas false (codes "add") (λ T. ⊥)
  pub neg : NameHas false (codes "neg") (λ T. ⊥)
  pub less : NameHas false (codes "less") (λ T. ⊥)
  pub equal : NameHas false (codes "equal") (λ T. ⊥)
  pub hold : NameHas false (codes "hold") (λ T. ⊥)

-- What the reader makes of each script.
pub record ReadSo : Type 0 where
  pub self : reading here self_text ≡ Ok self
  pub twice : reading here twice_text ≡ Ok twice
  pub sum : reading here sum_text ≡ Ok sum
  pub negated : reading here negated_text ≡ Ok negated
  pub held : reading here held_text ≡ Ok held
  pub empty : reading here empty_text ≡ Ok empty
  pub largest : reading here (codes "32767") ≡ Ok largest
  pub too_large : reading here (codes "32768") ≡ Err (fault OutOfRange (span 0 5))
  pub seven : number OutOfRange ≡ 7

-- Which types belong to each form, under the built-in names with classes. Where none does, a call inside it has none: (call f f) whatever type f
-- has, (call g 1) where (call g yes) has flag, (call hold p) where (call (call less p) p) has flag.
pub record TypedSo : Type 0 where
  pub self : HasNone (built_in true) self
  pub self_call : (A : Ty) → HasNone (given (codes "f") A) self_call
  pub twice : HasNone (built_in true) twice
  pub number_call : (A : Ty) → Belongs (given (codes "g") A) flag_call flag → HasNone (given (codes "g") A) number_call
  pub sum : Has (built_in true) sum (λ T. (A : Ty) × Number A × (T ≡ to A A))
  pub negated : HasNone (built_in true) negated
  pub held : HasNone (built_in true) held
  pub hold_call : (A : Ty) → Belongs (given (codes "p") A) less_call flag → HasNone (given (codes "p") A) hold_call
  pub empty : Has (built_in true) empty (λ T. T ≡ flag)
  pub largest : Has (built_in true) largest (λ T. T ≡ whole)

-- All of it.
pub record WorkedCases : Type 0 where
  pub read : ReadSo
  pub typed : TypedSo
  pub names : (c : Bool) → PlainNames c
  pub class_names : ClassNames
  pub no_class_names : NoClassNames
