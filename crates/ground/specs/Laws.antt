-- What holds of rows, of what heads build, and of the built-in names.
use Rattle.std.specs.Prelude.{◌≡◌, ℕ, Bool, true, ◌≢◌, ◌⊎◌, ◌↔◌}
use Rattle.ground.specs.Values.{Ty, Row, end, at, put, Field, absent, Value, of_field, of_row}
use Rattle.ground.specs.Sorts.{Of, In}
use Rattle.ground.specs.Heads.{Builds, Suits, gives, none_lacked, without, has_first, has_second, first_sort, second_sort}
use Rattle.ground.specs.Names.{Name, built_in_list, named}
use Rattle.ground.specs.Forms.{Form}
use Rattle.ground.specs.Belongs.{Env, Given, Alike, Belongs, built_in, names}
use Rattle.ground.specs.declared.sort.Labels.{Labels}
use Rattle.ground.specs.declared.head.Head.{Head}
use Rattle.ground.specs.declared.head.Head.TheVariants.{Empty, Row as RowWith}

-- What was put at a label stands there.
abbrev pub PutStandsHere : Type 0
PutStandsHere = (r : Row) (l : ℕ) (f : Field) → at (put r l f) l ≡ f

-- What stands at the other labels is not changed.
abbrev pub PutLeavesOthers : Type 0
PutLeavesOthers = (r : Row) (l k : ℕ) (f : Field) → k ≢ l → at (put r l f) k ≡ at r k

-- The empty row is absent at every label.
abbrev pub EmptyIsAbsent : Type 0
EmptyIsAbsent = (l : ℕ) → at end l ≡ absent

-- Rows equal at every label are equal.
abbrev pub FieldsTellRows : Type 0
FieldsTellRows = (q r : Row) → ((l : ℕ) → at q l ≡ at r l) → q ≡ r

-- Of children that suit it a head builds one value, which is of the sort that the head gives.
abbrev pub HeadsBuildOnce : Type 0
HeadsBuildOnce = (h : Head) (m : Labels) (l : ℕ) (x y : Value) → Suits h m l x y
    → (v : Value) × Builds h l x y v × Of (gives h m l) v × ((w : Value) → Builds h l x y w → w ≡ v)

-- A head builds only of children of its sorts.
abbrev pub HeadsAskSorts : Type 0
HeadsAskSorts = (h : Head) (l : ℕ) (x y v : Value) → Builds h l x y v
    → (has_first h ≡ true → Of (first_sort h) x) × (has_second h ≡ true → Of (second_sort h none_lacked) y)

-- A child that the head does not take plays no part, nor does the label of a head that is no row.
abbrev pub OthersPlayNoPart : Type 0
OthersPlayNoPart = (h : Head) (l k : ℕ) (x y z w v : Value) → (has_first h ≡ true → x ≡ z) → (has_second h ≡ true → y ≡ w) → (h ≡ RowWith → l ≡ k)
    → Builds h l x y v → Builds h k z w v

-- A set without a label that it has is the set of its other labels.
abbrev pub WithoutTakesOne : Type 0
WithoutTakesOne = (m : Labels) (l k : ℕ) → In l m → (In k (without m l) ↔ (In k m × (k ≢ l)))

-- What a head builds tells the children that it takes; of a row, the field and the row at one label.
abbrev pub BuiltTellsChildren : Type 0
BuiltTellsChildren = (h : Head) (m n : Labels) (l k : ℕ) (x y z w v : Value) → Suits h m l x y → Suits h n k z w → (h ≡ RowWith → k ≡ l) → Builds h l x y v → Builds h k z w v
    → (has_first h ≡ true → x ≡ z) × (has_second h ≡ true → y ≡ w)

-- No type and no field is built by two heads.
abbrev pub BuiltTellsHead : Type 0
BuiltTellsHead = (h g : Head) (l k : ℕ) (x y z w v : Value) → Builds h l x y v → Builds g k z w v → ((r : Row) → v ≢ of_row r) → h ≡ g

-- A row is built by empty or by row, and by no other head.
abbrev pub RowsHaveTwoHeads : Type 0
RowsHaveTwoHeads = (h : Head) (l : ℕ) (x y : Value) (r : Row) → Builds h l x y (of_row r) → (h ≡ Empty) ⊎ (h ≡ RowWith)

-- Row builds what empty builds exactly when it is given an absent field and the empty row.
abbrev pub RowBuildsEmpty : Type 0
RowBuildsEmpty = (m : Labels) (l : ℕ) (x y : Value) → Suits RowWith m l x y → (Builds RowWith l x y (of_row end) ↔ ((x ≡ of_field absent) × (y ≡ of_row end)))

-- Heads build every value: a test that passes what a head builds of children that suit it and pass, passes every value.
abbrev pub HeadsBuildAll : Type 0
HeadsBuildAll = (test : Value → Bool)
    → ((h : Head) (m : Labels) (l : ℕ) (x y v : Value) → Suits h m l x y → (has_first h ≡ true → test x ≡ true) → (has_second h ≡ true → test y ≡ true) → Builds h l x y v → test v ≡ true)
    → (v : Value) → test v ≡ true

-- The environment of the built-in names has exactly these names.
abbrev pub BuiltInNamesListed : Type 0
BuiltInNamesListed = (b : Bool) → names (built_in b) ≡ built_in_list b

-- The built-in environment gives a name some type exactly when it is one of these.
abbrev pub BuiltInNamesGiven : Type 0
BuiltInNamesGiven = (b : Bool) (n : Name) → (((T : Ty) × Given (built_in b) n T) ↔ (named (built_in_list b) n ≡ true))

-- Which types belong to a form depends on the types of the names alone.
abbrev pub TypesOfNamesDecide : Env → Env → Type 0
TypesOfNamesDecide E F = Alike E F → (e : Form) (T : Ty) → (Belongs E e T ↔ Belongs F e T)
