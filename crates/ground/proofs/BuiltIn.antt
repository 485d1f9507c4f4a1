-- The environment of the built-in names has exactly those names.
use Rattle.std.proofs.Common.{◌≡◌, Bool, true, false, cond, ◌↔◌, [], ◌∷◌, sym, refl}
use Rattle.std.proofs.lemmas.Slice.Eq.{bytes_eq-Decides}
use Rattle.ground.specs.Values.{Ty, whole, flag, to, list}
use Rattle.ground.specs.Names.{Name, same_name, named, built_in_list}
use Rattle.ground.specs.Belongs.{Env, Given, choose, plain_names, built_in, names}
use Rattle.ground.proofs.Built.{no_way}

pub listed : (b : Bool) → names (built_in b) ≡ built_in_list b
listed true = refl
listed false = refl

turned : (m n : Name) → same_name n m ≡ true → same_name m n ≡ true
turned m n e = (bytes_eq-Decides m n).1 (sym ((bytes_eq-Decides n m).0 e))

-- a name that has a type is one of the names
one_more : (s t r : Bool) (P Q : Type 0) → (s ≡ true → t ≡ true) → choose s P Q → (Q → r ≡ true) → cond t true r ≡ true
one_more s true r P Q i h k = refl
one_more true false r P Q i h k = absurd (no_way (i refl))
one_more false false r P Q i h k = k h

has_name : (n : Name) (T : Ty) (E : Env) → Given E n T → named (names E) n ≡ true
has_name n T [] h = absurd h
has_name n T (b ∷ E) h = one_more (same_name n b.0) (same_name b.0 n) (named (names E) n) (b.1 T) (Given E n T) (turned b.0 n) h (has_name n T E)

-- and one of the names has a type, where each is given one
abbrev Typed : Env → Type 0
Typed [] = Unit {0}
Typed (b ∷ E) = ((T : Ty) × b.1 T) × Typed E

some_more : (s t r : Bool) (P Q : Ty → Type 0) → (t ≡ true → s ≡ true) → cond t true r ≡ true → ((T : Ty) × P T) → (r ≡ true → (T : Ty) × Q T) → (T : Ty) × choose s (P T) (Q T)
some_more true t r P Q i e p k = p
some_more false true r P Q i e p k = absurd (no_way (i refl))
some_more false false r P Q i e p k = k e

has_type : (n : Name) (E : Env) → Typed E → named (names E) n ≡ true → (T : Ty) × Given E n T
has_type n [] a e = absurd (no_way e)
has_type n (b ∷ E) a e = some_more (same_name n b.0) (same_name b.0 n) (named (names E) n) b.1 (Given E n) (turned n b.0) e a.0 (has_type n E a.1)

plain_typed : Typed plain_names
plain_typed = ((to flag flag, refl), ((list whole, (whole, refl)), ((to whole (to (list whole) (list whole)), (whole, refl)), tt)))

all_typed : Typed (built_in true)
all_typed = (
  (to whole (to whole whole), (whole, tt, refl)),
  (
    (to whole whole, (whole, tt, refl)),
    ((to whole (to whole flag), (whole, tt, refl)), ((to whole (to whole flag), (whole, tt, refl)), ((to flag flag, (flag, tt, refl)), plain_typed))),
  ),
)

pub given : (b : Bool) (n : Name) → (((T : Ty) × Given (built_in b) n T) ↔ (named (built_in_list b) n ≡ true))
given true n = (λ h. has_name n h.0 (built_in true) h.1, has_type n (built_in true) all_typed)
given false n = (λ h. has_name n h.0 (built_in false) h.1, has_type n (built_in false) plain_typed)
