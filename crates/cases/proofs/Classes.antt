-- Which types are in the four classes, said by listing them.
use Rattle.std.proofs.Common.{◌≡◌, sym, refl, subst, inl, inr}
use Rattle.ground.specs.Values.{Ty, whole, tenth, flag, to, list, record_of}
use Rattle.ground.specs.Classes.{Num, Ord, Eq, Steady}
use Rattle.cases.specs.Cases.{Number, Plain, ListsOf, itself, list_of}

pub num_number : (A : Ty) → Num A → Number A
num_number whole h = inl refl
num_number tenth h = inr refl
num_number flag h = absurd h
num_number (to a b) h = absurd h
num_number (list a) h = absurd h
num_number (record_of r) h = absurd h

pub number_num : (A : Ty) → Number A → Num A
number_num A (inl e) = subst Num (sym e) tt
number_num A (inr e) = subst Num (sym e) tt

pub ord_lists : (A : Ty) → Ord A → ListsOf Number A
ord_lists whole h = itself (inl refl)
ord_lists tenth h = itself (inr refl)
ord_lists flag h = absurd h
ord_lists (to a b) h = absurd h
ord_lists (list a) h = list_of (ord_lists a h)
ord_lists (record_of r) h = absurd h

number_ord : (A : Ty) → Number A → Ord A
number_ord A (inl e) = subst Ord (sym e) tt
number_ord A (inr e) = subst Ord (sym e) tt

pub lists_ord : {A : Ty} → ListsOf Number A → Ord A
lists_ord (itself {A = A} p) = number_ord A p
lists_ord (list_of r) = lists_ord r

pub eq_lists : (A : Ty) → Eq A → ListsOf Plain A
eq_lists whole h = itself (inl (inl refl))
eq_lists tenth h = itself (inl (inr refl))
eq_lists flag h = itself (inr refl)
eq_lists (to a b) h = absurd h
eq_lists (list a) h = list_of (eq_lists a h)
eq_lists (record_of r) h = absurd h

plain_eq : (A : Ty) → Plain A → Eq A
plain_eq A (inl (inl e)) = subst Eq (sym e) tt
plain_eq A (inl (inr e)) = subst Eq (sym e) tt
plain_eq A (inr e) = subst Eq (sym e) tt

pub lists_eq : {A : Ty} → ListsOf Plain A → Eq A
lists_eq (itself {A = A} p) = plain_eq A p
lists_eq (list_of r) = lists_eq r

pub steady_lists : (A : Ty) → Steady A → ListsOf (λ X. X ≡ flag) A
steady_lists whole h = absurd h
steady_lists tenth h = absurd h
steady_lists flag h = itself refl
steady_lists (to a b) h = absurd h
steady_lists (list a) h = list_of (steady_lists a h)
steady_lists (record_of r) h = absurd h

pub lists_steady : {A : Ty} → ListsOf (λ X. X ≡ flag) A → Steady A
lists_steady (itself {A = A} p) = subst Steady (sym p) tt
lists_steady (list_of r) = lists_steady r

-- No type is both in ord and in steady, lists included.
pub never_both : (A : Ty) → Ord A → Steady A → ⊥
never_both whole o s = s
never_both tenth o s = s
never_both flag o s = o
never_both (to a b) o s = o
never_both (list a) o s = never_both a o s
never_both (record_of r) o s = o
