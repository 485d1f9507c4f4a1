-- A layer without entries.
use Rattle.std.proofs.Common.{◌≡◌, ℕ, List, [], ◌∷◌, reverse, length, sym, refl, ◌∙◌, subst, arith}
use Rattle.system.specs.Meaning.{State, Meaning, New}
use Rattle.classes.specs.declared.entry.Entry.{Entry}
use Rattle.classes.specs.Layered.{layered, layered_marks, MarksInOrder, Standing}
use Rattle.classes.specs.Sounding.{opens_length}

no_marks : (ss : List State) → length ss ≡ 0 → MarksInOrder ss []
no_marks [] e = tt
no_marks (s ∷ ss) e = absurd (omega arith)

marks_none : (ss : List State) → length ss ≡ 0 → length (layered_marks ss []) ≡ 0
marks_none [] e = refl
marks_none (s ∷ ss) e = absurd (omega arith)

pub starts :
    (ok : Type 0) (classes : ℕ) (m : Meaning) (es : List Entry) (ts : List (List Entry)) → ok → classes ≡ 0 → length m.marks ≡ 0 → es ≡ [] → ts ≡ []
    → Standing ok classes m es (reverse ts) × ((C : ℕ) → New C m → New C (layered m es (reverse ts)))
starts ok classes m es ts o z l e f =
    let P : List Entry → List (List Entry) → Type 0 = λ xs ys. Standing ok classes m xs (reverse ys) × ((C : ℕ) → New C m → New C (layered m xs (reverse ys))) in
    let none : P [] [] = (
      record { below = o; classless = z; order = tt; marks = no_marks m.marks l; few = omega arith },
      λ C n. record {
        capacity = n.capacity;
        count = n.count;
        codes = n.codes;
        solution = λ v. (n.solution v, tt);
        opens = opens_length [] m.state.opens ∙ n.opens;
        marks = marks_none m.marks l;
      },
    ) in
    subst (λ (xs : List Entry). P xs ts) (sym e) (subst (λ (ys : List (List Entry)). P [] ys) (sym f) none)
