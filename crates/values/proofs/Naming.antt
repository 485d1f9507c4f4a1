-- A code that has no name yet takes the next.
use Rattle.std.proofs.Common.{◌≡◌, ℕ, List, [], ◌∷◌, ◌++◌, None, sym, ap, ◌∙◌}
use Rattle.values.specs.declared.name.Unsolved.{Unsolved}
use Rattle.values.specs.declared.name.Variable.{Variable}
use Rattle.values.specs.Kinds.{letter_of_kind}
use Rattle.values.specs.Spelling.{Writing, named_in, count_of, number_of, noted_in, noted}

pub named_next :
    (w : Writing) (o : Unsolved) (n : ℕ) (vs : List Variable)
    → named_in w.names o.code.0 ≡ None
    → n ≡ count_of w.names (letter_of_kind o.kind)
    → vs ≡ w.names ++ record { unsolved = o; number = n } ∷ []
    → (n ≡ number_of (named_in w.names o.code.0) w.names o.kind) × (record { bytes = w.bytes; names = vs; tight = w.tight } ≡ noted w o)
named_next w o n vs none en ev =
    let name : List Variable → Writing = λ us. record { bytes = w.bytes; names = us; tight = w.tight } in (
      en ∙ sym (ap (λ v. number_of v w.names o.kind) none),
      ap name ev
          ∙ ap (λ k. name (w.names ++ record { unsolved = o; number = k } ∷ [])) en
          ∙ sym (ap (λ v. name (noted_in v w.names o)) none),
    )
