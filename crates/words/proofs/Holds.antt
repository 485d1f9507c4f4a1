-- The words of a text are the parts that the library cuts it into.
use Rattle.std.proofs.Common.{◌≡◌, ℕ, true, false, ◌||◌, cond, List, [], ◌∷◌, nat_eq, refl, ap}
use Rattle.std.specs.List.{slice_split, onto_first, list_any}
use Rattle.std.proofs.lemmas.List.Recursion.{same_from_clauses}
use Rattle.ground.specs.Names.{Name, named, same_name}
use Rattle.words.specs.Sheets.{put_first, spaced}

put : (b : ℕ) (ws : List Name) → onto_first b ws ≡ put_first b ws
put b [] = refl
put b (w ∷ ws) = refl

pub split_spaced : (t : List ℕ) → slice_split (λ b. nat_eq b 32) t ≡ spaced t
split_spaced =
    same_from_clauses (slice_split (λ b. nat_eq b 32)) spaced (λ b ws. cond (nat_eq b 32) ([] ∷ ws) (put_first b ws)) refl
    (λ b bs. ap (λ ws. cond (nat_eq b 32) ([] ∷ slice_split (λ b. nat_eq b 32) bs) ws) (put b (slice_split (λ b. nat_eq b 32) bs)))
    (λ b bs. refl)

pub any_named : (ws : List Name) (w : Name) → list_any (λ u. same_name u w) ws ≡ named ws w
any_named [] w = refl
any_named (u ∷ ws) w = elim (same_name u w) as (λ v. (v || list_any (λ u. same_name u w) ws) ≡ cond v true (named ws w)) [ true ↦ refl | false ↦ any_named ws w ]
