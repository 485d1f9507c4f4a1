-- The number of a label in a list, as the library counts it.
use Rattle.std.proofs.Common.{◌≡◌, ℕ, suc, ◌+◌, Bool, true, false, cond, List, [], ◌∷◌, length, Some, None, refl, ap, ◌∙◌, add-one, nat_lt}
use Rattle.std.specs.Option.{option_map}
use Rattle.std.specs.List.{position_from, position_or_len}
use Rattle.std.proofs.lemmas.Iterator.Adapters.{position_from-zero}
use Rattle.ground.specs.declared.name.Name.{Name as Packed}
use Rattle.ground.specs.Names.{Name, text, texts, same_name}
use Rattle.words.specs.Sheets.{position}

-- counted from one more, each number is one more
counted : (test : Packed → Bool) (k : ℕ) (ls : List Packed) → position_from test (k + 1) ls ≡ option_map suc (position_from test k ls)
counted test k [] = refl
counted test k (l ∷ ls) = elim (test l) as (λ b. cond b (Some (k + 1)) (position_from test (k + 1 + 1) ls) ≡ option_map suc (cond b (Some k) (position_from test (k + 1) ls))) [
  | true ↦ ap Some (add-one k)
  | false ↦ counted test (k + 1) ls
]

first : (w : Name) (ls : List Packed) → position_from (λ l. same_name (text l) w) 0 ls ≡ position (texts ls) w
first w [] = refl
first w (l ∷ ls) = elim (same_name (text l) w) as (λ b. cond b (Some 0) (position_from (λ l. same_name (text l) w) 1 ls) ≡ cond b (Some 0) (option_map suc (position (texts ls) w))) [
  | true ↦ refl
  | false ↦ counted (λ l. same_name (text l) w) 0 ls ∙ ap (option_map suc) (first w ls)
]

pub found : (ls : List Packed) (w : Name) → cond (nat_lt (position_or_len (λ l. same_name (text l) w) ls) (length ls)) (Some (position_or_len (λ l. same_name (text l) w) ls)) None ≡ position (texts ls) w
found ls w = position_from-zero (λ l. same_name (text l) w) ls ∙ first w ls
