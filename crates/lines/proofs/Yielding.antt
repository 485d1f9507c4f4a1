-- The words of a line, one after the other.
use Rattle.std.proofs.Common.{◌≡◌, ◌<◌, ◌&&◌, List, [], ◌∷◌, length, Some, None, is_some, sym, refl, ap, ◌∙◌, arith}
use Rattle.std.specs.List.{list_all}
use Rattle.std.proofs.lemmas.Iterator.{YieldsList}
use Rattle.std.proofs.lemmas.Iterator.Consumers.{YieldsList-from_shown}
use Rattle.std.proofs.lemmas.List.Recursion.{same_from_clauses}
use Rattle.ground.specs.Names.{Name}
use Rattle.lines.specs.declared.word.Words.{Words}
use Rattle.lines.specs.Words.{left, first, others, Takes}
use Rattle.lines.specs.Lines.{code_number, all_codes}

none_left : (ws : List Name) → None ≡ first ws → length ws ≡ 0
none_left [] e = refl
none_left (w ∷ ws) e = cc

one_left : (w : Name) (ws : List Name) → Some w ≡ first ws → ws ≡ w ∷ others ws
one_left w [] e = cc
one_left w (v ∷ ws) e = cc

pub fewer : (w : Name) (ws : List Name) → Some w ≡ first ws → length (others ws) < length ws
fewer w ws e = omega (arith, ap length (one_left w ws e))

pub words_yield : (v : Words) → YieldsList Takes (λ x. x.now) v (left v)
words_yield v =
    YieldsList-from_shown Takes (λ x. x.now) left
    (λ s t g. none_left (left s) g.0)
    (λ s x t g. one_left x.now (left s) g.0 ∙ ap (λ ws. x.now ∷ ws) (sym g.1)) v

pub all_are_codes : (ws : List Name) → list_all (λ w. is_some (code_number w)) ws ≡ all_codes ws
all_are_codes ws = same_from_clauses (list_all (λ w. is_some (code_number w))) all_codes (λ w v. is_some (code_number w) && v) refl (λ w v. refl) (λ w v. refl) ws
