-- A word is a keyword exactly where it is the keyword's spelling.
use Rattle.std.proofs.Common.{◌≡◌, ℕ, Bool, true, false, cond, List, Some, None, Option, refl, ap, ◌∙◌, arith}
use Rattle.std.proofs.lemmas.Slice.Eq.{bytes_eq-Decides}
use Rattle.ground.specs.Names.{same_name}
use Rattle.words.specs.Keywords.{spelling, keyword_or, keyword_of}
use Rattle.words.specs.declared.keyword.Keyword.{Keyword}
use Rattle.words.specs.declared.keyword.Keyword.TheVariants.{Fun, Call, Let, Rec, If, Record, With, Get, Drop}

-- one keyword tried before the others
spelled_or :
    (j k : Keyword) (w : List ℕ) (other : Option Keyword)
    → (other ≡ Some k → w ≡ spelling k)
    → keyword_or j w other ≡ Some k
    → w ≡ spelling k
spelled_or j k w other more e = go (same_name w (spelling j)) refl e
  where
    go : (b : Bool) → same_name w (spelling j) ≡ b → cond b (Some j) other ≡ Some k → w ≡ spelling k
    go true t h = let same : j ≡ k = cc in (bytes_eq-Decides w (spelling j)).0 t ∙ ap spelling same
    go false t h = more h

pub keyword_spelled : (w : List ℕ) (k : Keyword) → keyword_of w ≡ Some k → w ≡ spelling k
keyword_spelled w k =
    spelled_or Fun k w _ (spelled_or Call k w _ (spelled_or Let k w _ (spelled_or Rec k w _ (spelled_or If k w _
    (spelled_or Record k w _ (spelled_or With k w _ (spelled_or Get k w _ (spelled_or Drop k w None
    (λ e. let z : ◌≡◌ {A = ℕ} 0 1 = cc in absurd (omega arith))))))))))

pub spelling_keyword : (k : Keyword) → keyword_of (spelling k) ≡ Some k
spelling_keyword Fun = refl
spelling_keyword Call = refl
spelling_keyword Let = refl
spelling_keyword Rec = refl
spelling_keyword If = refl
spelling_keyword Record = refl
spelling_keyword With = refl
spelling_keyword Get = refl
spelling_keyword Drop = refl
