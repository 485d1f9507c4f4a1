-- The search for a bad byte, and what is read when there is none.
use Rattle.std.proofs.Common.{◌≡◌, ℕ, ◌+◌, ◌≤◌, true, false, not, cond, ltb, List, [], ◌∷◌, length, Some, None, Ok, Err, sym, refl, ap, ◌∙◌, arith}
use Rattle.std.specs.List.{position_from}
use Rattle.std.proofs.lemmas.Bool.Decides.{nat_tests}
use Rattle.ground.specs.declared.name.Name.{Name as Packed}
use Rattle.ground.specs.Forms.{Form}
use Rattle.script.specs.declared.fault.Reason.TheVariants.{TooLong}
use Rattle.script.specs.declared.fault.ReadFault.{ReadFault}
use Rattle.script.specs.declared.token.Token.{Token as Cut}
use Rattle.script.specs.declared.token.Token.TheVariants.{Open as CutOpen, Close as CutClose, Word as CutWord, End as CutEnd}
use Rattle.script.specs.Faults.{fault, span}
use Rattle.script.specs.Tokens.{Token, tokens, first, token_of}
use Rattle.script.specs.Scopes.{over}
use Rattle.script.specs.Reads.{Setting, then, wrong, printable, first_bad_byte, of_good_bytes, reads, finished, whole, reading}

pub first_found : (i : ℕ) (bs : List ℕ) → position_from (λ b. not (printable b)) i bs ≡ first_bad_byte i bs
first_found i [] = refl
first_found i (b ∷ bs) =
    elim (printable b) as (λ v. cond (not v) (Some i) (position_from (λ b. not (printable b)) (i + 1) bs) ≡ cond v (first_bad_byte (i + 1) bs) (Some i)) [
      | true ↦ first_found (i + 1) bs
      | false ↦ refl
    ]

-- a text that is short and has no bad byte
pub of_good : (S : Setting) (text : List ℕ) → length text ≤ 4096 → first_bad_byte 0 text ≡ None → reading S text ≡ whole S (length text) (tokens text)
of_good S text h e =
    let l : ltb 4096 (length text) ≡ false = grind (arith, nat_tests) in
    ap (λ b. cond b (Err (fault TooLong (span 0 0))) (of_good_bytes S text (first_bad_byte 0 text))) l ∙ ap (of_good_bytes S text) e

pub whole_fault : (S : Setting) (text : List ℕ) (e : ReadFault) → reads S (length text) 32 S.names 0 (tokens text) ≡ Err e → whole S (length text) (tokens text) ≡ Err e
whole_fault S text e h = ap (λ o. then o (λ x. finished S (length text) x.0 (first (length text) x.1))) h

pub whole_form : (S : Setting) (text : List ℕ) (f : Form) (ts : List Token) → reads S (length text) 32 S.names 0 (tokens text) ≡ Ok (f, ts)
    → whole S (length text) (tokens text) ≡ finished S (length text) f (first (length text) ts)
whole_form S text f ts h = ap (λ o. then o (λ x. finished S (length text) x.0 (first (length text) x.1))) h

-- what stands behind the form
pub behind_form : (S : Setting) (stop : ℕ) (text : List ℕ) (f : Form) (t : Cut) → ((n : ℕ) → t ≡ CutEnd n → ⊥)
    → finished S stop f (token_of text t) ≡ Err (wrong 32 (token_of text t))
behind_form S stop text f (CutOpen i) h = refl
behind_form S stop text f (CutClose i) h = refl
behind_form S stop text f (CutWord p) h = refl
behind_form S stop text f (CutEnd n) h = elim (h n refl) [ ]

-- reading begins with no name bound and no node
pub from_start : (S : Setting) (stop : ℕ) (ts : List Token) (bs : List Packed) (n : ℕ) → bs ≡ [] → n ≡ 0
    → reads S stop 32 S.names 0 ts ≡ reads S stop 32 (over bs S.names) n ts
from_start S stop ts bs n e z =
    ap (λ qs. reads S stop 32 (over qs S.names) 0 ts) (sym e) ∙ ap (λ m. reads S stop 32 (over bs S.names) m ts) (sym z)
