-- A script is accepted exactly where it is one by the grammar.
use Rattle.std.proofs.Common.{◌≡◌, ℕ, ◌≤◌, ltb, List, [], ◌∷◌, length, Some, None, Ok, Err, Option, refl, ap, ◌∙◌, subst, arith}
use Rattle.std.proofs.lemmas.Bool.{ltb-false, le-ltb, cond-false}
use Rattle.ground.specs.Forms.{Form}
use Rattle.script.specs.declared.fault.Reason.TheVariants.{TooLong}
use Rattle.script.specs.Faults.{fault, span}
use Rattle.script.specs.Tokens.{Token, opening, closing, word, ending, tokens, first}
use Rattle.script.specs.Nodes.{nodes}
use Rattle.script.specs.Reads.{Setting, first_bad_byte, finished, whole, reads, of_good_bytes, reading}
use Rattle.grammar.specs.Grammar.{strict, Says, deep}
use Rattle.grammar.specs.Statements.{Script, AcceptsScripts}
use Rattle.grammar.proofs.Outs.{err_ok, same_ok, then_ok, else_ok, then_is}
use Rattle.grammar.proofs.Sound.{reads_right}
use Rattle.grammar.proofs.Complete.{says_read}
use Rattle.grammar.proofs.Plain.{Plain, tokens_plain, rest_plain}
use Rattle.grammar.proofs.Bytes.{none_bad, all_good}

finished_ok :
    (S : Setting) (stop : ℕ) (f g : Form) (rest : List Token)
    → Plain rest
    → finished S stop f (first stop rest) ≡ Ok g
    → (rest ≡ []) × (f ≡ g)
finished_ok S stop f g [] h e = (refl, same_ok f g e)
finished_ok S stop f g (opening i ∷ ts) h e = absurd (err_ok _ g e)
finished_ok S stop f g (closing i ∷ ts) h e = absurd (err_ok _ g e)
finished_ok S stop f g (word p w ∷ ts) h e = absurd (err_ok _ g e)
finished_ok S stop f g (ending n ∷ ts) h e = absurd h

-- the tokens are a form, with the limits kept, and nothing behind it
record Whole (S : Setting) (ts : List Token) (f : Form) : Type 0 where
  says : Says (strict S) S.names ts f []
  nests : deep f ≤ 32
  few : length (nodes f) ≤ 512

whole_right : (S : Setting) (stop : ℕ) (ts : List Token) (f : Form) → Plain ts → whole S stop ts ≡ Ok f → Whole S ts f
whole_right S stop ts f h e =
    let (x, o, k) = then_ok (reads S stop 32 S.names 0 ts) (λ (x : Form × List Token). finished S stop x.0 (first stop x.1)) f e in
    let r = reads_right S stop 32 S.names 0 ts x o in
    let (n, s) = finished_ok S stop x.0 f x.1 (rest_plain r.says h) k in
    subst (λ (g : Form). Whole S ts g) s
    (record { says = subst (λ (us : List Token). Says (strict S) S.names ts x.0 us) n r.says; nests = r.nests; few = omega arith })

whole_read : (S : Setting) (stop : ℕ) (ts : List Token) (f : Form) → Whole S ts f → whole S stop ts ≡ Ok f
whole_read S stop ts f r =
    then_is (reads S stop 32 S.names 0 ts) (λ (x : Form × List Token). finished S stop x.0 (first stop x.1)) (f, [])
    (says_read S stop r.says 32 0 r.nests (omega arith))

good_ok :
    (S : Setting) (text : List ℕ) (f : Form) (o : Option ℕ)
    → of_good_bytes S text o ≡ Ok f
    → (o ≡ None) × (whole S (length text) (tokens text) ≡ Ok f)
good_ok S text f (Some i) e = absurd (err_ok _ f e)
good_ok S text f None e = (refl, e)

pub accepts : AcceptsScripts
accepts S text f = (right, read)
  where
    right : reading S text ≡ Ok f → Script S text f
    right e =
        let l = else_ok (ltb 4096 (length text)) (fault TooLong (span 0 0)) (of_good_bytes S text (first_bad_byte 0 text)) f e in
        let g = good_ok S text f (first_bad_byte 0 text) l.1 in
        let r = whole_right S (length text) (tokens text) f (tokens_plain text) g.1 in
        record { short = ltb-false 4096 (length text) l.0; bytes = none_bad 0 text g.0; says = r.says; nests = r.nests; few = r.few }

    read : Script S text f → reading S text ≡ Ok f
    read s =
        let long = ltb 4096 (length text) in
        cond-false long (Err (fault TooLong (span 0 0))) (of_good_bytes S text (first_bad_byte 0 text)) (le-ltb 4096 (length text) s.short)
        ∙ ap (of_good_bytes S text) (all_good 0 text s.bytes)
        ∙ whole_read S (length text) (tokens text) f (record { says = s.says; nests = s.nests; few = s.few })
