-- Where the reader refuses the tokens of a text, the walk stops with that fault; an unexpected token has no continuation.
use Rattle.std.proofs.Common.{◌≡◌, ℕ, ◌+◌, List, [], ◌∷◌, ◌++◌, length, Ok, Err, sym, refl, ap, ◌∙◌, subst, append_assoc}
use Rattle.ground.specs.Forms.{Form}
use Rattle.script.specs.declared.fault.ReadFault.{ReadFault}
use Rattle.script.specs.declared.fault.Reason.TheVariants.{Unexpected}
use Rattle.script.specs.Faults.{Out}
use Rattle.script.specs.Tokens.{Token, opening, closing, word, ending, first}
use Rattle.script.specs.Nodes.{nodes}
use Rattle.script.specs.Reads.{Setting, then, finished, reads, whole}
use Rattle.grammar.specs.Grammar.{Rules, strict, free, Says}
use Rattle.grammar.specs.Walk.{State, state, step, walk, start}
use Rattle.grammar.specs.Statements.{Goes_on, EndsHere}
use Rattle.grammar.proofs.Outs.{err_ok, same_ok, same_err, then_is}
use Rattle.grammar.proofs.Thens.{then_then, then_same}
use Rattle.grammar.proofs.Walked.{reads_walk}
use Rattle.grammar.proofs.Freed.{stray_free, walk_free}
use Rattle.grammar.proofs.Said.{says_comes}

then_err :
    {A B C : Type 0} (o : Out A) (k : A → Out B) (j : A → Out C) (e : ReadFault)
    → ((x : A) → k x ≡ Err e → j x ≡ Err e)
    → then o k ≡ Err e
    → then o j ≡ Err e
then_err (Ok x) k j e h r = h x r
then_err (Err f) k j e h r = ap Err (same_err f e r)

finished_err :
    (S : Setting) (stop : ℕ) (e : ReadFault) (f : Form) (n : ℕ) (rest : List Token)
    → finished S stop f (first stop rest) ≡ Err e
    → walk (strict S) (state [] 0 n) (rest ++ (ending stop ∷ [])) ≡ Err e
finished_err S stop e f n [] h = absurd (err_ok e f (sym h))
finished_err S stop e f n (opening i ∷ ts) h = ap Err (same_err _ e h)
finished_err S stop e f n (closing i ∷ ts) h = ap Err (same_err _ e h)
finished_err S stop e f n (word p w ∷ ts) h = ap Err (same_err _ e h)
finished_err S stop e f n (ending k ∷ ts) h = absurd (err_ok e f (sym h))

-- the walk stops where the reader does
pub whole_err :
    (S : Setting) (stop : ℕ) (ts : List Token) (e : ReadFault)
    → whole S stop ts ≡ Err e
    → walk (strict S) (start S) (ts ++ (ending stop ∷ [])) ≡ Err e
whole_err S stop ts e h =
    reads_walk S stop 32 0 refl S.names 0 ts []
    ∙ then_err (reads S stop 32 S.names 0 ts) (λ (x : Form × List Token). finished S stop x.0 (first stop x.1))
    (λ (x : Form × List Token). walk (strict S) (state [] 0 (0 + length (nodes x.0))) (x.1 ++ (ending stop ∷ []))) e
    (λ x. finished_err S stop e x.0 (0 + length (nodes x.0)) x.1) h

-- a walk over tokens and others is one after the other
walk_append : (R : Rules) (s : State) (ts us : List Token) → walk R s (ts ++ us) ≡ then (walk R s ts) (λ (v : State). walk R v us)
walk_append R s [] us = refl
walk_append R s (t ∷ ts) us =
    let last : State → Out State = λ v. walk R v us in
    then_same (step R s t) (λ (v : State). walk R v (ts ++ us)) (λ (v : State). then (walk R v ts) last) (λ v e. walk_append R v ts us)
    ∙ sym (then_then (step R s t) (λ (v : State). walk R v ts) last)

module _ (S : Setting) (before : List Token) (at : State) (e : ReadFault) (walked : walk (strict S) (start S) before ≡ Ok at) where
  no_way : (t : Token) → step (strict S) at t ≡ Err e → e.reason ≡ Unexpected → Goes_on S (before ++ (t ∷ [])) → ⊥
  no_way t breaks h g =
      let (more, f, says) = g in
      let (e', b) = stray_free S at t e breaks h in
      let c = says_comes says [] 0 0 in
      let assoc : (before ++ (t ∷ [])) ++ more ≡ before ++ (t ∷ more) = simp append_assoc in
      let stops : walk free (start S) ((before ++ (t ∷ [])) ++ more) ≡ Err e' =
      ap (walk free (start S)) assoc
      ∙ walk_append free (start S) before (t ∷ more)
      ∙ then_is (walk free (start S) before) (λ (v : State). walk free v (t ∷ more)) at (walk_free S before (start S) at walked)
      ∙ ap (λ (o : Out State). then o (λ (v : State). walk free v more)) b in
      err_ok e' (state [] c.inside c.begun) (sym stops ∙ c.goes)

  no_end : (n : ℕ) → step (strict S) at (ending n) ≡ Err e → (f : Form) → Says free S.names before f [] → ⊥
  no_end n breaks f says =
      let c = says_comes says [] 0 0 in
      let s = state [] c.inside c.begun in
      let same = same_ok at s (sym (walk_free S before (start S) at walked) ∙ c.goes) in
      err_ok e s (sym (subst (λ (v : State). step (strict S) v (ending n) ≡ Err e) same breaks))

  -- an unexpected token, or end, has no continuation
  pub ends_here : (t : Token) → step (strict S) at t ≡ Err e → e.reason ≡ Unexpected → EndsHere S before t
  ends_here (opening i) b h = no_way (opening i) b h
  ends_here (closing i) b h = no_way (closing i) b h
  ends_here (word p w) b h = no_way (word p w) b h
  ends_here (ending n) b h = no_end n b
