-- A walk with a fault has a first token that it cannot take.
use Rattle.std.proofs.Common.{◌≡◌, ℕ, List, [], ◌∷◌, ◌++◌, Ok, Err, sym, refl, ap, ◌∙◌}
use Rattle.script.specs.declared.fault.ReadFault.{ReadFault}
use Rattle.script.specs.Faults.{Out}
use Rattle.script.specs.Tokens.{Token, opening, closing, word, ending}
use Rattle.script.specs.Reads.{then}
use Rattle.grammar.specs.Grammar.{Rules}
use Rattle.grammar.specs.Walk.{State, step, walk}
use Rattle.grammar.proofs.Outs.{err_ok, then_is}
use Rattle.grammar.proofs.Plain.{Plain}

-- the walk over the tokens ts, and then over others, stops with the fault
pub record Halts (R : Rules) (s : State) (ts more : List Token) (e : ReadFault) : Type 0 where
  pub before : List Token
  pub here : Token
  pub after : List Token
  pub at : State
  pub split : ts ++ more ≡ before ++ (here ∷ after)
  pub walked : walk R s before ≡ Ok at
  pub breaks : step R at here ≡ Err e
  pub plain : Plain ts → Plain before

plain_more : (t : Token) (ts us : List Token) → (Plain ts → Plain us) → Plain (t ∷ ts) → Plain (t ∷ us)
plain_more (opening i) ts us h = h
plain_more (closing i) ts us h = h
plain_more (word p w) ts us h = h
plain_more (ending n) ts us h = λ z. absurd z

module _ (R : Rules) (stop : ℕ) (e : ReadFault) where
  last_halts :
      (s : State) (o : Out State)
      → step R s (ending stop) ≡ o
      → then o (λ (v : State). walk R v []) ≡ Err e
      → Halts R s [] (ending stop ∷ []) e
  last_halts s (Ok x) h k = absurd (err_ok e x (sym k))
  last_halts s (Err f) h k =
      record { before = []; here = ending stop; after = []; at = s; split = refl; walked = refl; breaks = h ∙ k; plain = λ p. p }

  next_halts :
      (t : Token) (ts : List Token) (s : State) (o : Out State)
      → ((v : State) → walk R v (ts ++ (ending stop ∷ [])) ≡ Err e → Halts R v ts (ending stop ∷ []) e)
      → step R s t ≡ o
      → then o (λ (v : State). walk R v (ts ++ (ending stop ∷ []))) ≡ Err e
      → Halts R s (t ∷ ts) (ending stop ∷ []) e
  next_halts t ts s (Ok x) go h k =
      let r = go x k in
      record {
        before = t ∷ r.before;
        here = r.here;
        after = r.after;
        at = r.at;
        split = ap (λ (us : List Token). t ∷ us) r.split;
        walked = then_is (step R s t) (λ (v : State). walk R v r.before) x h ∙ r.walked;
        breaks = r.breaks;
        plain = plain_more t ts r.before r.plain;
      }
  next_halts t ts s (Err f) go h k =
      record { before = []; here = t; after = ts ++ (ending stop ∷ []); at = s; split = refl; walked = refl; breaks = h ∙ k; plain = λ p. tt }

  pub halts : (ts : List Token) (s : State) → walk R s (ts ++ (ending stop ∷ [])) ≡ Err e → Halts R s ts (ending stop ∷ []) e
  halts [] s h = last_halts s (step R s (ending stop)) refl h
  halts (t ∷ ts) s h = next_halts t ts s (step R s t) (λ v k. halts ts v k) refl h
