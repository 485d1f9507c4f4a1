-- A refusal names the fault: the length, the first bad byte, or the first token that breaks a rule.
use Rattle.std.proofs.Common.{◌≡◌, ℕ, ◌≤◌, Bool, true, false, cond, ltb, List, length, Some, None, Err, Option, sym, refl, ap, ◌∙◌, arith}
use Rattle.std.proofs.lemmas.Bool.{ltb-true, ltb-false}
use Rattle.script.specs.declared.fault.ReadFault.{ReadFault}
use Rattle.script.specs.declared.fault.Reason.TheVariants.{TooLong, BadByte}
use Rattle.script.specs.Faults.{fault, span}
use Rattle.script.specs.Tokens.{tokens}
use Rattle.script.specs.Reads.{Setting, first_bad_byte, whole, of_good_bytes}
use Rattle.grammar.specs.Grammar.{strict}
use Rattle.grammar.specs.Walk.{start}
use Rattle.grammar.specs.Statements.{Stops, Refused, too_long, bad_byte, stops, NamesTheFault}
use Rattle.grammar.proofs.Outs.{same_err}
use Rattle.grammar.proofs.Plain.{tokens_plain}
use Rattle.grammar.proofs.Bytes.{none_bad, first_bad}
use Rattle.grammar.proofs.Freed.{walk_free}
use Rattle.grammar.proofs.Filled.{goes_on}
use Rattle.grammar.proofs.Halted.{halts}
use Rattle.grammar.proofs.Faulted.{whole_err, ends_here}

stops_at : (S : Setting) (text : List ℕ) (e : ReadFault) → whole S (length text) (tokens text) ≡ Err e → Stops S text e
stops_at S text e h =
    let r = halts (strict S) (length text) e (tokens text) (start S) (whole_err S (length text) (tokens text) e h) in
    record {
      before = r.before;
      here = r.here;
      after = r.after;
      at = r.at;
      split = r.split;
      walked = r.walked;
      breaks = r.breaks;
      goes_on = goes_on S.names r.before r.at 0 0 (r.plain (tokens_plain text)) (walk_free S r.before (start S) r.at r.walked);
      ends_here = ends_here S r.before r.at e r.walked r.here r.breaks;
    }

refused :
    (S : Setting) (text : List ℕ) (e : ReadFault) (o : Option ℕ)
    → length text ≤ 4096
    → first_bad_byte 0 text ≡ o
    → of_good_bytes S text o ≡ Err e
    → Refused S text e
refused S text e None short h k = stops short (none_bad 0 text h) (stops_at S text e k)
refused S text e (Some i) short h k =
    let r = first_bad 0 text i h in
    let at : i ≡ length r.before = omega (arith, r.at) in
    bad_byte short
    (record {
      before = r.before;
      byte = r.byte;
      after = r.after;
      split = r.split;
      good = r.good;
      bad = r.bad;
      told = sym (same_err _ e k) ∙ ap (λ (j : ℕ). fault BadByte (span j 1)) at;
    })

pub names : NamesTheFault
names S text e h = go (ltb 4096 (length text)) refl h
  where
    go :
        (v : Bool)
        → ltb 4096 (length text) ≡ v
        → cond v (Err (fault TooLong (span 0 0))) (of_good_bytes S text (first_bad_byte 0 text)) ≡ Err e
        → Refused S text e
    go true t k = too_long (ltb-true 4096 (length text) t) (sym (same_err _ e k))
    go false t k = refused S text e (first_bad_byte 0 text) (ltb-false 4096 (length text) t) refl k
