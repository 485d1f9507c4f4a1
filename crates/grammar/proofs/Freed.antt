-- A walk that keeps all rules keeps the grammar; a token that cannot stand breaks the grammar too.
use Rattle.std.proofs.Common.{◌≡◌, ℕ, ◌+◌, Bool, true, false, cond, not, ◌&&◌, ltb, List, [], ◌∷◌, Some, None, Ok, Err, Option, refl, ◌∙◌, subst, arith, Result}
use Rattle.ground.specs.declared.place.Place.{Place}
use Rattle.ground.specs.Names.{Name, named}
use Rattle.words.specs.Spelling.{good_name}
use Rattle.words.specs.Sheets.{position}
use Rattle.words.specs.Keywords.{keyword_of, is_record_form}
use Rattle.words.specs.Leaves.{leaf_of}
use Rattle.words.specs.declared.keyword.Keyword.{Keyword}
use Rattle.words.specs.declared.leaf.Leaf.{Leaf}
use Rattle.words.specs.declared.leaf.Leaf.TheVariants.{Truth, Number as ANumber, Name as AName}
use Rattle.words.specs.declared.leaf.LeafFault.{LeafFault}
use Rattle.words.specs.declared.leaf.LeafFault.TheVariants.{TooLarge, Stray}
use Rattle.words.specs.declared.number.Number.TheVariants.{Whole, Tenths}
use Rattle.script.specs.declared.fault.ReadFault.{ReadFault}
use Rattle.script.specs.declared.fault.Reason.TheVariants.{Unexpected, TooDeep, OutOfRange, TooManyForms, UnknownLabel, UnboundName, NoRecords}
use Rattle.script.specs.declared.part.Part.TheVariants.{Binder, Label, Sub, Body}
use Rattle.script.specs.Faults.{fault, span, Out}
use Rattle.script.specs.Tokens.{Token, opening, closing, word, ending}
use Rattle.script.specs.Reads.{Setting}
use Rattle.grammar.specs.Grammar.{strict, free}
use Rattle.grammar.specs.Walk.{Due, a_form, a_keyword, parts, State, state, word_step, form_step, known_step, labelled_step, due_step, step, walk}
use Rattle.grammar.proofs.Outs.{then_ok, then_is}

-- the second answer is the first where that is Ok, and a fault where the first is an unexpected token
abbrev pub Frees : Out State → Out State → Type 0
Frees (Ok s) o = o ≡ Ok s
Frees (Err e) o = e.reason ≡ Unexpected → (e' : ReadFault) × (o ≡ Err e')

rule_frees : (v : Bool) (o u : Out State) (e : ReadFault) → (e.reason ≡ Unexpected → ⊥) → Frees o u → Frees (cond v o (Err e)) u
rule_frees true o u e not_so h = h
rule_frees false o u e not_so h = λ r. absurd (not_so r)

cond_frees : (v : Bool) (o u : Out State) (e e' : ReadFault) → Frees o u → Frees (cond v o (Err e)) (cond v u (Err e'))
cond_frees true o u e e' h = h
cond_frees false o u e e' h = λ r. (e', refl)

too_deep : TooDeep ≡ Unexpected → ⊥
too_deep h = let z : ◌≡◌ {A = ℕ} 0 1 = cc in omega arith

out_of_range : OutOfRange ≡ Unexpected → ⊥
out_of_range h = let z : ◌≡◌ {A = ℕ} 0 1 = cc in omega arith

too_many : TooManyForms ≡ Unexpected → ⊥
too_many h = let z : ◌≡◌ {A = ℕ} 0 1 = cc in omega arith

unknown_label : UnknownLabel ≡ Unexpected → ⊥
unknown_label h = let z : ◌≡◌ {A = ℕ} 0 1 = cc in omega arith

unbound : UnboundName ≡ Unexpected → ⊥
unbound h = let z : ◌≡◌ {A = ℕ} 0 1 = cc in omega arith

no_records : NoRecords ≡ Unexpected → ⊥
no_records h = let z : ◌≡◌ {A = ℕ} 0 1 = cc in omega arith

module _ (S : Setting) where
  word_frees : (ns : List Name) (p : Place) (w : List ℕ) (l : Result Leaf LeafFault) (s : State) → Frees (word_step (strict S) ns p w l s) (word_step free ns p w l s)
  word_frees ns p w (Ok (Truth b)) s = refl
  word_frees ns p w (Ok (ANumber (Whole z))) s = refl
  word_frees ns p w (Ok (ANumber (Tenths z))) s = refl
  word_frees ns p w (Err TooLarge) s = λ h. absurd (out_of_range h)
  word_frees ns p w (Ok AName) s = rule_frees (named ns w) (Ok s) (Ok s) (fault UnboundName p) unbound refl
  word_frees ns p w (Err Stray) s = λ h. (_, refl)

  form_frees : (ns : List Name) (σ : List Due) (d n : ℕ) (t : Token) → Frees (form_step (strict S) ns σ d n t) (form_step free ns σ d n t)
  form_frees ns σ d n (opening i) =
      let s = Ok (state (a_keyword ns ∷ σ) (d + 1) (n + 1)) in
      rule_frees (ltb d 32) (cond (ltb n 512) s (Err (fault TooManyForms (span i 1)))) s (fault TooDeep (span i 1)) too_deep
      (rule_frees (ltb n 512) s s (fault TooManyForms (span i 1)) too_many refl)
  form_frees ns σ d n (closing i) = λ h. (_, refl)
  form_frees ns σ d n (word p w) =
      let s = state σ d (n + 1) in
      let l = leaf_of w in
      rule_frees (ltb n 512) (word_step (strict S) ns p w l s) (word_step free ns p w l s) (fault TooManyForms (span p.start 1)) too_many
      (word_frees ns p w l s)
  form_frees ns σ d n (ending k) = λ h. (_, refl)

  known_frees :
      (ns : List Name) (σ : List Due) (d n : ℕ) (p : Place) (o : Option Keyword)
      → Frees (known_step (strict S) ns σ d n p o) (known_step free ns σ d n p o)
  known_frees ns σ d n p None = λ h. (_, refl)
  known_frees ns σ d n p (Some k) = rule_frees (not (is_record_form k && not S.records)) (Ok _) (Ok _) (fault NoRecords p) no_records refl

  label_frees : (p : Place) (o : Option ℕ) (s : State) → Frees (labelled_step (strict S) p o s) (labelled_step free p (Some 0) s)
  label_frees p None s = λ h. absurd (unknown_label h)
  label_frees p (Some l) s = refl

  due_frees : (σ : List Due) (d n : ℕ) (t : Token) → Frees (due_step (strict S) σ d n t) (due_step free σ d n t)
  due_frees [] d n (opening i) = λ h. (_, refl)
  due_frees [] d n (closing i) = λ h. (_, refl)
  due_frees [] d n (word p w) = λ h. (_, refl)
  due_frees [] d n (ending k) = refl
  due_frees (a_form ns ∷ σ) d n t = form_frees ns σ d n t
  due_frees (a_keyword ns ∷ σ) d n (opening i) = λ h. (_, refl)
  due_frees (a_keyword ns ∷ σ) d n (closing i) = λ h. (_, refl)
  due_frees (a_keyword ns ∷ σ) d n (word p w) = known_frees ns σ d n p (keyword_of w)
  due_frees (a_keyword ns ∷ σ) d n (ending k) = λ h. (_, refl)
  due_frees (parts ns [] b ∷ σ) d n (opening i) = λ h. (_, refl)
  due_frees (parts ns [] b ∷ σ) d n (closing i) = refl
  due_frees (parts ns [] b ∷ σ) d n (word p w) = λ h. (_, refl)
  due_frees (parts ns [] b ∷ σ) d n (ending k) = λ h. (_, refl)
  due_frees (parts ns (Binder ∷ ps) b ∷ σ) d n (opening i) = λ h. (_, refl)
  due_frees (parts ns (Binder ∷ ps) b ∷ σ) d n (closing i) = λ h. (_, refl)
  due_frees (parts ns (Binder ∷ ps) b ∷ σ) d n (word p w) = cond_frees (good_name w) (Ok _) (Ok _) _ _ refl
  due_frees (parts ns (Binder ∷ ps) b ∷ σ) d n (ending k) = λ h. (_, refl)
  due_frees (parts ns (Label ∷ ps) b ∷ σ) d n (opening i) = λ h. (_, refl)
  due_frees (parts ns (Label ∷ ps) b ∷ σ) d n (closing i) = λ h. (_, refl)
  due_frees (parts ns (Label ∷ ps) b ∷ σ) d n (word p w) =
      let s = state (parts ns ps b ∷ σ) d n in
      cond_frees (good_name w) (labelled_step (strict S) p (position S.sheet w) s) (Ok s) _ _ (label_frees p (position S.sheet w) s)
  due_frees (parts ns (Label ∷ ps) b ∷ σ) d n (ending k) = λ h. (_, refl)
  due_frees (parts ns (Sub ∷ ps) b ∷ σ) d n t = form_frees ns (parts ns ps b ∷ σ) d n t
  due_frees (parts ns (Body ∷ ps) b ∷ σ) d n t = form_frees (b ∷ ns) (parts ns ps b ∷ σ) d n t

  step_frees : (s : State) (t : Token) (o : Out State) → step (strict S) s t ≡ o → Frees o (step free s t)
  step_frees s t o e = subst (λ (v : Out State). Frees v (step free s t)) e (due_frees s.due s.open_brackets s.begun t)

  -- an unexpected token breaks the grammar too
  pub stray_free :
      (s : State) (t : Token) (e : ReadFault)
      → step (strict S) s t ≡ Err e
      → e.reason ≡ Unexpected
      → (e' : ReadFault) × (step free s t ≡ Err e')
  stray_free s t e h = step_frees s t (Err e) h

  -- the walk without limits and bindings goes the same way
  pub walk_free : (ws : List Token) (s s' : State) → walk (strict S) s ws ≡ Ok s' → walk free s ws ≡ Ok s'
  walk_free [] s s' h = h
  walk_free (t ∷ ws) s s' h =
      let (x, o, k) = then_ok (step (strict S) s t) (λ (v : State). walk (strict S) v ws) s' h in
      then_is (step free s t) (λ (v : State). walk free v ws) x (step_frees s t (Ok x) o) ∙ walk_free ws x s' k
