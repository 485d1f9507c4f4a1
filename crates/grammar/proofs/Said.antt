-- The tokens that say a form take the walk through that form.
use Rattle.std.proofs.Common.{◌≡◌, ℕ, ◌+◌, ◌-◌, List, [], ◌∷◌, Ok, Err, Option, refl, ap, ◌∙◌, Result}
use Rattle.ground.specs.declared.place.Place.{Place}
use Rattle.ground.specs.Names.{Name}
use Rattle.ground.specs.Forms.{Form}
use Rattle.words.specs.Spelling.{good_name}
use Rattle.words.specs.Leaves.{leaf_of}
use Rattle.words.specs.declared.keyword.Keyword.{Keyword}
use Rattle.words.specs.declared.leaf.Leaf.{Leaf}
use Rattle.words.specs.declared.leaf.LeafFault.{LeafFault}
use Rattle.script.specs.declared.fault.Reason.TheVariants.{Unexpected}
use Rattle.script.specs.declared.part.Part.{Part}
use Rattle.script.specs.declared.part.Part.TheVariants.{Sub, Body}
use Rattle.script.specs.Faults.{fault}
use Rattle.script.specs.Tokens.{Token}
use Rattle.script.specs.Parts.{Pieces}
use Rattle.script.specs.Reads.{then}
use Rattle.grammar.specs.Grammar.{free, SaysWord, a_truth, a_whole, some_tenths, too_large, a_name}
use Rattle.grammar.specs.Grammar.{Says, by_word, in_brackets, Behind, no_more, binder, label, sub, body}
use Rattle.grammar.specs.Walk.{Due, a_form, parts, State, state, word_step, known_step, walk}
use Rattle.grammar.proofs.Outs.{then_is}
use Rattle.grammar.proofs.Thens.{then_on}
use Rattle.grammar.proofs.Spelled.{spelling_keyword}

-- the walk over the tokens goes on with these due, over the rest
pub record Comes (s : State) (ts : List Token) (σ : List Due) (rest : List Token) : Type 0 where
  pub inside : ℕ
  pub begun : ℕ
  pub goes : walk free s ts ≡ walk free (state σ inside begun) rest

leaf_comes : {ns : List Name} {p : Place} {w : List ℕ} {f : Form} → SaysWord free ns p w f → (s : State) → word_step free ns p w (leaf_of w) s ≡ Ok s
leaf_comes {ns} {p} {w} (a_truth e) s = ap (λ (l : Result Leaf LeafFault). word_step free ns p w l s) e
leaf_comes {ns} {p} {w} (a_whole e) s = ap (λ (l : Result Leaf LeafFault). word_step free ns p w l s) e
leaf_comes {ns} {p} {w} (some_tenths e) s = ap (λ (l : Result Leaf LeafFault). word_step free ns p w l s) e
leaf_comes {ns} {p} {w} (too_large e h) s = ap (λ (l : Result Leaf LeafFault). word_step free ns p w l s) e
leaf_comes {ns} {p} {w} (a_name e h) s = ap (λ (l : Result Leaf LeafFault). word_step free ns p w l s) e

sub_comes : {ms : List Name} {ts rest : List Token} {f : Form} → Says free ms ts f rest
    → (ns : List Name) (ps : List Part) (b : Name) (σ : List Due) (o n : ℕ)
    → walk free (state (parts ns (Sub ∷ ps) b ∷ σ) o n) ts ≡ walk free (state (a_form ns ∷ (parts ns ps b ∷ σ)) o n) ts
sub_comes (by_word s) ns ps b σ o n = refl
sub_comes (in_brackets j k q e r) ns ps b σ o n = refl

body_comes : {ms : List Name} {ts rest : List Token} {f : Form} → Says free ms ts f rest
    → (ns : List Name) (ps : List Part) (b : Name) (σ : List Due) (o n : ℕ)
    → walk free (state (parts ns (Body ∷ ps) b ∷ σ) o n) ts ≡ walk free (state (a_form (b ∷ ns) ∷ (parts ns ps b ∷ σ)) o n) ts
body_comes (by_word s) ns ps b σ o n = refl
body_comes (in_brackets j k q e r) ns ps b σ o n = refl

mutual
  pub says_comes :
      {ns : List Name} {ts rest : List Token} {f : Form}
      → Says free ns ts f rest
      → (σ : List Due) (o n : ℕ)
      → Comes (state (a_form ns ∷ σ) o n) ts σ rest
  says_comes {rest = rest} (by_word s) σ o n =
      record { inside = o; begun = n + 1; goes = then_is _ (λ (v : State). walk free v rest) (state σ o (n + 1)) (leaf_comes s (state σ o (n + 1))) }
  says_comes {ns} {rest = rest} (in_brackets {p = p} {ts = ts} j k q e r) σ o n =
      let c = parts_come r σ (o + 1) (n + 1) in
      record {
        inside = c.inside - 1;
        begun = c.begun;
        goes =
            ap (λ (m : Option Keyword). then (known_step free ns σ (o + 1) (n + 1) p m) (λ (v : State). walk free v ts)) (spelling_keyword k)
            ∙ c.goes;
      }

  parts_come :
      {ns : List Name} {ps : List Part} {b : Name} {l : ℕ} {ts rest : List Token} {q : Pieces}
      → Behind free ns ps b l ts q rest
      → (σ : List Due) (o n : ℕ)
      → Comes (state (parts ns ps b ∷ σ) o n) ts (parts ns [] q.binder ∷ σ) rest
  parts_come no_more σ o n = record { inside = o; begun = n; goes = refl }
  parts_come {ns} (binder {ps = ps} {p = p} {w = w} {ts = ts} g r) σ o n =
      let c = parts_come r σ o n in
      record {
        inside = c.inside;
        begun = c.begun;
        goes = then_on (good_name w) (Ok (state (parts ns ps w ∷ σ) o n)) (Err (fault Unexpected p)) (λ (v : State). walk free v ts) g ∙ c.goes;
      }
  parts_come {ns} {b = b} (label {ps = ps} {p = p} {w = w} {ts = ts} g e r) σ o n =
      let c = parts_come r σ o n in
      record {
        inside = c.inside;
        begun = c.begun;
        goes = then_on (good_name w) (Ok (state (parts ns ps b ∷ σ) o n)) (Err (fault Unexpected p)) (λ (v : State). walk free v ts) g ∙ c.goes;
      }
  parts_come {ns} {b = b} (sub {ps = ps} s r) σ o n =
      let a = says_comes s (parts ns ps b ∷ σ) o n in
      let c = parts_come r σ a.inside a.begun in
      record { inside = c.inside; begun = c.begun; goes = sub_comes s ns ps b σ o n ∙ a.goes ∙ c.goes }
  parts_come {ns} {b = b} (body {ps = ps} s r) σ o n =
      let a = says_comes s (parts ns ps b ∷ σ) o n in
      let c = parts_come r σ a.inside a.begun in
      record { inside = c.inside; begun = c.begun; goes = body_comes s ns ps b σ o n ∙ a.goes ∙ c.goes }
