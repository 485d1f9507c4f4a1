-- What is a script, and which form it is, in the words of the grammar.
use Rattle.std.specs.Prelude.{◌≡◌, ℕ, suc, ◌+◌, ◌-◌, max, Bool, true, false, not, ◌&&◌, List, [], ◌∷◌, ℤ, pos, Some, Option, nat_lt, Ok, Err}
use Rattle.ground.specs.declared.place.Place.{Place}
use Rattle.ground.specs.Names.{Name, named}
use Rattle.ground.specs.Forms.{Form, name, number, tenths, truth, fun, call, let_in, fix, if_then, empty_record, extend, select, remove}
use Rattle.words.specs.Spelling.{good_name}
use Rattle.words.specs.Sheets.{position}
use Rattle.words.specs.Keywords.{spelling, is_record_form}
use Rattle.words.specs.Leaves.{leaf_of}
use Rattle.words.specs.declared.keyword.Keyword.{Keyword}
use Rattle.words.specs.declared.leaf.Leaf.TheVariants.{Truth, Number as ANumber, Name as AName}
use Rattle.words.specs.declared.leaf.LeafFault.TheVariants.{TooLarge}
use Rattle.words.specs.declared.number.Number.TheVariants.{Whole, Tenths}
use Rattle.script.specs.declared.part.Part.{Part}
use Rattle.script.specs.declared.part.Part.TheVariants.{Binder, Label, Sub, Body}
use Rattle.script.specs.Faults.{span}
use Rattle.script.specs.Tokens.{Token, opening, closing, word}
use Rattle.script.specs.Parts.{parts_of, Pieces, made}
use Rattle.script.specs.Reads.{Setting, with_form}

-- what the grammar leaves to rules: which forms are known, the number of a label, which names are bound, whether a number may be out of range,
-- whether a bracket may open inside d others, whether a form may begin after n others
pub record Rules : Type 0 where
  pub known : Keyword → Bool
  pub labelled : Name → Option ℕ
  pub bound : List Name → Name → Bool
  pub large : Bool
  pub deeper : ℕ → Bool
  pub more : ℕ → Bool

-- the rules of a setting
abbrev pub strict : Setting → Rules
strict S =
    record {
      known = λ k. not (is_record_form k && not S.records);
      labelled = position S.sheet;
      bound = named;
      large = false;
      deeper = λ d. nat_lt d 32;
      more = λ n. nat_lt n 512;
    }

-- limits and bindings apart: the grammar alone
abbrev pub free : Rules
free =
    record { known = λ k. true; labelled = λ w. Some 0; bound = λ ns w. true; large = true; deeper = λ d. true; more = λ n. true }

-- a word that is a form by itself
pub data SaysWord (R : Rules) (ns : List Name) (p : Place) (w : List ℕ) : Form → Type 0 where
  a_truth : {b : Bool} → leaf_of w ≡ Ok (Truth b) → SaysWord R ns p w (truth p b)
  a_whole : {z : ℤ} → leaf_of w ≡ Ok (ANumber (Whole z)) → SaysWord R ns p w (number p z)
  some_tenths : {z : ℤ} → leaf_of w ≡ Ok (ANumber (Tenths z)) → SaysWord R ns p w (tenths p z)
  too_large : leaf_of w ≡ Err TooLarge → R.large ≡ true → SaysWord R ns p w (number p (pos 0))
  a_name : leaf_of w ≡ Ok AName → R.bound ns w ≡ true → SaysWord R ns p w (name p w)

mutual
  -- the tokens are the form, under these names, and then the rest
  pub data Says (R : Rules) : List Name → List Token → Form → List Token → Type 0 where
    by_word :
        {ns : List Name} {p : Place} {w : List ℕ} {f : Form} {rest : List Token}
        → SaysWord R ns p w f
        → Says R ns (word p w ∷ rest) f rest
    in_brackets :
        {ns : List Name} {i : ℕ} {p : Place} {ts rest : List Token}
        → (j : ℕ) (k : Keyword) (q : Pieces)
        → R.known k ≡ true
        → Behind R ns (parts_of k) [] 0 ts q (closing j ∷ rest)
        → Says R ns (opening i ∷ (word p (spelling k) ∷ ts)) (made k (span i (j + 1 - i)) q) rest

  -- the tokens are the parts that stand behind a keyword, and then the rest; b is the name bound and l the label so far
  pub data Behind (R : Rules) : List Name → List Part → Name → ℕ → List Token → Pieces → List Token → Type 0 where
    no_more : {ns : List Name} {b : Name} {l : ℕ} {rest : List Token} → Behind R ns [] b l rest (record { binder = b; label = l; forms = [] }) rest
    binder :
        {ns : List Name} {ps : List Part} {b : Name} {l : ℕ} {p : Place} {w : Name} {ts rest : List Token} {q : Pieces}
        → good_name w ≡ true
        → Behind R ns ps w l ts q rest
        → Behind R ns (Binder ∷ ps) b l (word p w ∷ ts) q rest
    label :
        {ns : List Name} {ps : List Part} {b : Name} {l m : ℕ} {p : Place} {w : Name} {ts rest : List Token} {q : Pieces}
        → good_name w ≡ true
        → R.labelled w ≡ Some m
        → Behind R ns ps b m ts q rest
        → Behind R ns (Label ∷ ps) b l (word p w ∷ ts) q rest
    sub :
        {ns : List Name} {ps : List Part} {b : Name} {l : ℕ} {ts us rest : List Token} {f : Form} {q : Pieces}
        → Says R ns ts f us
        → Behind R ns ps b l us q rest
        → Behind R ns (Sub ∷ ps) b l ts (with_form f q) rest
    body :
        {ns : List Name} {ps : List Part} {b : Name} {l : ℕ} {ts us rest : List Token} {f : Form} {q : Pieces}
        → Says R (b ∷ ns) ts f us
        → Behind R ns ps b l us q rest
        → Behind R ns (Body ∷ ps) b l ts (with_form f q) rest

-- how deep the brackets of a form nest
abbrev pub deep : Form → ℕ
deep (name p n) = 0
deep (number p z) = 0
deep (tenths p z) = 0
deep (truth p b) = 0
deep (fun p n B) = suc (deep B)
deep (call p F S) = suc (max (deep F) (deep S))
deep (let_in p n S B) = suc (max (deep S) (deep B))
deep (fix p n B) = suc (deep B)
deep (if_then p C S B) = suc (max (deep C) (max (deep S) (deep B)))
deep (empty_record p) = 1
deep (extend p R l S) = suc (max (deep R) (deep S))
deep (select p R l) = suc (deep R)
deep (remove p R l) = suc (deep R)
