-- Reading from the left: the form of a script, or the first fault.
use Rattle.std.specs.Prelude.{ℕ, zero, suc, ◌+◌, ◌-◌, Bool, true, false, cond, not, ◌&&◌, List, [], ◌∷◌, length, Some, None, Ok, Err, Option, Result, ◌==◌, nat_le, nat_lt}
use Rattle.ground.specs.declared.place.Place.{Place}
use Rattle.ground.specs.Names.{Name, named}
use Rattle.ground.specs.Forms.{Form, name, number, tenths, truth}
use Rattle.words.specs.Spelling.{good_name}
use Rattle.words.specs.Sheets.{position}
use Rattle.words.specs.Keywords.{keyword_of, is_record_form}
use Rattle.words.specs.Leaves.{leaf_of}
use Rattle.words.specs.declared.keyword.Keyword.{Keyword}
use Rattle.words.specs.declared.leaf.Leaf.{Leaf}
use Rattle.words.specs.declared.leaf.Leaf.TheVariants.{Truth, Number as ANumber, Name as AName}
use Rattle.words.specs.declared.leaf.LeafFault.{LeafFault}
use Rattle.words.specs.declared.number.Number.TheVariants.{Whole, Tenths}
use Rattle.script.specs.declared.fault.ReadFault.{ReadFault}
use Rattle.script.specs.declared.fault.Reason.TheVariants.{TooLong, BadByte, Unexpected, TooDeep, TooManyForms, UnknownLabel, UnboundName, NoRecords}
use Rattle.script.specs.declared.part.Part.{Part}
use Rattle.script.specs.declared.part.Part.TheVariants.{Binder, Label, Sub, Body}
use Rattle.script.specs.Faults.{fault, span, of_leaf, Out}
use Rattle.script.specs.Tokens.{Token, opening, closing, word, ending, tokens, first, behind}
use Rattle.script.specs.Nodes.{nodes}
use Rattle.script.specs.Parts.{parts_of, Pieces, made}

-- what a script is read with: whether record forms are known, the labels of the sheet by number, the names of definitions and the built-in ones
pub record Setting : Type 0 where
  pub records : Bool
  pub sheet : List Name
  pub names : List Name

-- what comes next, unless there was a fault
abbrev pub then : {A B : Type 0} → Out A → (A → Out B) → Out B
then (Ok x) k = k x
then (Err e) k = Err e

-- the fault of a token that cannot stand where it stands, with d brackets still allowed inside
abbrev pub wrong : ℕ → Token → ReadFault
wrong d (opening i) = cond (d == 0) (fault TooDeep (span i 1)) (fault Unexpected (span i 1))
wrong d (closing i) = fault Unexpected (span i 1)
wrong d (word p w) = fault Unexpected p
wrong d (ending n) = fault Unexpected (span n 0)

-- a closing bracket is due: its byte
abbrev pub close_at : ℕ → Token → List Token → Out (ℕ × List Token)
close_at d (opening i) ts = Err (wrong d (opening i))
close_at d (closing i) ts = Ok (i, ts)
close_at d (word p w) ts = Err (wrong d (word p w))
close_at d (ending n) ts = Err (wrong d (ending n))

-- a name to be bound is due
abbrev pub binder_at : ℕ → Token → List Token → Out (Name × List Token)
binder_at d (opening i) ts = Err (wrong d (opening i))
binder_at d (closing i) ts = Err (wrong d (closing i))
binder_at d (word p w) ts = cond (good_name w) (Ok (w, ts)) (Err (wrong d (word p w)))
binder_at d (ending n) ts = Err (wrong d (ending n))

-- a label is due: its number on the sheet
abbrev pub numbered : Place → Option ℕ → List Token → Out (ℕ × List Token)
numbered p None ts = Err (fault UnknownLabel p)
numbered p (Some l) ts = Ok (l, ts)

abbrev pub label_at : List Name → ℕ → Token → List Token → Out (ℕ × List Token)
label_at sheet d (opening i) ts = Err (wrong d (opening i))
label_at sheet d (closing i) ts = Err (wrong d (closing i))
label_at sheet d (word p w) ts = cond (good_name w) (numbered p (position sheet w) ts) (Err (wrong d (word p w)))
label_at sheet d (ending n) ts = Err (wrong d (ending n))

-- a keyword is due, which may be one of a record form where these are known
abbrev pub known : Bool → Place → Option Keyword → List Token → Out (Keyword × List Token)
known records p None ts = Err (fault Unexpected p)
known records p (Some k) ts = cond (is_record_form k && not records) (Err (fault NoRecords p)) (Ok (k, ts))

abbrev pub keyword_at : Bool → ℕ → Token → List Token → Out (Keyword × List Token)
keyword_at records d (opening i) ts = Err (wrong d (opening i))
keyword_at records d (closing i) ts = Err (wrong d (closing i))
keyword_at records d (word p w) ts = known records p (keyword_of w) ts
keyword_at records d (ending n) ts = Err (wrong d (ending n))

-- a word is a form by itself
abbrev pub leaf_form : List Name → Place → List ℕ → Result Leaf LeafFault → Out Form
leaf_form ns p w (Ok (Truth b)) = Ok (truth p b)
leaf_form ns p w (Ok (ANumber (Whole z))) = Ok (number p z)
leaf_form ns p w (Ok (ANumber (Tenths z))) = Ok (tenths p z)
leaf_form ns p w (Ok AName) = cond (named ns w) (Ok (name p w)) (Err (fault UnboundName p))
leaf_form ns p w (Err why) = Err (fault (of_leaf why) p)

-- how a form is read: under these names, with so many forms begun before it
abbrev pub Reads : Type 0
Reads = List Name → ℕ → List Token → Out (Form × List Token)

abbrev pub with_form : Form → Pieces → Pieces
with_form f q = record { binder = q.binder; label = q.label; forms = f ∷ q.forms }

module _ (S : Setting) (stop : ℕ) where
  -- what is due behind a keyword, part by part; n forms have begun, b is the name bound and l the label so far
  abbrev pub parts_at : Reads → ℕ → List Name → ℕ → List Part → Name → ℕ → List Token → Out (Pieces × List Token)
  parts_at rd d ns n [] b l ts = Ok (record { binder = b; label = l; forms = [] }, ts)
  parts_at rd d ns n (Binder ∷ ps) b l ts = then (binder_at d (first stop ts) (behind ts)) (λ x. parts_at rd d ns n ps x.0 l x.1)
  parts_at rd d ns n (Label ∷ ps) b l ts = then (label_at S.sheet d (first stop ts) (behind ts)) (λ x. parts_at rd d ns n ps b x.0 x.1)
  parts_at rd d ns n (Sub ∷ ps) b l ts =
      then (rd ns n ts) (λ x. then (parts_at rd d ns (n + length (nodes x.0)) ps b l x.1) (λ y. Ok (with_form x.0 y.0, y.1)))
  parts_at rd d ns n (Body ∷ ps) b l ts =
      then (rd (b ∷ ns) n ts) (λ x. then (parts_at rd d ns (n + length (nodes x.0)) ps b l x.1) (λ y. Ok (with_form x.0 y.0, y.1)))

  -- behind the opening bracket at the byte i: the keyword, its parts, the closing bracket
  abbrev pub bracketed : Reads → ℕ → List Name → ℕ → ℕ → List Token → Out (Form × List Token)
  bracketed rd d ns n i ts =
      then (keyword_at S.records d (first stop ts) (behind ts))
      (λ k. then (parts_at rd d ns (n + 1) (parts_of k.0) [] 0 k.1)
      (λ q. then (close_at d (first stop q.1) (behind q.1)) (λ c. Ok (made k.0 (span i (c.0 + 1 - i)) q.0, c.1))))

  -- a form is due; inside it, if it may open a bracket, d more are allowed
  abbrev pub form_at : Bool → Reads → ℕ → List Name → ℕ → Token → List Token → Out (Form × List Token)
  form_at may rd d ns n (opening i) ts =
      cond may (cond (nat_lt n 512) (bracketed rd d ns n i ts) (Err (fault TooManyForms (span i 1)))) (Err (fault TooDeep (span i 1)))
  form_at may rd d ns n (closing i) ts = Err (fault Unexpected (span i 1))
  form_at may rd d ns n (word p w) ts =
      cond (nat_lt n 512) (then (leaf_form ns p w (leaf_of w)) (λ f. Ok (f, ts))) (Err (fault TooManyForms (span p.start 1)))
  form_at may rd d ns n (ending k) ts = Err (fault Unexpected (span k 0))

  -- a form is due, and it may nest d brackets
  abbrev pub reads : ℕ → Reads
  reads zero ns n ts = form_at false (λ ms k us. Err (fault TooDeep (span 0 0))) 0 ns n (first stop ts) (behind ts)
  reads (suc d) ns n ts = form_at true (reads d) d ns n (first stop ts) (behind ts)

  -- nothing stands behind the whole form
  abbrev pub finished : Form → Token → Out Form
  finished f (opening i) = Err (fault Unexpected (span i 1))
  finished f (closing i) = Err (fault Unexpected (span i 1))
  finished f (word p w) = Err (fault Unexpected p)
  finished f (ending n) = Ok f

  abbrev pub whole : List Token → Out Form
  whole ts = then (reads 32 S.names 0 ts) (λ x. finished x.0 (first stop x.1))

abbrev pub printable : ℕ → Bool
printable b = nat_le 32 b && nat_le b 126

-- the first byte outside 32 to 126, counted from i
abbrev pub first_bad_byte : ℕ → List ℕ → Option ℕ
first_bad_byte i [] = None
first_bad_byte i (b ∷ bs) = cond (printable b) (first_bad_byte (i + 1) bs) (Some i)

abbrev pub of_good_bytes : Setting → List ℕ → Option ℕ → Out Form
of_good_bytes S text (Some i) = Err (fault BadByte (span i 1))
of_good_bytes S text None = whole S (length text) (tokens text)

-- what the reader makes of a script
abbrev pub reading : Setting → List ℕ → Out Form
reading S text = cond (nat_lt 4096 (length text)) (Err (fault TooLong (span 0 0))) (of_good_bytes S text (first_bad_byte 0 text))
