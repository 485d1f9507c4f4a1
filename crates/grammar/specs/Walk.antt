-- What is due next, token by token from the left, and which rule a token breaks there.
use Rattle.std.specs.Prelude.{ℕ, ◌+◌, ◌-◌, cond, List, [], ◌∷◌, Some, None, Ok, Err, Option, Result}
use Rattle.ground.specs.declared.place.Place.{Place}
use Rattle.ground.specs.Names.{Name}
use Rattle.words.specs.Spelling.{good_name}
use Rattle.words.specs.Keywords.{keyword_of}
use Rattle.words.specs.Leaves.{leaf_of}
use Rattle.words.specs.declared.keyword.Keyword.{Keyword}
use Rattle.words.specs.declared.leaf.Leaf.{Leaf}
use Rattle.words.specs.declared.leaf.Leaf.TheVariants.{Truth, Number as ANumber, Name as AName}
use Rattle.words.specs.declared.leaf.LeafFault.{LeafFault}
use Rattle.words.specs.declared.leaf.LeafFault.TheVariants.{TooLarge, Stray}
use Rattle.words.specs.declared.number.Number.TheVariants.{Whole, Tenths}
use Rattle.script.specs.declared.fault.ReadFault.{ReadFault}
use Rattle.script.specs.declared.fault.Reason.TheVariants.{Unexpected, TooDeep, OutOfRange, TooManyForms, UnknownLabel, UnboundName, NoRecords}
use Rattle.script.specs.declared.part.Part.{Part}
use Rattle.script.specs.declared.part.Part.TheVariants.{Binder, Label, Sub, Body}
use Rattle.script.specs.Faults.{fault, span, Out}
use Rattle.script.specs.Tokens.{Token, opening, closing, word, ending}
use Rattle.script.specs.Parts.{parts_of}
use Rattle.script.specs.Reads.{Setting, then}
use Rattle.grammar.specs.Grammar.{Rules}

-- a form under these names; a keyword; the parts still due behind a keyword, with the name bound so far, and then its closing bracket
pub data Due : Type 0 where
  a_form : List Name → Due
  a_keyword : List Name → Due
  parts : List Name → List Part → Name → Due

-- what is due, the next first; how many brackets are open; how many forms have begun
pub record State : Type 0 where
  pub due : List Due
  pub open_brackets : ℕ
  pub begun : ℕ

abbrev pub state : List Due → ℕ → ℕ → State
state σ d n = record { due = σ; open_brackets = d; begun = n }

module _ (R : Rules) where
  -- a token that cannot stand here; a bracket that opens too deep is told as that
  abbrev pub stray_at : ℕ → Token → ReadFault
  stray_at d (opening i) = cond (R.deeper d) (fault Unexpected (span i 1)) (fault TooDeep (span i 1))
  stray_at d (closing i) = fault Unexpected (span i 1)
  stray_at d (word p w) = fault Unexpected p
  stray_at d (ending n) = fault Unexpected (span n 0)

  -- a word where a form is due
  abbrev pub word_step : List Name → Place → List ℕ → Result Leaf LeafFault → State → Out State
  word_step ns p w (Ok (Truth b)) after = Ok after
  word_step ns p w (Ok (ANumber (Whole z))) after = Ok after
  word_step ns p w (Ok (ANumber (Tenths z))) after = Ok after
  word_step ns p w (Err TooLarge) after = cond R.large (Ok after) (Err (fault OutOfRange p))
  word_step ns p w (Ok AName) after = cond (R.bound ns w) (Ok after) (Err (fault UnboundName p))
  word_step ns p w (Err Stray) after = Err (fault Unexpected p)

  -- a form is due, and then the rest
  abbrev pub form_step : List Name → List Due → ℕ → ℕ → Token → Out State
  form_step ns σ d n (opening i) =
      cond (R.deeper d) (cond (R.more n) (Ok (state (a_keyword ns ∷ σ) (d + 1) (n + 1))) (Err (fault TooManyForms (span i 1)))) (Err (fault TooDeep (span i 1)))
  form_step ns σ d n (closing i) = Err (fault Unexpected (span i 1))
  form_step ns σ d n (word p w) = cond (R.more n) (word_step ns p w (leaf_of w) (state σ d (n + 1))) (Err (fault TooManyForms (span p.start 1)))
  form_step ns σ d n (ending k) = Err (fault Unexpected (span k 0))

  -- a keyword is due
  abbrev pub known_step : List Name → List Due → ℕ → ℕ → Place → Option Keyword → Out State
  known_step ns σ d n p None = Err (fault Unexpected p)
  known_step ns σ d n p (Some k) = cond (R.known k) (Ok (state (parts ns (parts_of k) [] ∷ σ) d n)) (Err (fault NoRecords p))

  abbrev pub keyword_step : List Name → List Due → ℕ → ℕ → Token → Out State
  keyword_step ns σ d n (opening i) = Err (stray_at d (opening i))
  keyword_step ns σ d n (closing i) = Err (stray_at d (closing i))
  keyword_step ns σ d n (word p w) = known_step ns σ d n p (keyword_of w)
  keyword_step ns σ d n (ending k) = Err (stray_at d (ending k))

  -- a name to be bound is due
  abbrev pub binder_step : List Name → List Part → List Due → ℕ → ℕ → Token → Out State
  binder_step ns ps σ d n (opening i) = Err (stray_at d (opening i))
  binder_step ns ps σ d n (closing i) = Err (stray_at d (closing i))
  binder_step ns ps σ d n (word p w) = cond (good_name w) (Ok (state (parts ns ps w ∷ σ) d n)) (Err (fault Unexpected p))
  binder_step ns ps σ d n (ending k) = Err (stray_at d (ending k))

  -- a label is due
  abbrev pub labelled_step : Place → Option ℕ → State → Out State
  labelled_step p None after = Err (fault UnknownLabel p)
  labelled_step p (Some l) after = Ok after

  abbrev pub label_step : List Name → List Part → Name → List Due → ℕ → ℕ → Token → Out State
  label_step ns ps b σ d n (opening i) = Err (stray_at d (opening i))
  label_step ns ps b σ d n (closing i) = Err (stray_at d (closing i))
  label_step ns ps b σ d n (word p w) = cond (good_name w) (labelled_step p (R.labelled w) (state (parts ns ps b ∷ σ) d n)) (Err (fault Unexpected p))
  label_step ns ps b σ d n (ending k) = Err (stray_at d (ending k))

  -- a closing bracket is due
  abbrev pub close_step : List Due → ℕ → ℕ → Token → Out State
  close_step σ d n (opening i) = Err (stray_at d (opening i))
  close_step σ d n (closing i) = Ok (state σ (d - 1) n)
  close_step σ d n (word p w) = Err (stray_at d (word p w))
  close_step σ d n (ending k) = Err (stray_at d (ending k))

  abbrev pub part_step : List Name → List Part → Name → List Due → ℕ → ℕ → Token → Out State
  part_step ns [] b σ d n t = close_step σ d n t
  part_step ns (Binder ∷ ps) b σ d n t = binder_step ns ps σ d n t
  part_step ns (Label ∷ ps) b σ d n t = label_step ns ps b σ d n t
  part_step ns (Sub ∷ ps) b σ d n t = form_step ns (parts ns ps b ∷ σ) d n t
  part_step ns (Body ∷ ps) b σ d n t = form_step (b ∷ ns) (parts ns ps b ∷ σ) d n t

  -- nothing more is due but the end
  abbrev pub end_step : ℕ → ℕ → Token → Out State
  end_step d n (opening i) = Err (fault Unexpected (span i 1))
  end_step d n (closing i) = Err (fault Unexpected (span i 1))
  end_step d n (word p w) = Err (fault Unexpected p)
  end_step d n (ending k) = Ok (state [] d n)

  -- one token where these are due
  abbrev pub due_step : List Due → ℕ → ℕ → Token → Out State
  due_step [] d n t = end_step d n t
  due_step (a_form ns ∷ σ) d n t = form_step ns σ d n t
  due_step (a_keyword ns ∷ σ) d n t = keyword_step ns σ d n t
  due_step (parts ns ps b ∷ σ) d n t = part_step ns ps b σ d n t

  abbrev pub step : State → Token → Out State
  step s t = due_step s.due s.open_brackets s.begun t

  abbrev pub walk : State → List Token → Out State
  walk s [] = Ok s
  walk s (t ∷ ts) = then (step s t) (λ s'. walk s' ts)

-- a script is due
abbrev pub start : Setting → State
start S = state (a_form S.names ∷ []) 0 0
