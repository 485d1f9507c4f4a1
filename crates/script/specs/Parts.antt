-- What stands behind each keyword, and the form that it makes.
use Rattle.std.specs.Prelude.{ℕ, false, List, [], ◌∷◌}
use Rattle.ground.specs.declared.place.Place.{Place}
use Rattle.ground.specs.Names.{Name}
use Rattle.ground.specs.Forms.{Form, truth, fun, call, let_in, fix, if_then, empty_record, extend, select, remove}
use Rattle.words.specs.declared.keyword.Keyword.{Keyword}
use Rattle.words.specs.declared.keyword.Keyword.TheVariants.{Fun, Call, Let, Rec, If, Record, With, Get, Drop}
use Rattle.script.specs.declared.part.Part.{Part}
use Rattle.script.specs.declared.part.Part.TheVariants.{Binder, Label, Sub, Body}
use Rattle.script.specs.Faults.{span}

-- (fun n S), (call S S), (let n S S), (rec n S), (if S S S), (record), (with S l S), (get S l), (drop S l)
abbrev pub parts_of : Keyword → List Part
parts_of Fun = Binder ∷ Body ∷ []
parts_of Call = Sub ∷ Sub ∷ []
parts_of Let = Binder ∷ Sub ∷ Body ∷ []
parts_of Rec = Binder ∷ Body ∷ []
parts_of If = Sub ∷ Sub ∷ Sub ∷ []
parts_of Record = []
parts_of With = Sub ∷ Label ∷ Sub ∷ []
parts_of Get = Sub ∷ Label ∷ []
parts_of Drop = Sub ∷ Label ∷ []

-- what was read behind a keyword: the name bound, the label's number, the sub-forms
pub record Pieces : Type 0 where
  pub binder : Name
  pub label : ℕ
  pub forms : List Form

-- the first form of a list; each list here has it
abbrev pub first_of : List Form → Form
first_of [] = truth (span 0 0) false
first_of (f ∷ fs) = f

abbrev pub others_of : List Form → List Form
others_of [] = []
others_of (f ∷ fs) = fs

abbrev pub one : Pieces → Form
one q = first_of q.forms

abbrev pub two : Pieces → Form
two q = first_of (others_of q.forms)

abbrev pub three : Pieces → Form
three q = first_of (others_of (others_of q.forms))

-- the form that a keyword makes of what stands behind it
abbrev pub made : Keyword → Place → Pieces → Form
made Fun p q = fun p q.binder (one q)
made Call p q = call p (one q) (two q)
made Let p q = let_in p q.binder (one q) (two q)
made Rec p q = fix p q.binder (one q)
made If p q = if_then p (one q) (two q) (three q)
made Record p q = empty_record p
made With p q = extend p (one q) q.label (two q)
made Get p q = select p (one q) q.label
made Drop p q = remove p (one q) q.label
