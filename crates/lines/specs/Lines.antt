-- What a line says, by its words: the calls of a bare system and the choice of one. Codes are by number, labels and classes too.
use Rattle.std.specs.Prelude.{ℕ, ◌^◌, min, Bool, true, false, cond, ◌&&◌, List, [], ◌∷◌, is_some, Some, None, codes, Option, ◌==◌, bit_or}
use Rattle.ground.specs.Names.{Name, same_name}
use Rattle.ground.specs.declared.sort.Sort.TheVariants.{«Type» as TypeSort, Field as FieldSort, Row as RowSort}
use Rattle.ground.specs.declared.sort.Labels.{Labels}
use Rattle.ground.specs.declared.head.Head.{Head}
use Rattle.ground.specs.declared.head.Head.TheVariants.{Whole, Tenth, Flag, To, List as ListOf, Record, Absent, Has, Empty, Row as RowWith}
use Rattle.words.specs.Numbers.{digits, capped}
use Rattle.lines.specs.declared.ask.Ask.{Ask}
use Rattle.lines.specs.declared.ask.Ask.TheVariants.{Fresh, Build, Equate, Demand}
use Rattle.lines.specs.declared.line.Pile.{Pile}
use Rattle.lines.specs.declared.verb.Verb.{Verb}
use Rattle.lines.specs.declared.verb.Verb.TheVariants.{Fresh as FreshVerb, Build as BuildVerb, Equate as EquateVerb, Demand as DemandVerb, Look as LookVerb, Tally as TallyVerb, Mark as MarkVerb, Keep as KeepVerb, Back as BackVerb, Pile as PileVerb}
use Rattle.lines.specs.declared.line.Call.{Call}
use Rattle.lines.specs.declared.line.Call.TheVariants.{Ask as AskFor, Look, Tally, Mark, Keep, Back, Pile as Choose}
use Rattle.lines.specs.Words.{first, others, ended}

abbrev pub and_then : {A B : Type 0} → Option A → (A → Option B) → Option B
and_then None k = None
and_then (Some x) k = k x

-- the number that one or more digits write, a large one told as 100,000, which is out of every range
abbrev pub number : Name → Option ℕ
number w = capped (digits w)

-- the number of a code: behind a # (35)
abbrev pub code_number : Name → Option ℕ
code_number [] = None
code_number (b ∷ w) = cond (b == 35) (number w) None

abbrev pub next_number : List Name → Option ℕ
next_number ws = and_then (first ws) number

abbrev pub next_code : List Name → Option ℕ
next_code ws = and_then (first ws) code_number

-- x, where no word is left
abbrev pub alone : {A : Type 0} → A → List Name → Option A
alone x ws = cond (ended ws) (Some x) None

-- each word is the number of a code
abbrev pub all_codes : List Name → Bool
all_codes [] = true
all_codes (w ∷ ws) = is_some (code_number w) && all_codes ws

-- the labels that are left, a bit each; one above 23 is told as 24, which no system knows
abbrev pub labels_from : ℕ → List Name → Option Labels
labels_from set [] = Some (record { 0 = set })
labels_from set (w ∷ ws) = and_then (number w) (λ l. labels_from (bit_or set (2 ^ min l 24)) ws)

-- fresh: type | field | row L L …
abbrev pub fresh_of : List Name → Option Ask
fresh_of ws =
    and_then (first ws) (λ w.
    cond (same_name w (codes "type")) (alone (Fresh TypeSort) (others ws))
    (cond (same_name w (codes "field")) (alone (Fresh FieldSort) (others ws))
    (cond (same_name w (codes "row")) (and_then (labels_from 0 (others ws)) (λ m. Some (Fresh (RowSort m)))) None)))

abbrev pub head_of : Name → Option Head
head_of w =
    cond (same_name w (codes "whole")) (Some Whole)
    (cond (same_name w (codes "tenth")) (Some Tenth)
    (cond (same_name w (codes "flag")) (Some Flag)
    (cond (same_name w (codes "to")) (Some To)
    (cond (same_name w (codes "list")) (Some ListOf)
    (cond (same_name w (codes "record")) (Some Record)
    (cond (same_name w (codes "absent")) (Some Absent)
    (cond (same_name w (codes "has")) (Some Has)
    (cond (same_name w (codes "empty")) (Some Empty)
    (cond (same_name w (codes "row")) (Some RowWith) None)))))))))

abbrev pub no_labels : Labels
no_labels = record { 0 = 0 }

-- no child, one, two; a set of labels; a label, two children and a set
abbrev pub leaf_of : Head → List Name → Option Ask
leaf_of h ws = alone (Build h None None 0 no_labels) ws

abbrev pub over_one : Head → List Name → Option Ask
over_one h ws = and_then (next_code ws) (λ a. alone (Build h (Some a) None 0 no_labels) (others ws))

abbrev pub over_two : Head → List Name → Option Ask
over_two h ws = and_then (next_code ws) (λ a. and_then (next_code (others ws)) (λ b. alone (Build h (Some a) (Some b) 0 no_labels) (others (others ws))))

abbrev pub over_labels : Head → List Name → Option Ask
over_labels h ws = and_then (labels_from 0 ws) (λ m. Some (Build h None None 0 m))

abbrev pub over_all : Head → List Name → Option Ask
over_all h ws =
    and_then (next_number ws) (λ l.
    and_then (next_code (others ws)) (λ a.
    and_then (next_code (others (others ws))) (λ b.
    and_then (labels_from 0 (others (others (others ws)))) (λ m. Some (Build h (Some a) (Some b) (min l 255) m)))))

-- build: whole | tenth | flag | absent | to A B | list A | record A | has A | empty L L … | row LABEL A B L L …
abbrev pub build_head : Head → List Name → Option Ask
build_head Whole ws = leaf_of Whole ws
build_head Tenth ws = leaf_of Tenth ws
build_head Flag ws = leaf_of Flag ws
build_head To ws = over_two To ws
build_head ListOf ws = over_one ListOf ws
build_head Record ws = over_one Record ws
build_head Absent ws = leaf_of Absent ws
build_head Has ws = over_one Has ws
build_head Empty ws = over_labels Empty ws
build_head RowWith ws = over_all RowWith ws

abbrev pub build_of : List Name → Option Ask
build_of ws = and_then (and_then (first ws) head_of) (λ h. build_head h (others ws))

-- equate: A B
abbrev pub equate_of : List Name → Option Ask
equate_of ws = and_then (next_code ws) (λ a. and_then (next_code (others ws)) (λ b. alone (Equate a b) (others (others ws))))

-- demand: CLASS A
abbrev pub demand_of : List Name → Option Ask
demand_of ws = and_then (next_number ws) (λ k. and_then (next_code (others ws)) (λ a. alone (Demand (min k 255) a) (others (others ws))))

abbrev pub pile_of : Name → Option Pile
pile_of w =
    cond (same_name w (codes "trees")) (Some (record { records = false; classes = false }))
    (cond (same_name w (codes "rows")) (Some (record { records = true; classes = false }))
    (cond (same_name w (codes "classtrees")) (Some (record { records = false; classes = true }))
    (cond (same_name w (codes "classrows")) (Some (record { records = true; classes = true })) None)))

abbrev pub asking : Option Ask → Option Call
asking None = None
asking (Some q) = Some (AskFor q)

-- look: A
abbrev pub look_of : List Name → Option Call
look_of ws = and_then (next_code ws) (λ a. alone (Look a) (others ws))

-- pile: NAME C
abbrev pub choose_of : List Name → Option Call
choose_of ws = and_then (and_then (first ws) pile_of) (λ p. and_then (next_number (others ws)) (λ n. alone (Choose p n) (others (others ws))))

-- what the first word asks for
abbrev pub verb_of : Name → Option Verb
verb_of w =
    cond (same_name w (codes "fresh")) (Some FreshVerb)
    (cond (same_name w (codes "build")) (Some BuildVerb)
    (cond (same_name w (codes "equate")) (Some EquateVerb)
    (cond (same_name w (codes "demand")) (Some DemandVerb)
    (cond (same_name w (codes "look")) (Some LookVerb)
    (cond (same_name w (codes "tally")) (Some TallyVerb)
    (cond (same_name w (codes "mark")) (Some MarkVerb)
    (cond (same_name w (codes "keep")) (Some KeepVerb)
    (cond (same_name w (codes "back")) (Some BackVerb)
    (cond (same_name w (codes "pile")) (Some PileVerb) None)))))))))

abbrev pub call_behind : Verb → List Name → Option Call
call_behind FreshVerb ws = asking (fresh_of ws)
call_behind BuildVerb ws = asking (build_of ws)
call_behind EquateVerb ws = asking (equate_of ws)
call_behind DemandVerb ws = asking (demand_of ws)
call_behind LookVerb ws = look_of ws
call_behind TallyVerb ws = alone Tally ws
call_behind MarkVerb ws = alone Mark ws
call_behind KeepVerb ws = alone Keep ws
call_behind BackVerb ws = alone Back ws
call_behind PileVerb ws = choose_of ws

-- the call that the words say, by the first of them
abbrev pub call_named : Name → List Name → Option Call
call_named w ws = and_then (verb_of w) (λ v. call_behind v ws)

abbrev pub call_of : List Name → Option Call
call_of ws = and_then (first ws) (λ w. call_named w (others ws))
