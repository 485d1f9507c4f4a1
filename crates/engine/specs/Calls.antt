-- Which calls the typing of a form makes, in their order.
use Rattle.std.specs.Prelude.{ℕ, ◌/◌, ◌%◌, ◌^◌, Bool, true, false, cond, List, [], ◌∷◌, ◌==◌}
use Rattle.std.proofs.Math.Option.{Option, some, none}
use Rattle.ground.specs.Heads.{none_lacked}
use Rattle.ground.specs.Names.{Name, same_name}
use Rattle.ground.specs.Forms.{Form, name, number, tenths, truth, fun, call, let_in, fix, if_then, empty_record, extend, select, remove}
use Rattle.ground.specs.declared.place.Place.{Place}
use Rattle.ground.specs.declared.sort.Sort.{Sort}
use Rattle.ground.specs.declared.sort.Sort.TheVariants.{«Type» as OfType, Field as OfField, Row as OfRow}
use Rattle.ground.specs.declared.sort.Labels.{Labels}
use Rattle.ground.specs.declared.classes.Classes.{Classes}
use Rattle.ground.specs.declared.head.Head.{Head}
use Rattle.ground.specs.declared.head.Head.TheVariants.{Whole, Tenth, Flag, To, Record, Absent, Has, Empty, Row as RowWith}
use Rattle.system.specs.Requests.{Request, fresh, build, equate, demand}
use Rattle.engine.specs.Trees.{Tree, any, stay, leaf, over, pair, Binding, code, scheme, Scope}

-- Calls to be made one after another, each with the place that a fault of it has. What is called next may depend on the codes answered so far.
pub data Calls : Type 0 where
  -- all is done, and this is the code of the type
  answer : ℕ → Calls
  -- a call that answers a code
  ask : Place → Request → (ℕ → Calls) → Calls
  -- a call that answers nothing
  tell : Place → Request → Calls → Calls
  -- no call: the scheme of a code is bound, as the code is looked at now, under the names of the scope
  bind : ℕ → Scope → (Tree → Calls) → Calls

-- Build a head without children.
abbrev pub make : Place → Head → (ℕ → Calls) → Calls
make p h k = ask p (build h 0 0 0 none_lacked) k

-- Build a head over one code.
abbrev pub make1 : Place → Head → ℕ → (ℕ → Calls) → Calls
make1 p h x k = ask p (build h x 0 0 none_lacked) k

-- Build a head over two codes.
abbrev pub make2 : Place → Head → ℕ → ℕ → (ℕ → Calls) → Calls
make2 p h x y k = ask p (build h x y 0 none_lacked) k

-- The set of one label.
abbrev pub alone : ℕ → Labels
alone l = record { 0 = 2 ^ l }

-- Row, record: the record with the field f at l, and the row r elsewhere.
abbrev pub record_calls : Place → ℕ → ℕ → ℕ → (ℕ → Calls) → Calls
record_calls p l f r k = ask p (build RowWith f r l (alone l)) (λ row. make1 p Record row k)

-- Split: fresh row lacking l, row, record, equate. The record x has the field f at l; the row of what it has elsewhere is handed on.
abbrev pub split : Place → ℕ → ℕ → ℕ → (ℕ → Calls) → Calls
split p x l f k = ask p (fresh (OfRow (alone l))) (λ r. record_calls p l f r (λ y. tell p (equate x y) (k r)))

-- Demand the class n of the code c, where the test is true.
abbrev pub demand_if : Bool → Place → ℕ → ℕ → Calls → Calls
demand_if true p c n rest = tell p (demand n c) rest
demand_if false p c n rest = rest

-- Demand the class n of the code c, where it is in the set.
abbrev pub demand_in : Place → Classes → ℕ → ℕ → Calls → Calls
demand_in p s c n rest = demand_if ((s.0 / 2 ^ n) % 2 == 1) p c n rest

-- Demand the classes of the set, by number.
abbrev pub demands : Place → Classes → ℕ → Calls → Calls
demands p s c k = demand_in p s c 0 (demand_in p s c 1 (demand_in p s c 2 (demand_in p s c 3 k)))

-- Which new code each variable of a scheme has got so far, the latest first.
abbrev pub Given : Type 0
Given = List (ℕ × ℕ)

-- The new code of a variable, if it has one.
abbrev pub got : Given → ℕ → Option ℕ
got [] g = none
got (x ∷ xs) g = cond (x.0 == g) (some x.1) (got xs g)

-- A place of a variable: the code that it has got, else a fresh one, its classes demanded at once.
abbrev pub variable : Option ℕ → Place → ℕ → Sort → Classes → Given → (ℕ → Given → Calls) → Calls
variable (some c) p g o s m k = k c m
variable none p g o s m k = ask p (fresh o) (λ c. demands p s c (k c ((g, c) ∷ m)))

-- A scheme is copied: a fresh code at the first place of each variable; the codes that stay are used; built places are built again, children first.
abbrev pub copy : Place → Tree → Given → (ℕ → Given → Calls) → Calls
copy p (any g o s) m k = variable (got m g) p g o s m k
copy p (stay c) m k = k c m
copy p (leaf h s) m k = ask p (build h 0 0 0 s) (λ c. k c m)
copy p (over h t) m k = copy p t m (λ x n. ask p (build h x 0 0 none_lacked) (λ c. k c n))
copy p (pair h l s t u) m k = copy p t m (λ x n. copy p u n (λ y o. ask p (build h x y l s) (λ c. k c o)))

-- What a name is bound to in a scope, the innermost binding counting.
abbrev pub bound : Scope → Name → Option Binding
bound [] n = none
bound (b ∷ bs) n = cond (same_name n b.0) (some b.1) (bound bs n)

-- A name bound to a code uses it; a name bound to a scheme is copied. No form that is typed has a name that is not bound.
abbrev pub use_name : Place → Option Binding → (ℕ → Calls) → Calls
use_name p none k = answer 0
use_name p (some (code c)) k = k c
use_name p (some (scheme t)) k = copy p t [] (λ c m. k c)

-- The typing of a form in a scope; the code of its type is handed on.
abbrev pub typing : Form → Scope → (ℕ → Calls) → Calls
typing (name p n) E k = use_name p (bound E n) k
-- A number, yes, no: build.
typing (number p z) E k = make p Whole k
typing (tenths p z) E k = make p Tenth k
typing (truth p b) E k = make p Flag k
-- Fun: fresh type, body, build to.
typing (fun p n B) E k = ask p (fresh OfType) (λ a. typing B ((n, code a) ∷ E) (λ b. make2 p To a b k))
-- Call: both forms, fresh type, build to from the second form and it, equate with the first.
typing (call p F S) E k = typing F E (λ f. typing S E (λ s. ask p (fresh OfType) (λ a. make2 p To s a (λ t. tell p (equate f t) (k a)))))
-- Let: both forms; in between the name is bound to the scheme of the first.
typing (let_in p n S B) E k = typing S E (λ s. bind s E (λ t. typing B ((n, scheme t) ∷ E) k))
-- Rec: fresh type, body, equate.
typing (fix p n B) E k = ask p (fresh OfType) (λ a. typing B ((n, code a) ∷ E) (λ b. tell p (equate a b) (k a)))
-- If: condition, build flag, equate, both forms, equate.
typing (if_then p C S B) E k = typing C E (λ c. make p Flag (λ f. tell p (equate c f) (typing S E (λ s. typing B E (λ b. tell p (equate s b) (k s))))))
-- Record: build empty, build record.
typing (empty_record p) E k = make p Empty (λ r. make1 p Record r k)
-- With: both forms, fresh field, split, has, row, record.
typing (extend p R l S) E k = typing R E (λ x. typing S E (λ s. ask p (fresh OfField) (λ f. split p x l f (λ r. make1 p Has s (λ h. record_calls p l h r k)))))
-- Get: form, fresh type, has, split.
typing (select p R l) E k = typing R E (λ x. ask p (fresh OfType) (λ t. make1 p Has t (λ h. split p x l h (λ r. k t))))
-- Drop: form, fresh field, split, absent, row, record.
typing (remove p R l) E k = typing R E (λ x. ask p (fresh OfField) (λ f. split p x l f (λ r. make p Absent (λ h. record_calls p l h r k))))
