-- What a system is asked, what it answers, and which requests it takes at all.
use Rattle.std.specs.Prelude.{ℕ, suc, ◌/◌, ◌%◌, ◌^◌, Bool, true, false, cond, ◌&&◌, length, ◌==◌, nat_le, nat_lt}
use Rattle.std.proofs.Math.Option.{Option, some, none}
use Rattle.ground.specs.Heads.{none_lacked}
pub use Rattle.ground.specs.Heads.{head_number}
use Rattle.ground.specs.declared.sort.Sort.{Sort}
use Rattle.ground.specs.declared.sort.Sort.TheVariants.{«Type» as OfType, Field as OfField, Row as OfRow}
use Rattle.ground.specs.declared.sort.Labels.{Labels}
use Rattle.ground.specs.declared.head.Head.{Head}
use Rattle.ground.specs.declared.head.Head.TheVariants.{Whole, Tenth, Flag, To, List as ListOf, Record, Absent, Has, Empty, Row as RowWith}
use Rattle.system.specs.Meaning.{Kind, State, Meaning, small, knows_sort}

-- A request, by its content: fresh of a sort; build of a head with two codes, a label and a set of labels; equate of two codes; demand of a class
-- on a code; mark; keep and back of a token, which is known by how many marks were open when it was made.
pub data Request : Type 0 where
  fresh : Sort → Request
  build : Head → ℕ → ℕ → ℕ → Labels → Request
  equate : ℕ → ℕ → Request
  demand : ℕ → ℕ → Request
  mark : Request
  keep : ℕ → Request
  back : ℕ → Request

-- A reply: a new code, a token, done, or a fault with its number and the layer that found it.
pub data Reply : Type 0 where
  code : ℕ → Reply
  token : ℕ → Reply
  done : Reply
  fault : ℕ → ℕ → Reply

-- The two sorts are one.
abbrev pub same_sort : Sort → Sort → Bool
same_sort OfType OfType = true
same_sort OfType OfField = false
same_sort OfType (OfRow n) = false
same_sort OfField OfType = false
same_sort OfField OfField = true
same_sort OfField (OfRow n) = false
same_sort (OfRow m) OfType = false
same_sort (OfRow m) OfField = false
same_sort (OfRow m) (OfRow n) = m.0 == n.0

-- A code with this entry is known.
abbrev pub is_known : Option Sort → Bool
is_known none = false
is_known (some k) = true

-- A code with this entry is known, and of the sort o.
abbrev pub is_of : Option Sort → Sort → Bool
is_of none o = false
is_of (some k) o = same_sort k o

-- Two codes with these entries are known, and of one sort.
abbrev pub alike : Option Sort → Option Sort → Bool
alike none o = false
alike (some k) none = false
alike (some k) (some o) = same_sort k o

-- The label is at most 23 and in the set.
abbrev pub holds : Labels → ℕ → Bool
holds m l = nat_le l 23 && (m.0 / 2 ^ l) % 2 == 1

-- The children, the label and the set are such as the head takes; what it does not use is ignored.
abbrev pub takes : State → Head → ℕ → ℕ → ℕ → Labels → Bool
takes s Whole x y l m = true
takes s Tenth x y l m = true
takes s Flag x y l m = true
takes s To x y l m = is_of (s.sort_of x) OfType && is_of (s.sort_of y) OfType
takes s ListOf x y l m = is_of (s.sort_of x) OfType
takes s Record x y l m = is_of (s.sort_of x) (OfRow none_lacked)
takes s Absent x y l m = true
takes s Has x y l m = is_of (s.sort_of x) OfType
takes s Empty x y l m = small m
takes s RowWith x y l m = small m && holds m l && is_of (s.sort_of x) OfField && is_of (s.sort_of y) (OfRow m)

-- Of these, the label and the set alone.
abbrev pub labelled : Head → ℕ → Labels → Bool
labelled Whole l m = true
labelled Tenth l m = true
labelled Flag l m = true
labelled To l m = true
labelled ListOf l m = true
labelled Record l m = true
labelled Absent l m = true
labelled Has l m = true
labelled Empty l m = small m
labelled RowWith l m = small m && holds m l

-- The request is not refused with 21: its codes, head, class, label, set and sorts are known and right, and its token is the newest.
abbrev pub fits : Kind → Meaning → Request → Bool
fits K m (fresh o) = knows_sort K o
fits K m (build h x y l s) = nat_lt (head_number h) K.heads && takes m.state h x y l s
fits K m (equate a b) = alike (m.state.sort_of a) (m.state.sort_of b)
fits K m (demand k c) = nat_le k 3 && is_of (m.state.sort_of c) OfType
fits K m mark = true
fits K m (keep d) = suc d == length m.marks
fits K m (back d) = suc d == length m.marks

-- The layer that finds a class above 3 and one mark too many: the class layer, 3, or where there are no classes the bottom system, 4.
abbrev pub upper : Kind → ℕ
upper K = cond (K.classes == 0) 4 3

-- The layer that finds what is refused with 21. An unknown code is found by the bottom system and counts before a class above 3, and that before a
-- wrong sort.
abbrev pub finder : Kind → Meaning → Request → ℕ
finder K m (fresh o) = 4
finder K m (build h x y l s) = 4
finder K m (equate a b) = 4
finder K m (demand k c) = cond (is_known (m.state.sort_of c)) (cond (nat_le k 3) 4 (upper K)) 4
finder K m mark = 4
finder K m (keep d) = 4
finder K m (back d) = 4

-- How many marks can be open.
abbrev pub most_marks : Kind → ℕ
most_marks K = cond (K.classes == 0) 8 7
