-- What a call of a line asks of a system, and what is answered.
use Rattle.std.specs.Prelude.{◌≡◌, ℕ, List, [], ◌∷◌, ◌++◌, length, Ok, Err, Result}
use Rattle.system.specs.Requests.{Request, fresh, build, equate, demand, Reply, code, token, done, fault}
use Rattle.values.specs.declared.kind.Kind.{Kind}
use Rattle.values.specs.declared.kind.Kind.TheVariants.{«Type» as OfType}
use Rattle.values.specs.Kinds.{kind_of_sort, kind_of_head}
use Rattle.calls.specs.declared.book.Made.{Made}
use Rattle.lines.specs.declared.ask.Ask.{Ask}
use Rattle.lines.specs.declared.ask.Ask.TheVariants.{Fresh, Build, Equate, Demand}
use Rattle.calls.specs.declared.answer.Answer.{Answer}
use Rattle.calls.specs.declared.answer.Answer.TheVariants.{Made as MadeAs, Done}
use Rattle.calls.specs.declared.answer.Unanswered.{Unanswered}
use Rattle.calls.specs.declared.answer.Unanswered.TheVariants.{Refused, Memory}
use Rattle.calls.specs.Books.{code_of, child_of}

-- the request, with the codes of the numbers in their places
abbrev pub request : List Made → Ask → Request
request ms (Fresh o) = fresh o
request ms (Build h x y l m) = build h (child_of ms x).0 (child_of ms y).0 l m
request ms (Equate x y) = equate (code_of ms x).0 (code_of ms y).0
request ms (Demand k x) = demand k (code_of ms x).0

-- the kind of what the call makes
abbrev pub kind_of : Ask → Kind
kind_of (Fresh o) = kind_of_sort o
kind_of (Build h x y l m) = kind_of_head h
kind_of (Equate x y) = OfType
kind_of (Demand k x) = OfType

-- the answer to a reply, and the codes that are then numbered: a new code takes the next number
abbrev pub Answered : List Made → Ask → Reply → Answer → List Made → Type 0
Answered ms q (code c) a ns = (a ≡ MadeAs (length ms)) × (ns ≡ ms ++ (record { code = record { 0 = c }; kind = kind_of q }) ∷ [])
Answered ms q (token d) a ns = ⊥
Answered ms q done a ns = (a ≡ Done) × (ns ≡ ms)
Answered ms q (fault n l) a ns = ⊥

-- the system was asked just this request, and what it replied is what is answered; a refusal numbers no code; there may be no memory to note a code
abbrev pub Told :
    {S F : Type 0} → (S → Request → Reply → S → Type 0) → (F → ℕ) → (F → ℕ) → S → List Made → Ask → Result Answer (Unanswered F) → S → List Made → Type 0
Told asked number layer s ms q (Ok a) t ns = (r : Reply) × asked s (request ms q) r t × Answered ms q r a ns
Told asked number layer s ms q (Err (Refused f)) t ns = asked s (request ms q) (fault (number f) (layer f)) t × (ns ≡ ms)
Told asked number layer s ms q (Err Memory) t ns = (r : Reply) × asked s (request ms q) r t
