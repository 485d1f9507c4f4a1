-- A code that the system gave, as an answer.
use Rattle.std.proofs.Common.{◌≡◌, ℕ, List, [], ◌∷◌, ◌++◌, length, Ok, Err, Result, sym, ap, ◌∙◌, subst, MatchResult}
use Rattle.std.specs.declared.alloc.AllocError.{AllocError}
use Rattle.ground.specs.declared.code.Code.{Code}
use Rattle.ground.specs.declared.head.Head.{Head}
use Rattle.ground.specs.declared.sort.Labels.{Labels}
use Rattle.system.specs.Requests.{Request, build, Reply, code}
use Rattle.values.specs.declared.kind.Kind.{Kind}
use Rattle.calls.specs.declared.book.Made.{Made}
use Rattle.lines.specs.declared.ask.Ask.{Ask}
use Rattle.lines.specs.declared.ask.Ask.TheVariants.{Build}
use Rattle.calls.specs.declared.answer.Answer.{Answer}
use Rattle.calls.specs.declared.answer.Answer.TheVariants.{Made as MadeAs}
use Rattle.calls.specs.declared.answer.Unanswered.{Unanswered}
use Rattle.calls.specs.declared.answer.Unanswered.TheVariants.{Memory}
use Rattle.calls.specs.Books.{child_of}
use Rattle.calls.specs.Asks.{Told, Answered, request, kind_of}

-- it is noted with the kind that the call makes
pub told_made :
    {S : Type 0} (asked : S → Request → Reply → S → Type 0) (s t : S) (ms ns : List Made) (q : Ask) (p : Request) (k : Kind) (c : Code) (r : Result Answer AllocError) (a : Answer)
    → p ≡ request ms q
    → k ≡ kind_of q
    → asked s p (code c.0) t
    → MatchResult r (λ a. (a ≡ MadeAs (length ms)) × (ns ≡ ms ++ record { code = c; kind = k } ∷ [])) (λ e. ns ≡ ms)
    → r ≡ Ok a
    → (x : Reply) × asked s (request ms q) x t × Answered ms q x a ns
told_made asked s t ms ns q p k c r a ep ek h b e =
    let it = subst (λ v. MatchResult v (λ a. (a ≡ MadeAs (length ms)) × (ns ≡ ms ++ record { code = c; kind = k } ∷ [])) (λ e. ns ≡ ms)) e b in
    (code c.0, subst (λ (x : Request). asked s x (code c.0) t) ep h, (it.0, it.1 ∙ ap (λ (x : Kind). ms ++ record { code = c; kind = x } ∷ []) ek))

-- there is no memory to note it
pub told_unnoted :
    {S F : Type 0} (asked : S → Request → Reply → S → Type 0) (number layer : F → ℕ) (s t : S) (ms ns : List Made) (q : Ask) (p : Request) (c : Code) (r : Result Answer (Unanswered F))
    → p ≡ request ms q
    → asked s p (code c.0) t
    → r ≡ Err Memory
    → Told asked number layer s ms q r t ns
told_unnoted asked number layer s t ms ns q p c r ep h e =
    subst (λ v. Told asked number layer s ms q v t ns) (sym e) (code c.0, subst (λ (x : Request). asked s x (code c.0) t) ep h)

-- the request of a build call, with the codes that the book has
pub build_request :
    (ms : List Made) (q : Ask) (h : Head) (x y : _) (l : ℕ) (m : Labels) (a b : Code)
    → q ≡ Build h x y l m
    → a ≡ child_of ms x
    → b ≡ child_of ms y
    → build h a.0 b.0 l m ≡ request ms q
build_request ms q h x y l m a b e ea eb =
    ap (λ (c : Code). build h c.0 b.0 l m) ea ∙ ap (λ (c : Code). build h (child_of ms x).0 c.0 l m) eb ∙ sym (ap (request ms) e)
