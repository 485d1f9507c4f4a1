-- What answers of a system tell, by the law that they keep to the meaning.
use Rattle.std.proofs.Common.{◌≡◌, ℕ, suc, Bool, true, false, ◌⊎◌, length, refl, subst, inl, inr, eq-eqb, Ok, Err, Result}
use Rattle.std.proofs.lemmas.Bool.{cases_Bool}
use Rattle.std.specs.Result.{IsOk}
use Rattle.system.specs.Meaning.{Kind, Meaning, Same}
use Rattle.system.specs.Requests.{Request, equate, demand, keep, back, Reply, code, done, fault, fits, finder}
use Rattle.system.specs.Follows.{Follows, Kept}
use Rattle.system.specs.Replies.{kind_of}

-- a request that was not refused fits
fit_at : (K : Kind) (m n : Meaning) (q : Request) (r : Reply) → ((f l : ℕ) → r ≡ fault f l → ⊥) → Follows K m q r n → (b : Bool) → fits K m q ≡ b → b ≡ true
fit_at K m n q r ne h true e = refl
fit_at K m n q r ne h false e = absurd (ne 21 (finder K m q) (h.0 e).0)

pub code_fits : (K : Kind) (m n : Meaning) (q : Request) (c : ℕ) → Follows K m q (code c) n → fits K m q ≡ true
code_fits K m n q c h = fit_at K m n q (code c) (λ f l e. cc) h (fits K m q) refl

pub done_fits : (K : Kind) (m n : Meaning) (q : Request) → Follows K m q done n → fits K m q ≡ true
done_fits K m n q h = fit_at K m n q done (λ f l e. cc) h (fits K m q) refl

-- the newest mark is taken
pub keep_taken : (K : Kind) (m n : Meaning) (d f l : ℕ) → suc d ≡ length m.marks → Follows K m (keep d) (fault f l) n → ⊥
keep_taken K m n d f l e h = h.1 (eq-eqb (suc d) (length m.marks) e)

pub back_taken : (K : Kind) (m n : Meaning) (d f l : ℕ) → suc d ≡ length m.marks → Follows K m (back d) (fault f l) n → ⊥
back_taken K m n d f l e h = h.1 (eq-eqb (suc d) (length m.marks) e)

-- a kind without classes
pub classless : (h z : ℕ) (m n : Meaning) (q : Request) (r : Reply) → z ≡ 0 → Follows (kind_of h z) m q r n → Follows (kind_of h 0) m q r n
classless h z m n q r e f = subst (λ (x : ℕ). Follows (kind_of h x) m q r n) e f

-- an equate that was done
pub equated : (K : Kind) (m n : Meaning) (a b : ℕ) → Follows K m (equate a b) done n → (fits K m (equate a b) ≡ true) × Kept m (λ v. v a ≡ v b) n
equated K m n a b h = let e = done_fits K m n (equate a b) h in (e, h.1 e)

-- what has no refusal is done
pub unrefused : {A E : Type 0} (r : Result A E) → ((e : E) → r ≡ Err e → ⊥) → IsOk r
unrefused (Ok x) h = refl
unrefused (Err e) h = absurd (h e refl)

-- a demand that is refused changes nothing
pub demand_same : (K : Kind) (m n : Meaning) (k c f l : ℕ) → Follows K m (demand k c) (fault f l) n → Same m n
demand_same K m n k c f l h = elim (cases_Bool (fits K m (demand k c))) [ inl e ↦ (h.1 e).0 | inr e ↦ (h.0 e).1 ]
