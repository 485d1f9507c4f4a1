-- What was written or added is done, so references fall again.
use Rattle.std.proofs.Common.{◌≡◌, ℕ, zero, suc, ◌+◌, ◌-◌, ◌<◌, ◌≤◌, cond, ltb, ◌⊎◌, List, [], ◌∷◌, ◌++◌, length, get_or, sym, refl, ap, ◌∙◌, subst, inl, inr, ⊎_elim, arith, length-append}
use Rattle.std.proofs.lemmas.List.{get_or-set_other, get_or_append_left, get_or-append_right, get_or_past}
use Rattle.std.proofs.lemmas.Bool.{cases_lt, lt-ltb, le-ltb, cond-true, cond-false}
use Rattle.cells.specs.declared.What.{What}
use Rattle.cells.specs.declared.What.TheVariants.{Open, Link, Leaf, One, Two, Row as RowAt}
use Rattle.cells.specs.declared.Cell.{Cell}
use Rattle.cells.specs.Cells.{none, what_at}
use Rattle.cells.specs.Weights.{Lower, Falls}
use Rattle.unifier.specs.declared.undo.Undo.{Undo}
use Rattle.unifier.specs.Trails.{rewound, Under, Since}
use Rattle.unifier.specs.Marks.{at, Done, Before, Closed}
use Rattle.unifier.specs.Swept.{named, AllDone, NewDone}

module _ (cs ds : List (Cell ℕ)) (r : ℕ → ℕ) (falls : Falls cs r) (b : ℕ) (ms : List ℕ) (k : ℕ) (closed : Closed ds b ms k) (kept : (i : ℕ) → (Done b ms i → ⊥) → what_at ds i ≡ what_at cs i) where
  abbrev pub ordered : ℕ → ℕ
  ordered i = cond (ltb (b + 1) (at ms i)) (at ms i) (suc k + r i)

  when_done : (i : ℕ) → Done b ms i → ordered i ≡ at ms i
  when_done i d = cond-true (ltb (b + 1) (at ms i)) (at ms i) (suc k + r i) (lt-ltb (b + 1) (at ms i) d)

  when_not : (i : ℕ) → at ms i ≤ b + 1 → ordered i ≡ suc k + r i
  when_not i d = cond-false (ltb (b + 1) (at ms i)) (at ms i) (suc k + r i) (le-ltb (b + 1) (at ms i) d)

  lower_one : (i j : ℕ) → at ms i ≤ b + 1 → r j < r i → ordered j < ordered i
  lower_one i j n l =
      ⊎_elim
      (λ (d : b + 1 < at ms j). omega (arith, when_not i n, when_done j d, closed.past j d))
      (λ (m : at ms j ≤ b + 1). omega (arith, when_not i n, when_not j m, l))
      (cases_lt (b + 1) (at ms j))

  lower_not : (i : ℕ) → at ms i ≤ b + 1 → (w : What ℕ) → Lower r i w → Lower ordered i w
  lower_not i n Open l = tt
  lower_not i n (Link p) l = lower_one i p n l
  lower_not i n (Leaf h) l = tt
  lower_not i n (One h x) l = lower_one i x n l
  lower_not i n (Two x y) l = (lower_one i x n l.0, lower_one i y n l.1)
  lower_not i n (RowAt h x y) l = (lower_one i x n l.0, lower_one i y n l.1)

  both_done : (i x y : ℕ) → Done b ms i → (Done b ms x × (at ms x < at ms i)) × (Done b ms y × (at ms y < at ms i)) → (ordered x < ordered i) × (ordered y < ordered i)
  both_done i x y d l =
      let p = l.0 in let q = l.1 in
      (omega (arith, when_done i d, when_done x p.0, p.1), omega (arith, when_done i d, when_done y q.0, q.1))

  lower_done : (i : ℕ) → Done b ms i → (w : What ℕ) → Before b ms (at ms i) w → Lower ordered i w
  lower_done i d Open l = tt
  lower_done i d (Link p) l = omega (arith, when_done i d, when_done p l.0, l.1)
  lower_done i d (Leaf h) l = tt
  lower_done i d (One h x) l = omega (arith, when_done i d, when_done x l.0, l.1)
  lower_done i d (Two x y) l = both_done i x y d l
  lower_done i d (RowAt h x y) l = both_done i x y d l

  past_open : (i : ℕ) → length ds ≤ i → Lower ordered i (what_at ds i)
  past_open i l = subst (λ (w : What ℕ). Lower ordered i w) (sym (ap (λ (c : Cell ℕ). c.what) (get_or_past ds i none l))) tt

  falls_again : Falls ds ordered
  falls_again i =
      ⊎_elim
      (λ (d : b + 1 < at ms i).
      ⊎_elim (λ (l : i < length ds). lower_done i d (what_at ds i) (closed.before i l d)) (λ (l : length ds ≤ i). past_open i l) (cases_lt i (length ds)))
      (λ (n : at ms i ≤ b + 1).
      let no-done : Done b ms i → ⊥ = λ d. (let z : ⊥ = omega (arith, d, n) in z) in
      lower_not i n (what_at ds i) (subst (λ (w : What ℕ). Lower r i w) (sym (kept i no-done)) (falls i)))
      (cases_lt (b + 1) (at ms i))

-- a cell that no entry names is as it was
abbrev Named : List Undo → ℕ → Type 0
Named [] i = ⊥
Named (e ∷ es) i = (i ≡ e.at) ⊎ Named es i

unnamed : (ds : List (Cell ℕ)) (es : List Undo) (i : ℕ) → (Named es i → ⊥) → get_or (rewound ds es) i none ≡ get_or ds i none
unnamed ds [] i n = refl
unnamed ds (e ∷ es) i n = get_or-set_other (rewound ds es) e.at i e.was none (λ q. n (inl q)) ∙ unnamed ds es i (λ m. n (inr m))

named_in : (es : List Undo) (i : ℕ) → Named es i → (p : ℕ) × (p < length es) × (named es p ≡ i)
named_in [] i m = absurd m
named_in (e ∷ es) i m =
    let rest : Named es i → (p : ℕ) × (p < length es) × (named es p ≡ i) = λ q. named_in es i q in
    ⊎_elim (λ (q : i ≡ e.at). (0, omega arith, sym q)) (λ (q : Named es i). let r = rest q in (suc r.0, omega (arith, r.1), r.2)) m

under_at : (n : ℕ) (es : List Undo) (p : ℕ) → Under n es → p < length es → named es p < n
under_at n [] p u l = absurd (let z : ⊥ = omega arith in z)
under_at n (e ∷ es) zero u l = u.0
under_at n (e ∷ es) (suc p) u l = under_at n es p u.1 (omega arith)

-- entries after those that were
later : (tr new : List Undo) (j : ℕ) → length tr ≤ j → named (tr ++ new) j ≡ named new (j - length tr)
later tr new j l = ap (λ (e : Undo). e.at) (get_or-append_right tr new (length tr) j (record { at = 0; was = none }) refl l)

module _ (cs ds : List (Cell ℕ)) (tr ts : List Undo) (s : Since cs tr ds ts) where
  pub since_within : (j : ℕ) → length tr ≤ j → j < length ts → named ts j < length ds
  since_within j a b =
      subst (λ (x : List Undo). named x j < length ds) (sym s.trail)
      (subst (λ (n : ℕ). n < length ds) (sym (later tr s.new j a))
      (under_at (length ds) s.new (j - length tr) s.under (omega (arith, a, b, ap length s.trail, length-append tr s.new))))

  module _ (b : ℕ) (ms : List ℕ) (k : ℕ) (closed : Closed ds b ms k) (written : AllDone b ms ts (length tr) (length ts)) (new : NewDone b ms (length cs) (length ds)) where
    not_named : (i : ℕ) → (Done b ms i → ⊥) → Named s.new i → ⊥
    not_named i n m =
        let p = named_in s.new i m in
        let j = length tr + p.0 in
        let l : length tr ≤ length tr + p.0 = omega arith in
        let e : named ts (length tr + p.0) ≡ i =
        ap (λ (x : List Undo). named x (length tr + p.0)) s.trail ∙ later tr s.new (length tr + p.0) l ∙ ap (named s.new) (let z : length tr + p.0 - length tr ≡ p.0 = omega arith in z) ∙ p.2 in
        n (subst (Done b ms) e (written (length tr + p.0) l (omega (arith, p.1, ap length s.trail, length-append tr s.new))))

    kept : (i : ℕ) → (Done b ms i → ⊥) → what_at ds i ≡ what_at cs i
    kept i n =
        ⊎_elim
        (λ (l : i < length cs).
        ap (λ (c : Cell ℕ). c.what)
        (sym (unnamed ds s.new i (not_named i n)) ∙ ap (λ (x : List (Cell ℕ)). get_or x i none) s.undoes ∙ get_or_append_left cs s.extra none i l))
        (λ (l : length cs ≤ i).
        ⊎_elim
        (λ (q : i < length ds). absurd (n (new i l q)))
        (λ (q : length ds ≤ i). ap (λ (c : Cell ℕ). c.what) (get_or_past ds i none q ∙ sym (get_or_past cs i none l)))
        (cases_lt i (length ds)))
        (cases_lt i (length cs))

    pub since_falls : (r : ℕ → ℕ) → Falls cs r → (l : ℕ → ℕ) × Falls ds l
    since_falls r f = (ordered cs ds r f b ms k closed kept, falls_again cs ds r f b ms k closed kept)
