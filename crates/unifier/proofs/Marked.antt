-- The walk for cycles, on lists of marks.
use Rattle.std.proofs.Common.{◌≡◌, ℕ, zero, suc, ◌+◌, ◌<◌, ◌≤◌, ◌⊎◌, Bool, cond, List, [], ◌∷◌, length, set, sym, refl, ap, ◌∙◌, subst, ⊎_elim, arith, length-set}
use Rattle.std.proofs.lemmas.List.{get_or-set_same, get_or-set_other}
use Rattle.std.proofs.lemmas.Bool.{cases_eq, cases_lt, le-leb, lt-leb}
use Rattle.cells.specs.declared.What.{What}
use Rattle.cells.specs.declared.What.TheVariants.{Open, Link, Leaf, One, Two, Row as RowAt}
use Rattle.cells.specs.declared.Cell.{Cell}
use Rattle.cells.specs.Cells.{Valuation, what_at, Holds, Refers}
use Rattle.cells.specs.Weights.{same, weight}
use Rattle.cells.proofs.Weighing.{link_falls, one_falls, two_falls, row_falls}
use Rattle.unifier.specs.Fine.{Fine, Proper}
use Rattle.unifier.specs.Marks.{at, unseen, unseens, Done, Under, Before, Closed, Walkable, Went, Timed, Cyclic, Over, Tops}
use Rattle.cells.specs.declared.Wrap.{Wrap}

pub unseens_set : (b : ℕ) (ms : List ℕ) (i x : ℕ) → i < length ms → unseens b (set ms i x) + unseen b (at ms i) ≡ unseens b ms + unseen b x
unseens_set b [] i x h = absurd (let z : ⊥ = omega arith in z)
unseens_set b (m ∷ ms) zero x h = omega arith
unseens_set b (m ∷ ms) (suc i) x h = omega (arith, unseens_set b ms i x (omega arith))

pub is_unseen : (b m : ℕ) → m ≤ b → unseen b m ≡ 1
is_unseen b m h = ap (λ (t : Bool). cond t 1 0) (le-leb m b h)

pub is_seen : (b m : ℕ) → b < m → unseen b m ≡ 0
is_seen b m h = ap (λ (t : Bool). cond t 1 0) (lt-leb m b h)

pub over_of : (cs : List (Cell ℕ)) (b : ℕ) (ms ns : List ℕ) (c x : ℕ) → Tops cs b ms c → ((i : ℕ) → Under b ns i → Under b ms i) → ((v : Valuation) → Holds same cs v → weight cs v x < weight cs v c) → Over cs b ns x
over_of cs b ms ns c x t u w v h i g = let a = t v h i (u i g) in let d = w v h in omega arith

pub again : (cs : List (Cell ℕ)) (b : ℕ) (ms : List ℕ) (c : ℕ) → Over cs b ms c → Under b ms c → Cyclic cs
again cs b ms c o u v h = let a = o v h c u in let z : ⊥ = omega arith in z

-- the marks ns have what ms has but at c
before_else : (b : ℕ) (ms ns : List ℕ) (m : ℕ) → ((j : ℕ) → Done b ms j → at ns j ≡ at ms j) → (w : What ℕ) → Before b ms m w → Before b ns m w
before_else b ms ns m s Open h = tt
before_else b ms ns m s (Link p) h = (omega (arith, s p h.0, h.0), omega (arith, s p h.0, h.1))
before_else b ms ns m s (Leaf k) h = tt
before_else b ms ns m s (One k x) h = (omega (arith, s x h.0, h.0), omega (arith, s x h.0, h.1))
before_else b ms ns m s (Two x y) h =
    let p = h.0 in let q = h.1 in
    ((omega (arith, s x p.0, p.0), omega (arith, s x p.0, p.1)), (omega (arith, s y q.0, q.0), omega (arith, s y q.0, q.1)))
before_else b ms ns m s (RowAt l x y) h =
    let p = h.0 in let q = h.1 in
    ((omega (arith, s x p.0, p.0), omega (arith, s x p.0, p.1)), (omega (arith, s y q.0, q.0), omega (arith, s y q.0, q.1)))

module _ (cs : List (Cell ℕ)) (b : ℕ) (ms : List ℕ) (k c : ℕ) (lc : c < length ms) (closed : Closed cs b ms k) (white : at ms c ≤ b) where
  abbrev pub entered : List ℕ
  entered = set ms c (b + 1)

  here : at entered c ≡ b + 1
  here = get_or-set_same ms c (b + 1) 0 lc

  else : (i : ℕ) → (i ≡ c → ⊥) → at entered i ≡ at ms i
  else i n = get_or-set_other ms c i (b + 1) 0 n

  not_here : (i : ℕ) → Done b entered i → i ≡ c → ⊥
  not_here i d e = let z : b + 1 < at entered c = subst (λ (j : ℕ). b + 1 < at entered j) e d in let y : ⊥ = omega (arith, z, here) in y

  not_there : (i : ℕ) → Done b ms i → i ≡ c → ⊥
  not_there i d e = let z : b + 1 < at ms c = subst (λ (j : ℕ). b + 1 < at ms j) e d in let y : ⊥ = omega (arith, z, white) in y

  pub enter_closed : Closed cs b entered k
  enter_closed = record {
    past = λ i d. let e = else i (not_here i d) in let p = closed.past i (omega (arith, e, d)) in omega (arith, e, p);
    before = λ i lt d.
        let e = else i (not_here i d) in
        let d1 : Done b ms i = omega (arith, e, d) in
        subst (λ (m : ℕ). Before b entered m (what_at cs i)) (sym e) (before_else b ms entered (at ms i) (λ j dj. else j (not_there j dj)) (what_at cs i) (closed.before i lt d1));
    least = closed.least;
  }

  pub enter_left : unseens b entered + 1 ≡ unseens b ms
  enter_left = omega (arith, unseens_set b ms c (b + 1) lc, is_unseen b (at ms c) white, is_seen b (b + 1) (omega arith))

  pub enter_tops : Over cs b ms c → Tops cs b entered c
  enter_tops o v h i u =
      ⊎_elim
      (λ (e : i ≡ c). subst (λ (j : ℕ). weight cs v c ≤ weight cs v j) (sym e) (omega arith))
      (λ (n : i ≡ c → ⊥). let a = o v h i (sym (else i n) ∙ u) in omega arith)
      (cases_eq i c)

  module _ (ns : List ℕ) (l : ℕ) (w : Went cs b entered k ns l) (bef : Before b ns (suc l) (what_at cs c)) where
    lc2 : c < length ns
    lc2 = omega (arith, w.same, length-set ms c (b + 1), lc)

    grey : at ns c ≡ b + 1
    grey = w.under c here

    abbrev pub left_it : List ℕ
    left_it = set ns c (l + 1)

    there : at left_it c ≡ l + 1
    there = get_or-set_same ns c (l + 1) 0 lc2

    others : (i : ℕ) → (i ≡ c → ⊥) → at left_it i ≡ at ns i
    others i n = get_or-set_other ns c i (l + 1) 0 n

    not_c : (i : ℕ) → Done b ns i → i ≡ c → ⊥
    not_c i d e = let z : b + 1 < at ns c = subst (λ (j : ℕ). b + 1 < at ns j) e d in let y : ⊥ = omega (arith, z, grey) in y

    pub leave_done : Done b left_it c
    leave_done = let x = w.closed.least in omega (arith, there, x)

    leave_closed : Closed cs b left_it (l + 1)
    leave_closed = record {
      past = λ i d.
          ⊎_elim
          (λ (e : i ≡ c). omega (arith, ap (at left_it) e, there))
          (λ (n : i ≡ c → ⊥). let p = w.closed.past i (omega (arith, others i n, d)) in omega (arith, others i n, p))
          (cases_eq i c);
      before = λ i lt d.
          ⊎_elim
          (λ (e : i ≡ c).
          subst (λ (j : ℕ). Before b left_it (at left_it j) (what_at cs j)) (sym e)
          (subst (λ (m : ℕ). Before b left_it m (what_at cs c)) (let z : suc l ≡ at left_it c = omega (arith, there) in z)
          (before_else b ns left_it (suc l) (λ j dj. others j (not_c j dj)) (what_at cs c) bef)))
          (λ (n : i ≡ c → ⊥).
          subst (λ (m : ℕ). Before b left_it m (what_at cs i)) (sym (others i n))
          (before_else b ns left_it (at ns i) (λ j dj. others j (not_c j dj)) (what_at cs i) (w.closed.before i lt (omega (arith, others i n, d)))))
          (cases_eq i c);
      least = let x = w.closed.least in omega arith;
    }

    pub leave : Went cs b ms k left_it (l + 1)
    leave =
        let x = w.closed.least in
        let u = unseens_set b ns c (l + 1) lc2 in
        let y = is_seen b (at ns c) (omega (arith, grey)) in
        let z = is_seen b (l + 1) (omega arith) in
        record {
          same = length-set ns c (l + 1) ∙ w.same ∙ length-set ms c (b + 1);
          closed = leave_closed;
          under = λ i g.
              let n : i ≡ c → ⊥ = λ e. (let a : at ms c ≡ b + 1 = subst (λ (j : ℕ). at ms j ≡ b + 1) e g in let f : ⊥ = omega (arith, a, white) in f) in
              others i n ∙ w.under i (else i n ∙ g);
          under_was = λ i g.
              let n : i ≡ c → ⊥ = λ e. (let a : at left_it c ≡ b + 1 = subst (λ (j : ℕ). at left_it j ≡ b + 1) e g in let f : ⊥ = omega (arith, a, there, x) in f) in
              sym (else i n) ∙ w.under_was i (sym (others i n) ∙ g);
          done = λ i d.
              let n = not_there i d in
              others i n ∙ w.done i (omega (arith, else i n, d)) ∙ else i n;
          left = omega (arith, u, y, z, w.left, enter_left);
          clock = omega (arith, u, y, z, w.clock, enter_left);
          later = omega (arith, w.later);
        }

pub went_none : (cs : List (Cell ℕ)) (b : ℕ) (ms : List ℕ) (k : ℕ) → Closed cs b ms k → Went cs b ms k ms k
went_none cs b ms k c = record { same = refl; closed = c; under = λ i u. u; under_was = λ i u. u; done = λ i d. refl; left = omega arith; clock = omega arith; later = omega arith }

pub went_more : (cs : List (Cell ℕ)) (b : ℕ) (ms ns os : List ℕ) (k l n : ℕ) → Went cs b ms k ns l → Went cs b ns l os n → Went cs b ms k os n
went_more cs b ms ns os k l n g h = record {
  same = h.same ∙ g.same;
  closed = h.closed;
  under = λ i u. h.under i (g.under i u);
  under_was = λ i u. g.under_was i (h.under_was i u);
  done = λ i d. h.done i (omega (arith, g.done i d, d)) ∙ g.done i d;
  left = omega (arith, g.left, h.left);
  clock = omega (arith, g.clock, h.clock);
  later = omega (arith, g.later, h.later);
}

pub went_walkable : (cs : List (Cell ℕ)) (b : ℕ) (ms ns : List ℕ) (k l : ℕ) → Walkable cs b ms k → Went cs b ms k ns l → Walkable cs b ns l
went_walkable cs b ms ns k l a w = record { fine = a.fine; sized = omega (arith, w.same, a.sized); closed = w.closed; fits = omega (arith, w.clock, a.fits) }

-- what c refers to is lighter, so it may be visited
module _ (cs : List (Cell ℕ)) (b : ℕ) (ms ns : List ℕ) (c : ℕ) (f : Fine cs) (cl : c < length cs) (t : Tops cs b ms c) (u : (i : ℕ) → Under b ns i → Under b ms i) where
  over_link : (p : ℕ) → what_at cs c ≡ Link p → Over cs b ns p
  over_link p w = over_of cs b ms ns c p t u (λ v h. link_falls cs f.formed v h c p cl w)

  over_one : (k : Wrap) (x : ℕ) → what_at cs c ≡ One k x → Over cs b ns x
  over_one k x w = over_of cs b ms ns c x t u (λ v h. one_falls cs f.formed v h c cl k x w)

  over_two_left : (x y : ℕ) → what_at cs c ≡ Two x y → Over cs b ns x
  over_two_left x y w = over_of cs b ms ns c x t u (λ v h. (two_falls cs f.formed v h c cl x y w).0)

  over_two_right : (x y : ℕ) → what_at cs c ≡ Two x y → Over cs b ns y
  over_two_right x y w = over_of cs b ms ns c y t u (λ v h. (two_falls cs f.formed v h c cl x y w).1)

  over_row_left : (l x y : ℕ) → what_at cs c ≡ RowAt l x y → Over cs b ns x
  over_row_left l x y w = over_of cs b ms ns c x t u (λ v h. (row_falls cs f.formed v h c cl l x y (subst Proper w (f.proper c cl)).0 w).0)

  over_row_right : (l x y : ℕ) → what_at cs c ≡ RowAt l x y → Over cs b ns y
  over_row_right l x y w = over_of cs b ms ns c y t u (λ v h. (row_falls cs f.formed v h c cl l x y (subst Proper w (f.proper c cl)).0 w).1)

  -- the only child, or the two
  pub over_child : (x : ℕ) → (what_at cs c ≡ Link x) ⊎ ((k : Wrap) × (what_at cs c ≡ One k x)) → (x < length cs) × Over cs b ns x
  over_child x w =
      ⊎_elim (λ (e : what_at cs c ≡ Link x). ((subst (λ (u : What ℕ). Refers cs c u) e (f.formed.refers c cl)).0, over_link x e))
      (λ (e : (k : Wrap) × (what_at cs c ≡ One k x)). ((subst (λ (u : What ℕ). Refers cs c u) e.1 (f.formed.refers c cl)).0, over_one e.0 x e.1)) w

  pub over_left : (x y : ℕ) → (what_at cs c ≡ Two x y) ⊎ ((l : ℕ) × (what_at cs c ≡ RowAt l x y)) → (x < length cs) × Over cs b ns x
  over_left x y w =
      ⊎_elim (λ (e : what_at cs c ≡ Two x y). ((subst (λ (u : What ℕ). Refers cs c u) e (f.formed.refers c cl)).0, over_two_left x y e))
      (λ (e : (l : ℕ) × (what_at cs c ≡ RowAt l x y)). ((subst (λ (u : What ℕ). Refers cs c u) e.1 (f.formed.refers c cl)).0, over_row_left e.0 x y e.1)) w

  pub over_right : (x y : ℕ) → (what_at cs c ≡ Two x y) ⊎ ((l : ℕ) × (what_at cs c ≡ RowAt l x y)) → (y < length cs) × Over cs b ns y
  over_right x y w =
      ⊎_elim (λ (e : what_at cs c ≡ Two x y). ((subst (λ (u : What ℕ). Refers cs c u) e (f.formed.refers c cl)).1, over_two_right x y e))
      (λ (e : (l : ℕ) × (what_at cs c ≡ RowAt l x y)). ((subst (λ (u : What ℕ). Refers cs c u) e.1 (f.formed.refers c cl)).1, over_row_right e.0 x y e.1)) w

-- time
closed_past : (cs : List (Cell ℕ)) (b : ℕ) (ms : List ℕ) (k : ℕ) → Closed cs b ms k → (i : ℕ) → at ms i ≤ k
closed_past cs b ms k c i =
    ⊎_elim (λ (d : b + 1 < at ms i). c.past i d) (λ (d : at ms i ≤ b + 1). let x = c.least in omega (arith, d, x)) (cases_lt (b + 1) (at ms i))

pub timed_none : (cs : List (Cell ℕ)) (b : ℕ) (ms : List ℕ) (k : ℕ) → Closed cs b ms k → Timed b ms k ms k
timed_none cs b ms k c = record { same = refl; past = closed_past cs b ms k c; later = omega arith; clock = omega arith }

pub timed_went : (cs : List (Cell ℕ)) (b : ℕ) (ms ns : List ℕ) (k l : ℕ) → Went cs b ms k ns l → Timed b ms k ns l
timed_went cs b ms ns k l w = record { same = w.same; past = closed_past cs b ns l w.closed; later = w.later; clock = w.clock }

pub timed_more : (b : ℕ) (ms ns os : List ℕ) (k l n : ℕ) → Timed b ms k ns l → Timed b ns l os n → Timed b ms k os n
timed_more b ms ns os k l n g h = record { same = h.same ∙ g.same; past = h.past; later = omega (arith, g.later, h.later); clock = omega (arith, g.clock, h.clock) }

pub timed_enter : (b : ℕ) (ms ns : List ℕ) (k l c : ℕ) → unseens b (set ms c (b + 1)) + 1 ≡ unseens b ms → Timed b (set ms c (b + 1)) k ns l → Timed b ms k ns l
timed_enter b ms ns k l c e t = record { same = t.same ∙ length-set ms c (b + 1); past = t.past; later = t.later; clock = omega (arith, e, t.clock) }
