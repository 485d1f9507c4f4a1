-- The whole row step, and turn after turn.
use Rattle.std.proofs.Common.{◌≡◌, ℕ, zero, suc, ◌+◌, ◌<◌, ◌≤◌, true, false, List, [], ◌∷◌, ◌++◌, length, sym, refl, ap, ◌∙◌, subst, ⊎_elim, arith}
use Rattle.std.proofs.lemmas.Bool.{cases_Bool}
use Rattle.ground.specs.Values.{Value}
use Rattle.ground.specs.declared.sort.Sort.TheVariants.{Field as OfField, Row as OfRow}
use Rattle.ground.specs.declared.sort.Labels.{Labels}
use Rattle.cells.specs.declared.What.{What}
use Rattle.cells.specs.declared.What.TheVariants.{Open, Link, Leaf, One, Two, Row as RowAt}
use Rattle.cells.specs.declared.Cell.{Cell}
use Rattle.cells.specs.declared.Pair.{Pair}
use Rattle.cells.specs.Cuts.{cut}
use Rattle.cells.specs.Cells.{leaf, one, two, row_of, what_at, sort_at, Root, rootly, roots, Says, Holds, Valuation, Agree, Formed, Refers, linked}
use Rattle.cells.specs.Rows.{Shown, Chain, shows, shown, lookup, Rooted}
use Rattle.cells.specs.Steps.{pair, Paired, Among, pairs_at, Mem, Stepped, Led, Meets}
use Rattle.cells.proofs.Cutting.{less}
use Rattle.cells.proofs.Linking.{length_linked, roots_linked}
use Rattle.cells.proofs.Spending.{used_linked}
use Rattle.cells.proofs.Forming.{formed_linked}
use Rattle.cells.proofs.Chains.{chain_field}
use Rattle.cells.proofs.Crossing.{hidden_lookup}
use Rattle.cells.proofs.Stepping.{rooted_chain, cross_down, cross_up, cross_up_zero}
use Rattle.cells.proofs.Widening.{Widened}
use Rattle.cells.proofs.Ends.{holds_all}
use Rattle.cells.specs.declared.Bare.TheVariants.{Absent, Empty}

says_less : (d : ℕ) (v : Valuation) (i : ℕ) (w : What ℕ) → Says (cut (suc d)) v i w → Says (cut d) v i w
says_less d v i Open h = tt
says_less d v i (Link p) h = less d (v i) (v p) h
says_less d v i (Leaf k) h = less d (v i) (leaf k) h
says_less d v i (One k x) h = less d (v i) (one k (v x)) h
says_less d v i (Two x y) h = less d (v i) (two (v x) (v y)) h
says_less d v i (RowAt l x y) h = less d (v i) (row_of l (v x) (v y)) h

pub holds_less : (d : ℕ) (cs : List (Cell ℕ)) (v : Valuation) → Holds (cut (suc d)) cs v → Holds (cut d) cs v
holds_less d cs v h i il = (says_less d v i (what_at cs i) (h i il).0, (h i il).1)

-- pairs at labels that cover both chains say it of every label
pub pairs_from : (f : Value → Value) (v : Valuation) (fs gs : List Shown) (z : ℕ) (ks : List ℕ) → ((k : ℕ) → f (v (lookup fs k z)) ≡ f (v (lookup gs k z))) → Paired f (pairs_at fs gs z ks) v
pairs_from f v fs gs z [] h = tt
pairs_from f v fs gs z (k ∷ ks) h = (h k, pairs_from f v fs gs z ks h)

pairs_mem : (f : Value → Value) (v : Valuation) (fs gs : List Shown) (z : ℕ) (ks : List ℕ) (k : ℕ) → Mem k ks → Paired f (pairs_at fs gs z ks) v → f (v (lookup fs k z)) ≡ f (v (lookup gs k z))
pairs_mem f v fs gs z [] k m p = absurd m
pairs_mem f v fs gs z (j ∷ ks) k m p =
    ⊎_elim (λ (e : k ≡ j). subst (λ (i : ℕ). f (v (lookup fs i z)) ≡ f (v (lookup gs i z))) (sym e) p.0) (λ (q : Mem k ks). pairs_mem f v fs gs z ks k q p.1) m

pub pairs_to : (f : Value → Value) (v : Valuation) (fs gs : List Shown) (z : ℕ) (ks : List ℕ) → ((k : ℕ) → shown fs k ≡ true → Mem k ks) → ((k : ℕ) → shown gs k ≡ true → Mem k ks) →
    Paired f (pairs_at fs gs z ks) v → (k : ℕ) → f (v (lookup fs k z)) ≡ f (v (lookup gs k z))
pairs_to f v fs gs z ks ca cb p k =
    ⊎_elim (λ (e : shown fs k ≡ true). pairs_mem f v fs gs z ks k (ca k e) p)
    (λ (e : shown fs k ≡ false).
    ⊎_elim (λ (q : shown gs k ≡ true). pairs_mem f v fs gs z ks k (cb k q) p)
    (λ (q : shown gs k ≡ false). ap (λ (i : ℕ). f (v i)) (hidden_lookup fs k z e ∙ sym (hidden_lookup gs k z q)))
    (cases_Bool (shown gs k)))
    (cases_Bool (shown fs k))

among_at : (n : ℕ) (fs gs : List Shown) (z : ℕ) (ks : List ℕ) → ((k : ℕ) → lookup fs k z < n) → ((k : ℕ) → lookup gs k z < n) → Among n (pairs_at fs gs z ks)
among_at n fs gs z [] a b = tt
among_at n fs gs z (k ∷ ks) a b = (a k, b k, among_at n fs gs z ks a b)

length_at : (fs gs : List Shown) (z : ℕ) (ks : List ℕ) → length (pairs_at fs gs z ks) ≡ length ks
length_at fs gs z [] = refl
length_at fs gs z (k ∷ ks) = ap suc (length_at fs gs z ks)

-- by extensions from cs to ds, and there one row over a chain and another root, of one sort, with empty tails where a label is missing
module _ (cs ds : List (Cell ℕ)) (a b z l x y ta tb : ℕ) (fs gs : List Shown) (m : Labels) (al : a < length cs) (bl : b < length cs) (ne : a ≡ b → ⊥) (wd : Widened cs a b ds)
    (wa : what_at ds a ≡ RowAt l x y) (rb : Root (what_at ds b)) (ca : Chain ds y fs ta) (cb : Rooted ds b gs tb) (sa : sort_at ds a ≡ OfRow m) (sb : sort_at ds b ≡ OfRow m)
    (zl : z < length ds) (zw : what_at ds z ≡ Leaf Absent) (zs : sort_at ds z ≡ OfField) (tal : ta < length ds) (tbl : tb < length ds) (ks : List ℕ) (few : length ks ≤ 24) where
  abbrev all : List Shown
  all = record { label = l; field = x } ∷ fs

  module _ (ea : (k : ℕ) → shown all k ≡ false → shown gs k ≡ true → what_at ds ta ≡ Leaf Empty) (eb : (k : ℕ) → shown all k ≡ true → shown gs k ≡ false → what_at ds tb ≡ Leaf Empty)
      (ka : (k : ℕ) → shown all k ≡ true → Mem k ks) (kb : (k : ℕ) → shown gs k ≡ true → Mem k ks) where
    al2 : a < length ds
    al2 = omega (arith, wd.cells, al)

    bl2 : b < length ds
    bl2 = omega (arith, wd.cells, bl)

    abbrev pub todo : List (Pair ℕ)
    todo = pair ta tb ∷ pairs_at all gs z ks

    ll : length (linked ds a b) ≡ length ds
    ll = length_linked ds a b al2 bl2 ne

    ra : Root (what_at ds a)
    ra = ap rootly wa

    go_down : (d : ℕ) (v : Valuation) → Holds (cut (suc d)) cs v → cut (suc d) (v a) ≡ cut (suc d) (v b) → Holds (cut d) (linked ds a b) (wd.grow v) × Paired (cut d) todo (wd.grow v)
    go_down d v h e =
        let k = wd.down d v h e in
        let w = wd.grow v in
        let e2 : cut (suc d) (w a) ≡ cut (suc d) (w b) = ap (cut (suc d)) (wd.agree v a al) ∙ e ∙ sym (ap (cut (suc d)) (wd.agree v b bl)) in
        let c = cross_down ds a b z l x y ta tb fs gs m al2 bl2 ne wd.formed wa ca cb sa sb zl zw zs tal tbl ea eb d w k e2 in
        (holds_less d (linked ds a b) w c.0, (less d (w ta) (w tb) c.2, pairs_from (cut d) w all gs z ks c.1))

    go_wide : (d : ℕ) (v : Valuation) → Holds (cut d) (linked ds a b) v → Paired (cut d) todo v → Holds (cut d) ds v × (cut d (v a) ≡ cut d (v b))
    go_wide zero v h p = cross_up_zero ds a b z l x y ta tb fs gs m al2 bl2 ne wd.formed wa ca cb sa sb zl zw zs tal tbl ea eb v h
    go_wide (suc d) v h p =
        cross_up ds a b z l x y ta tb fs gs m al2 bl2 ne wd.formed wa ca cb sa sb zl zw zs tal tbl ea eb d v h
        (λ k. less d (v (lookup all k z)) (v (lookup gs k z)) (pairs_to (cut (suc d)) v all gs z ks ka kb p.1 k)) p.0

    go_up : (d : ℕ) (v : Valuation) → Holds (cut d) (linked ds a b) v → Paired (cut d) todo v → Holds (cut d) cs v × (cut d (v a) ≡ cut d (v b))
    go_up d v h p = let c = go_wide d v h p in (wd.up (cut d) v c.0, c.1)

    go_fixed : (v w : Valuation) → Meets (linked ds a b) todo v → Meets (linked ds a b) todo w → Agree (length cs) v w → Agree (length (linked ds a b)) v w
    go_fixed v w p q e i il =
        wd.fixed v w (holds_all ds v (λ d. (go_wide d v (p d).0 (p d).1).0)) (holds_all ds w (λ d. (go_wide d w (q d).0 (q d).1).0)) e i (omega (arith, ll, il))

    pub row_stepped : Stepped cs a b todo (linked ds a b)
    row_stepped = record {
      formed = formed_linked ds a b al2 bl2 ne wd.formed ra rb (sa ∙ sym sb);
      more = omega (arith, ll, wd.cells);
      even = (wd.times, omega (arith, ll, wd.cells));
      known = (
        omega (arith, ll, tal),
        omega (arith, ll, tbl),
        among_at (length (linked ds a b)) all gs z ks (λ k. let q = chain_field ds z wd.formed (shows Rattle.cells.specs.Cells.stay wa ca) zl zs k in omega (arith, ll, q.0)) (λ k. let q = chain_field ds z wd.formed (rooted_chain ds cb) zl zs k in omega (arith, ll, q.0)),
      );
      paid = omega (arith, used_linked ds a b al2 bl2 ne, wd.paid);
      nearer = λ C p h. omega (arith, ll, roots_linked ds a b al2 bl2 ne ra, wd.cells, wd.trees, length_at all gs z ks, few);
      grow = wd.grow;
      agree = wd.agree;
      down = go_down;
      up = go_up;
      fixed = go_fixed;
    }

-- turn after turn
pub led_none : (cs : List (Cell ℕ)) (ps : List (Pair ℕ)) → Led 0 cs ps cs ps
led_none cs ps = record {
  more = omega arith;
  even = (0, omega arith);
  grow = λ v. v;
  agree = λ v i l. refl;
  down = λ d v h p. (subst (λ (n : ℕ). Holds (cut n) cs v) (omega arith) h, subst (λ (n : ℕ). Paired (cut n) ps v) (omega arith) p);
  up = λ d v h p. (h, p);
  fixed = λ v w p q a. a;
}

paired_less : (d : ℕ) (ps : List (Pair ℕ)) (v : Valuation) → Paired (cut (suc d)) ps v → Paired (cut d) ps v
paired_less d [] v h = tt
paired_less d (p ∷ ps) v h = (less d (v p.left) (v p.right) h.0, paired_less d ps v h.1)

paired_agree : (f : Value → Value) (n : ℕ) (v w : Valuation) → Agree n v w → (ps : List (Pair ℕ)) → Among n ps → Paired f ps v → Paired f ps w
paired_agree f n v w a [] m h = tt
paired_agree f n v w a (p ∷ ps) m h = (ap f (a p.left m.0) ∙ h.0 ∙ sym (ap f (a p.right m.1)), paired_agree f n v w a ps m.2 h.1)

pub paired_append : (f : Value → Value) (v : Valuation) (ps qs : List (Pair ℕ)) → Paired f ps v → Paired f qs v → Paired f (ps ++ qs) v
paired_append f v [] qs p q = q
paired_append f v (a ∷ ps) qs p q = (p.0, paired_append f v ps qs p.1 q)

pub paired_left : (f : Value → Value) (v : Valuation) (ps qs : List (Pair ℕ)) → Paired f (ps ++ qs) v → Paired f ps v
paired_left f v [] qs p = tt
paired_left f v (a ∷ ps) qs p = (p.0, paired_left f v ps qs p.1)

pub paired_right : (f : Value → Value) (v : Valuation) (ps qs : List (Pair ℕ)) → Paired f (ps ++ qs) v → Paired f qs v
paired_right f v [] qs p = p
paired_right f v (a ∷ ps) qs p = paired_right f v ps qs p.1

-- a turn takes a pair and puts others before the rest
pub led_step : (k : ℕ) (cs : List (Cell ℕ)) (ps : List (Pair ℕ)) (es ds : List (Cell ℕ)) (a b : ℕ) (rest new : List (Pair ℕ)) → Among (length es) rest → a < length es → b < length es →
    Led k cs ps es (pair a b ∷ rest) → Stepped es a b new ds → Led (suc k) cs ps ds (new ++ rest)
led_step k cs ps es ds a b rest new am al bl g s = record {
  more = omega (arith, g.more, s.more);
  even = (g.even.0 + s.even.0, omega (arith, g.even.1, s.even.1));
  grow = λ v. s.grow (g.grow v);
  agree = λ v i il. s.agree (g.grow v) i (omega (arith, g.more, il)) ∙ g.agree v i il;
  down = λ d v h p.
      let e : suc k + d ≡ k + suc d = omega arith in
      let x = g.down (suc d) v (subst (λ (n : ℕ). Holds (cut n) cs v) e h) (subst (λ (n : ℕ). Paired (cut n) ps v) e p) in
      let u = g.grow v in
      let y = s.down d u x.0 x.1.0 in (
        y.0,
        paired_append (cut d) (s.grow u) new rest y.1 (paired_agree (cut d) (length es) u (s.grow u) (s.agree u) rest am (paired_less d rest u x.1.1)),
      );
  up = λ d v h p.
      let y = s.up d v h (paired_left (cut d) v new rest p) in
      g.up d v y.0 (y.1, paired_right (cut d) v new rest p);
  fixed = λ v w p q e.
      let back : (u : Valuation) → Meets ds (new ++ rest) u → Meets es (pair a b ∷ rest) u = λ u m d.
      (let y = s.up d u (m d).0 (paired_left (cut d) u new rest (m d).1) in (y.0, (y.1, paired_right (cut d) u new rest (m d).1))) in
      let left : (u : Valuation) → Meets ds (new ++ rest) u → Meets ds new u = λ u m d. ((m d).0, paired_left (cut d) u new rest (m d).1) in
      s.fixed v w (left v p) (left w q) (g.fixed v w (back v p) (back w q) e);
}
