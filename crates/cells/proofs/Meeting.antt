-- The other steps: an open root, leaves, one child, two children. And how the chain of a root goes through an extension.
use Rattle.std.proofs.Common.{◌≡◌, ℕ, suc, ◌<◌, ◌≤◌, true, false, List, [], ◌∷◌, ◌++◌, length, sym, refl, ap, ◌∙◌, subst, arith}
use Rattle.ground.specs.Values.{Value}
use Rattle.ground.specs.Sorts.{Of, In}
use Rattle.ground.specs.Heads.{none_lacked}
use Rattle.ground.specs.declared.sort.Sort.{Sort}
use Rattle.ground.specs.declared.sort.Sort.TheVariants.{«Type» as OfType, Row as OfRow}
use Rattle.ground.specs.declared.sort.Labels.{Labels}
use Rattle.cells.specs.declared.What.{What}
use Rattle.cells.specs.declared.What.TheVariants.{Open, Leaf, One, Two, Row as RowAt}
use Rattle.cells.specs.declared.Cell.{Cell}
use Rattle.cells.specs.declared.Pair.{Pair}
use Rattle.cells.specs.Cuts.{cut}
use Rattle.cells.specs.Cells.{one, two, what_at, sort_at, Root, Says, Holds, Valuation, Formed, Refers, Adds, one_sort, linked, extended}
use Rattle.cells.specs.Rows.{Shown, Chain, shown, Rooted, bare, over, Tail}
use Rattle.cells.specs.Steps.{pair, Paired, Among, Stepped}
use Rattle.cells.proofs.Cutting.{less}
use Rattle.cells.proofs.Building.{cong_one, cong_two, inj_list, inj_rec, inj_has, inj_to_left, inj_to_right}
use Rattle.cells.proofs.Linking.{length_linked, roots_linked, what_else, link_down, link_eq, link_up}
use Rattle.cells.proofs.Spending.{used_linked}
use Rattle.cells.proofs.Forming.{formed_linked}
use Rattle.cells.proofs.Chains.{chain_stays}
use Rattle.cells.proofs.Widening.{may_add, stays_extended, chain_extended}
use Rattle.cells.proofs.Whole.{holds_less}
use Rattle.cells.specs.declared.Bare.{Bare}
use Rattle.cells.specs.declared.Wrap.{Wrap}
use Rattle.cells.specs.declared.Wrap.TheVariants.{List as ListOf, Record as RecordOf, Has as HasOf}

inj_one : (d : ℕ) (h : Wrap) (s t : Sort) (u v : Value) → one_sort h s → one_sort h t → Of s u → Of t v → cut (suc d) (one h u) ≡ cut (suc d) (one h v) → cut d u ≡ cut d v
inj_one d ListOf s t u v p q a b e = inj_list d u v (subst (λ (x : Sort). Of x u) p a) (subst (λ (x : Sort). Of x v) q b) e
inj_one d RecordOf s t u v p q a b e = inj_rec d none_lacked none_lacked u v (subst (λ (x : Sort). Of x u) p a) (subst (λ (x : Sort). Of x v) q b) e
inj_one d HasOf s t u v p q a b e = inj_has d u v (subst (λ (x : Sort). Of x u) p a) (subst (λ (x : Sort). Of x v) q b) e

among_more : (m n : ℕ) (ps : List (Pair ℕ)) → m ≤ n → Among m ps → Among n ps
among_more m n [] h a = tt
among_more m n (p ∷ ps) h a = (omega (arith, a.0), omega (arith, a.1), among_more m n ps h a.2)

module _ (cs : List (Cell ℕ)) (r t : ℕ) (rl : r < length cs) (tl : t < length cs) (ne : r ≡ t → ⊥) (f : Formed cs) (ro : Root (what_at cs r)) (to : Root (what_at cs t)) (ss : sort_at cs r ≡ sort_at cs t) where
  -- a link with pairs that make its root say what it said
  link_stepped : (ps : List (Pair ℕ)) → length ps ≤ 25 → Among (length cs) ps →
      ((d : ℕ) (v : Valuation) → Holds (cut (suc d)) cs v → cut (suc d) (v r) ≡ cut (suc d) (v t) → Paired (cut d) ps v) →
      ((d : ℕ) (v : Valuation) → Says (cut d) v t (what_at cs t) → cut d (v r) ≡ cut d (v t) → Paired (cut d) ps v → Says (cut d) v r (what_at cs r)) →
      Stepped cs r t ps (linked cs r t)
  link_stepped ps few am goes from = record {
    formed = formed_linked cs r t rl tl ne f ro to ss;
    more = omega (arith, length_linked cs r t rl tl ne);
    even = (0, omega (arith, length_linked cs r t rl tl ne));
    known = among_more (length cs) (length (linked cs r t)) ps (omega (arith, length_linked cs r t rl tl ne)) am;
    paid = used_linked cs r t rl tl ne;
    nearer = λ C p h. omega (arith, length_linked cs r t rl tl ne, roots_linked cs r t rl tl ne ro, few);
    grow = λ v. v;
    agree = λ v i l. refl;
    down = λ d v h e. (holds_less d (linked cs r t) v (link_down cs r t rl tl ne (cut (suc d)) v h e), goes d v h e);
    up = λ d v h p.
        let e = link_eq cs r t rl tl ne (cut d) v h in
        let s = subst (λ (w : What ℕ). Says (cut d) v t w) (what_else cs r t rl tl ne t (λ q. ne (sym q))) (h t (omega (arith, length_linked cs r t rl tl ne, tl))).0 in
        (link_up cs r t rl tl ne (cut d) v h (from d v s e p), e);
    fixed = λ v w p q a i il. a i (omega (arith, length_linked cs r t rl tl ne, il));
  }

  pub open_stepped : what_at cs r ≡ Open → Stepped cs r t [] (linked cs r t)
  open_stepped w = link_stepped [] (omega arith) tt (λ d v h e. tt) (λ d v s e p. subst (λ (c : What ℕ). Says (cut d) v r c) (sym w) tt)

  pub leaf_stepped : (h : Bare) → what_at cs r ≡ Leaf h → what_at cs t ≡ Leaf h → Stepped cs r t [] (linked cs r t)
  leaf_stepped h w u = link_stepped [] (omega arith) tt (λ d v h e. tt)
      (λ d v s e p. subst (λ (c : What ℕ). Says (cut d) v r c) (sym w) (e ∙ subst (λ (c : What ℕ). Says (cut d) v t c) u s))

  pub one_stepped : (h : Wrap) (x y : ℕ) → what_at cs r ≡ One h x → what_at cs t ≡ One h y → Stepped cs r t (pair x y ∷ []) (linked cs r t)
  one_stepped h x y w u =
      let a = subst (Refers cs r) w (f.refers r rl) in
      let b = subst (Refers cs t) u (f.refers t tl) in
      link_stepped (pair x y ∷ []) (omega arith) (a.0, b.0, tt)
      (λ d v k e. (
        inj_one d h (sort_at cs x) (sort_at cs y) (v x) (v y) a.1 b.1 (k x a.0).1 (k y b.0).1
            (sym (subst (λ (c : What ℕ). Says (cut (suc d)) v r c) w (k r rl).0) ∙ e ∙ subst (λ (c : What ℕ). Says (cut (suc d)) v t c) u (k t tl).0),
        tt,
      ))
      (λ d v s e p. subst (λ (c : What ℕ). Says (cut d) v r c) (sym w)
      (e ∙ subst (λ (c : What ℕ). Says (cut d) v t c) u s ∙ sym (less d (one h (v x)) (one h (v y)) (cong_one d h (v x) (v y) p.0))))

  pub two_stepped : (x y z q : ℕ) → what_at cs r ≡ Two x y → what_at cs t ≡ Two z q → Stepped cs r t (pair x z ∷ pair y q ∷ []) (linked cs r t)
  two_stepped x y z q w u =
      let a = subst (Refers cs r) w (f.refers r rl) in
      let b = subst (Refers cs t) u (f.refers t tl) in
      let of : (v : Valuation) (d i : ℕ) → Holds (cut (suc d)) cs v → i < length cs → sort_at cs i ≡ OfType → Of OfType (v i) = λ v d i k il s. subst (λ (c : Sort). Of c (v i)) s (k i il).1 in
      link_stepped (pair x z ∷ pair y q ∷ []) (omega arith) (a.0, b.0, (a.1, b.1, tt))
      (λ d v k e.
      let g : cut (suc d) (two (v x) (v y)) ≡ cut (suc d) (two (v z) (v q)) = sym (subst (λ (c : What ℕ). Says (cut (suc d)) v r c) w (k r rl).0) ∙ e ∙ subst (λ (c : What ℕ). Says (cut (suc d)) v t c) u (k t tl).0 in (
        inj_to_left d (v x) (v y) (v z) (v q) (of v d x k a.0 a.2) (of v d z k b.0 b.2) g,
        (inj_to_right d (v x) (v y) (v z) (v q) (of v d y k a.1 a.3) (of v d q k b.1 b.3) g, tt),
      ))
      (λ d v s e p. subst (λ (c : What ℕ). Says (cut d) v r c) (sym w)
      (e ∙ subst (λ (c : What ℕ). Says (cut d) v t c) u s ∙ sym (less d (two (v x) (v y)) (two (v z) (v q)) (cong_two d (v x) (v y) (v z) (v q) p.0 p.1.0))))

-- the tails of two chains are apart where a label is shown by one alone
pub tails_apart : (cs : List (Cell ℕ)) (fs gs : List Shown) (m n o : Labels) (l ta tb : ℕ) → Tail fs m n → Tail gs m o → sort_at cs ta ≡ OfRow n → sort_at cs tb ≡ OfRow o → shown fs l ≡ true → shown gs l ≡ false → ta ≡ tb → ⊥
tails_apart cs fs gs m n o l ta tb s t sa sb p q e =
    may_add fs gs m n o l s t p q (let z : OfRow n ≡ OfRow o = sym sa ∙ ap (sort_at cs) e ∙ sb in let y : n ≡ o = cc in subst (λ (x : Labels). In l x) y (s.here l p))

-- the chain of a row root whose tail is extended, and of any other root
module _ (es : List (Cell ℕ)) (o l x : ℕ) (m n : Labels) (ol : o < length es) (xl : x < length es) (oo : what_at es o ≡ Open) (os : sort_at es o ≡ OfRow m) (adds : Adds m l n) where
  pub rooted_extended : (b k g y : ℕ) (gs : List Shown) → what_at es b ≡ RowAt k g y → Chain es y gs o →
      Rooted (extended es o l x n) b (record { label = k; field = g } ∷ (gs ++ record { label = l; field = x } ∷ [])) (suc (length es))
  rooted_extended b k g y gs e ch = over (stays_extended es o l x m n ol xl oo os adds b (RowAt k g y) e refl) (chain_extended es o l x m n ol xl oo os adds ch)

  pub rooted_stays : {b t : ℕ} {gs : List Shown} → Rooted es b gs t → Rooted (extended es o l x n) b gs t
  rooted_stays bare = bare
  rooted_stays (over {b = b} {l = k} {x = g} {y = y} e ch) =
      over (stays_extended es o l x m n ol xl oo os adds b (RowAt k g y) e refl) (chain_stays es (extended es o l x n) (stays_extended es o l x m n ol xl oo os adds) ch)
