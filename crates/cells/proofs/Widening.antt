-- Any number of extensions for two rows that are to be one.
use Rattle.std.proofs.Common.{◌≡◌, ℕ, suc, ◌<◌, ◌≤◌, true, false, List, [], ◌∷◌, ◌++◌, length, sym, refl, ap, ◌∙◌, subst, ⊎_elim, arith}
use Rattle.std.proofs.lemmas.Bool.{false≢true, cases_eq, cases_lt}
use Rattle.ground.specs.Values.{of_row, at, put}
use Rattle.ground.specs.Sorts.{Of, In}
use Rattle.ground.specs.declared.sort.Sort.{Sort}
use Rattle.ground.specs.declared.sort.Sort.TheVariants.{Field as OfField, Row as OfRow}
use Rattle.ground.specs.declared.sort.Labels.{Labels}
use Rattle.cells.specs.declared.What.TheVariants.{Open}
use Rattle.cells.specs.declared.Cell.{Cell}
use Rattle.cells.specs.Cuts.{cut_field, cut}
use Rattle.cells.specs.Cells.{as_field, as_row, row_of, what_at, sort_at, Says, Holds, Valuation, Agree, Formed, Adds, longer, extended}
use Rattle.cells.specs.Rows.{Shown, Chain, shown, lookup, Tail}
use Rattle.cells.proofs.Cutting.{fields_agree}
use Rattle.cells.proofs.Building.{rows_seen, row_is, row_lacks}
use Rattle.cells.proofs.Linking.{what_from, what_else, sort_same}
use Rattle.cells.proofs.Extending.{length_longer, longer_old, longer_row, length_extended, roots_extended, extending, extending_old, extend_down, extend_up, longer_tail}
use Rattle.cells.proofs.Spending.{used_extended}
use Rattle.cells.proofs.Forming.{formed_extended}
use Rattle.cells.proofs.Chains.{built, known, Stays, chain_says, chain_stays, chain_snoc, chain_field}
use Rattle.cells.proofs.Crossing.{shown_at_holds, hidden_at}
pub use Rattle.cells.specs.Widths.{Widened}
use Rattle.cells.specs.Weights.{same}
use Rattle.ground.proofs.Rows.{put_inj}

pub widened_none : (cs : List (Cell ℕ)) (a b : ℕ) → Formed cs → Widened cs a b cs
widened_none cs a b f = record {
  formed = f;
  stays = λ i w e p. e;
  sorts = λ i l. refl;
  times = 0;
  cells = omega arith;
  trees = omega arith;
  paid = refl;
  grow = λ v. v;
  agree = λ v i l. refl;
  down = λ d v h e. h;
  up = λ f v h. h;
  fixed = λ v w p q a. a;
}

pub widened_turn : (cs : List (Cell ℕ)) (a b : ℕ) (ds : List (Cell ℕ)) → Widened cs a b ds → Widened cs b a ds
widened_turn cs a b ds w = record {
  formed = w.formed;
  stays = w.stays;
  sorts = w.sorts;
  times = w.times;
  cells = w.cells;
  trees = w.trees;
  paid = w.paid;
  grow = w.grow;
  agree = w.agree;
  down = λ d v h e. w.down d v h (sym e);
  up = w.up;
  fixed = w.fixed;
}

-- a label that one chain shows and the other does not may be added to the other's tail
pub may_add : (fs gs : List Shown) (m n o : Labels) (l : ℕ) → Tail fs m n → Tail gs m o → shown fs l ≡ true → shown gs l ≡ false → In l o → ⊥
may_add fs gs m n o l s t p q i =
    ⊎_elim (λ (e : shown gs l ≡ true). false≢true (sym q ∙ e)) (λ (j : In l m). s.new l p j) (t.only l i)

module _ (es : List (Cell ℕ)) (o l x : ℕ) (m n : Labels) (ol : o < length es) (xl : x < length es) (oo : what_at es o ≡ Open) (os : sort_at es o ≡ OfRow m) (adds : Adds m l n) where
  ll : length (longer es o l x n) ≡ suc (suc (length es))
  ll = length_longer es o l x m n ol xl oo os adds

  ok_o : o < length (longer es o l x n)
  ok_o = omega (arith, ll, ol)

  ok_n : length es < length (longer es o l x n)
  ok_n = omega (arith, ll)

  ok_ne : o ≡ length es → ⊥
  ok_ne e = omega (arith, ol, e)

  pub stays_extended : Stays es (extended es o l x n)
  stays_extended i w e p =
      let il = known es i w e p in
      let q : i ≡ o → ⊥ = λ z. let y : ◌≡◌ {A = ℕ} 0 1 = sym (ap built (ap (what_at es) z ∙ oo)) ∙ ap built e ∙ p in let u : ⊥ = omega arith in u in
      what_else (longer es o l x n) o (length es) ok_o ok_n ok_ne i q ∙ ap (λ (c : Cell ℕ). c.what) (longer_old es o l x m n ol xl oo os adds i il) ∙ e

  pub sorts_extended : (i : ℕ) → i < length es → sort_at (extended es o l x n) i ≡ sort_at es i
  sorts_extended i il = sort_same (longer es o l x n) o (length es) ok_o ok_n ok_ne i ∙ ap (λ (c : Cell ℕ). c.sort) (longer_old es o l x m n ol xl oo os adds i il)

  -- the old tail has the value of the new row, and that tells the new tail
  row_value : (v : Valuation) → Holds same (extended es o l x n) v → (v (length es) ≡ v o) × (v (length es) ≡ row_of l (v x) (v (suc (length es))))
  row_value v h =
      let le = length_extended es o l x m n ol xl oo os adds in
      let e = subst (Says same v o) (what_from (longer es o l x n) o (length es) ok_o ok_n ok_ne) (h o (omega (arith, le, ol))).0 in
      let r = subst (Says same v (length es))
      (what_else (longer es o l x n) o (length es) ok_o ok_n ok_ne (length es) (λ q. ok_ne (sym q)) ∙ ap (λ (c : Cell ℕ). c.what) (longer_row es o l x m n ol xl oo os adds)) (h (length es) (omega (arith, le))).0 in
      (sym e, r)

  tail_of : (v : Valuation) → Holds same (extended es o l x n) v → Of (OfRow n) (v (suc (length es)))
  tail_of v h =
      subst (λ (s : Sort). Of s (v (suc (length es))))
      (sort_same (longer es o l x n) o (length es) ok_o ok_n ok_ne (suc (length es)) ∙ ap (λ (c : Cell ℕ). c.sort) (longer_tail es o l x m n ol xl oo os adds))
      (h (suc (length es)) (omega (arith, length_extended es o l x m n ol xl oo os adds))).1

  pub fixed_extended : (v w : Valuation) → Holds same (extended es o l x n) v → Holds same (extended es o l x n) w → Agree (length es) v w → Agree (length (extended es o l x n)) v w
  fixed_extended v w p q a i il =
      let rv = row_value v p in
      let rw = row_value w q in
      let t = suc (length es) in
      let row : w (length es) ≡ v (length es) = rw.0 ∙ a o ol ∙ sym rv.0 in
      let rows : of_row (put (as_row (w t)) l (as_field (w x))) ≡ of_row (put (as_row (v t)) l (as_field (v x))) = sym rw.1 ∙ row ∙ rv.1 in
      let puts : put (as_row (w t)) l (as_field (w x)) ≡ put (as_row (v t)) l (as_field (v x)) = cc in
      let tails : as_row (w t) ≡ as_row (v t) =
      put_inj (as_row (w t)) (as_row (v t)) l (as_field (w x)) (as_field (v x)) (row_lacks n (w t) (tail_of w q) l adds.here) (row_lacks n (v t) (tail_of v p) l adds.here) puts in
      let tail : w t ≡ v t = row_is n (w t) (tail_of w q) ∙ ap of_row tails ∙ sym (row_is n (v t) (tail_of v p)) in
      ⊎_elim (λ (y : i < length es). a i y)
      (λ (y : length es ≤ i).
      ⊎_elim (λ (e : i ≡ length es). subst (λ (j : ℕ). w j ≡ v j) (sym e) row)
      (λ (e : i ≡ length es → ⊥). subst (λ (j : ℕ). w j ≡ v j) (let z : t ≡ i = omega (arith, length_extended es o l x m n ol xl oo os adds, il, y, e) in z) tail)
      (cases_eq i (length es)))
      (cases_lt i (length es))

  -- the chain that ended in o shows l now, and ends in the new tail
  pub chain_extended : {b : ℕ} {gs : List Shown} → Chain es b gs o → Chain (extended es o l x n) b (gs ++ record { label = l; field = x } ∷ []) (suc (length es))
  chain_extended ch =
      chain_snoc (extended es o l x n) (chain_stays es (extended es o l x n) stays_extended ch)
      (what_from (longer es o l x n) o (length es) ok_o ok_n ok_ne)
      (what_else (longer es o l x n) o (length es) ok_o ok_n ok_ne (length es) (λ e. ok_ne (sym e)) ∙ ap (λ (c : Cell ℕ). c.what) (longer_row es o l x m n ol xl oo os adds))

module _ (cs : List (Cell ℕ)) (a b : ℕ) (es : List (Cell ℕ)) (al : a < length cs) (bl : b < length cs) (wd : Widened cs a b es) (fs gs : List Shown) (ta o l z : ℕ) (m n : Labels)
    (cA : Chain es a fs ta) (cB : Chain es b gs o) (ol : o < length es) (oo : what_at es o ≡ Open) (os : sort_at es o ≡ OfRow m) (adds : Adds m l n) (small : l < 24)
    (zl : z < length es) (zs : sort_at es z ≡ OfField) (sl : shown fs l ≡ true) (hl : shown gs l ≡ false) where
  abbrev x : ℕ
  x = lookup fs l z

  xl : x < length es
  xl = (chain_field es z wd.formed cA zl zs l).0

  same_field : (d : ℕ) (w : Valuation) → Holds (cut (suc d)) es w → cut (suc d) (w a) ≡ cut (suc d) (w b) → cut_field d (at (as_row (w o)) l) ≡ cut_field d (as_field (w x))
  same_field d w h e =
      sym (chain_says d es w h cB l ∙ ap (cut_field d) (hidden_at w gs (as_row (w o)) l hl))
      ∙ sym (fields_agree d (as_row (w a)) (as_row (w b)) (rows_seen (suc d) (w a) (w b) e) l)
      ∙ chain_says d es w h cA l ∙ ap (cut_field d) (shown_at_holds w fs (as_row (w ta)) l z sl)

  pub widened_more : Widened cs a b (extended es o l x n)
  widened_more = record {
    formed = formed_extended es o l x m n ol xl oo os adds (chain_field es z wd.formed cA zl zs l).1 wd.formed;
    stays = λ i w e p. stays_extended es o l x m n ol xl oo os adds i w (wd.stays i w e p) p;
    sorts = λ i il. sorts_extended es o l x m n ol xl oo os adds i (omega (arith, wd.cells, il)) ∙ wd.sorts i il;
    times = suc wd.times;
    cells = omega (arith, length_extended es o l x m n ol xl oo os adds, wd.cells);
    trees = omega (arith, roots_extended es o l x m n ol xl oo os adds, wd.trees);
    paid = used_extended es o l x m n ol xl oo os adds small ∙ wd.paid;
    grow = λ v. extending es o l x m n ol xl oo os adds (wd.grow v);
    agree = λ v i il. extending_old es o l x m n ol xl oo os adds (wd.grow v) i (omega (arith, wd.cells, il)) ∙ wd.agree v i il;
    down = λ d v h e.
        let k = wd.down d v h e in
        let w = wd.grow v in
        let e2 : cut (suc d) (w a) ≡ cut (suc d) (w b) = ap (cut (suc d)) (wd.agree v a al) ∙ e ∙ sym (ap (cut (suc d)) (wd.agree v b bl)) in
        extend_down es o l x m n ol xl oo os adds wd.formed d w k (same_field d w k e2);
    up = λ f v h. wd.up f v (extend_up es o l x m n ol xl oo os adds f v h);
    fixed = λ v w p q a.
        fixed_extended es o l x m n ol xl oo os adds v w p q
        (wd.fixed v w (extend_up es o l x m n ol xl oo os adds same v p) (extend_up es o l x m n ol xl oo os adds same w q) a);
  }
