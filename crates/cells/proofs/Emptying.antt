-- An open tail against an empty one, whatever their sorts: the open cell is written empty, and keeps its sort.
use Rattle.std.proofs.Common.{◌≡◌, ℕ, suc, ◌<◌, List, [], length, get_or, set, sym, refl, ap, ◌∙◌, subst, ⊎_elim, arith, length-set}
use Rattle.std.proofs.lemmas.List.{get_or-set_same, get_or-set_other}
use Rattle.std.proofs.lemmas.Bool.{cases_eq}
use Rattle.ground.specs.Sorts.{Of}
use Rattle.ground.specs.declared.sort.Sort.{Sort}
use Rattle.ground.specs.declared.sort.Sort.TheVariants.{Row as OfRow}
use Rattle.ground.specs.declared.sort.Labels.{Labels}
use Rattle.ground.proofs.Rows.{at_end}
use Rattle.cells.specs.declared.What.{What}
use Rattle.cells.specs.declared.What.TheVariants.{Open, Leaf}
use Rattle.cells.specs.declared.Cell.{Cell}
use Rattle.cells.specs.Cuts.{cut}
use Rattle.cells.specs.Cells.{leaf, what_at, rank_at, sort_at, none, rootly, roots, Says, Holds, Formed, Refers}
use Rattle.cells.specs.Steps.{Stepped}
use Rattle.cells.proofs.Linking.{roots_set}
use Rattle.cells.proofs.Spending.{spares_set}
use Rattle.cells.proofs.Forming.{keeps}
use Rattle.cells.proofs.Whole.{holds_less}
use Rattle.cells.specs.declared.Bare.TheVariants.{Empty}

module _ (cs : List (Cell ℕ)) (o t : ℕ) (m : Labels) (ol : o < length cs) (tl : t < length cs) (oo : what_at cs o ≡ Open) (os : sort_at cs o ≡ OfRow m) (tw : what_at cs t ≡ Leaf Empty) (f : Formed cs) where
  abbrev ek : Cell ℕ
  ek = record { what = Leaf Empty; rank = rank_at cs o; sort = sort_at cs o }

  abbrev pub emptied : List (Cell ℕ)
  emptied = set cs o ek

  ll : length emptied ≡ length cs
  ll = simp length-set

  at_o : get_or emptied o none ≡ ek
  at_o = get_or-set_same cs o ek none ol

  at_else : (i : ℕ) → (i ≡ o → ⊥) → get_or emptied i none ≡ get_or cs i none
  at_else i p = get_or-set_other cs o i ek none p

  sorts : (i : ℕ) → sort_at emptied i ≡ sort_at cs i
  sorts i = ⊎_elim (λ (e : i ≡ o). ap (sort_at emptied) e ∙ ap (λ (c : Cell ℕ). c.sort) at_o ∙ ap (sort_at cs) (sym e)) (λ (p : i ≡ o → ⊥). ap (λ (c : Cell ℕ). c.sort) (at_else i p)) (cases_eq i o)

  ranks : (i : ℕ) → rank_at emptied i ≡ rank_at cs i
  ranks i = ⊎_elim (λ (e : i ≡ o). ap (rank_at emptied) e ∙ ap (λ (c : Cell ℕ). c.rank) at_o ∙ ap (rank_at cs) (sym e)) (λ (p : i ≡ o → ⊥). ap (λ (c : Cell ℕ). c.rank) (at_else i p)) (cases_eq i o)

  rs : roots emptied ≡ roots cs
  rs = omega (arith, roots_set cs o ek ol, ap rootly oo)

  refers : (i : ℕ) → i < length cs → Refers emptied i (what_at emptied i)
  refers i il =
      ⊎_elim
      (λ (e : i ≡ o). subst (λ (j : ℕ). Refers emptied j (what_at emptied j)) (sym e)
      (subst (λ (w : What ℕ). Refers emptied o w) (sym (ap (λ (c : Cell ℕ). c.what) at_o)) (subst (λ (s : Sort). Of s (leaf Empty)) (sym (sorts o ∙ os)) (λ l j. at_end l))))
      (λ (p : i ≡ o → ⊥). subst (λ (w : What ℕ). Refers emptied i w) (sym (ap (λ (c : Cell ℕ). c.what) (at_else i p)))
      (keeps cs emptied (omega (arith, ll)) (λ j jl. sorts j) i (what_at cs i) il (λ q e ql h. omega (arith, ranks i, ranks q, h)) (f.refers i il)))
      (cases_eq i o)

  pub empty_stepped : Stepped cs o t [] emptied
  empty_stepped = record {
    formed = record { refers = λ i il. refers i (omega (arith, ll, il)); ranks = λ i il. omega (arith, ranks i, rs, ll, f.ranks i (omega (arith, ll, il))) };
    more = omega (arith, ll);
    even = (0, omega (arith, ll));
    known = tt;
    paid = omega (arith, ll, spares_set cs o ek ol);
    nearer = λ C p h. omega (arith, ll, rs);
    grow = λ v. v;
    agree = λ v i l. refl;
    down = λ d v h e.
        let s : cut (suc d) (v o) ≡ cut (suc d) (leaf Empty) = e ∙ subst (λ (w : What ℕ). Says (cut (suc d)) v t w) tw (h t tl).0 in (
          holds_less d emptied v (λ i il. (
            ⊎_elim
                (λ (q : i ≡ o). subst (λ (j : ℕ). Says (cut (suc d)) v j (what_at emptied j)) (sym q) (subst (λ (w : What ℕ). Says (cut (suc d)) v o w) (sym (ap (λ (c : Cell ℕ). c.what) at_o)) s))
                (λ (q : i ≡ o → ⊥). subst (λ (w : What ℕ). Says (cut (suc d)) v i w) (sym (ap (λ (c : Cell ℕ). c.what) (at_else i q))) (h i (omega (arith, ll, il))).0)
                (cases_eq i o),
            subst (λ (x : Sort). Of x (v i)) (sym (sorts i)) (h i (omega (arith, ll, il))).1,
          )),
          tt,
        );
    up = λ d v h p.
        let old : Holds (cut d) cs v = λ i il. (
          ⊎_elim
              (λ (q : i ≡ o). subst (λ (j : ℕ). Says (cut d) v j (what_at cs j)) (sym q) (subst (λ (w : What ℕ). Says (cut d) v o w) (sym oo) tt))
              (λ (q : i ≡ o → ⊥). subst (λ (w : What ℕ). Says (cut d) v i w) (ap (λ (c : Cell ℕ). c.what) (at_else i q)) (h i (omega (arith, ll, il))).0)
              (cases_eq i o),
          subst (λ (x : Sort). Of x (v i)) (sorts i) (h i (omega (arith, ll, il))).1,
        ) in (
          old,
          subst (λ (w : What ℕ). Says (cut d) v o w) (ap (λ (c : Cell ℕ). c.what) at_o) (h o (omega (arith, ll, ol))).0
              ∙ sym (subst (λ (w : What ℕ). Says (cut d) v t w) tw (old t tl).0),
        );
    fixed = λ v w p q a i il. a i (omega (arith, ll, il));
  }

-- two empty tails, of whatever sorts: nothing to do
pub both_empty : (cs : List (Cell ℕ)) (o t : ℕ) → o < length cs → t < length cs → what_at cs o ≡ Leaf Empty → what_at cs t ≡ Leaf Empty → Formed cs → Stepped cs o t [] cs
both_empty cs o t ol tl ow tw f = record {
  formed = f;
  more = omega arith;
  even = (0, omega arith);
  known = tt;
  paid = omega arith;
  nearer = λ C p h. omega arith;
  grow = λ v. v;
  agree = λ v i l. refl;
  down = λ d v h e. (holds_less d cs v h, tt);
  up = λ d v h p. (h, subst (λ (w : What ℕ). Says (cut d) v o w) ow (h o ol).0 ∙ sym (subst (λ (w : What ℕ). Says (cut d) v t w) tw (h t tl).0));
  fixed = λ v w p q a. a;
}
