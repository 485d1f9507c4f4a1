-- One cell more.
use Rattle.std.proofs.Common.{◌≡◌, ℕ, suc, ◌+◌, ◌<◌, ◌≤◌, Bool, true, false, cond, eqb, ltb, List, [], ◌∷◌, ◌++◌, reverse, length, take, sym, refl, ap, ◌∙◌, subst, ⊎_elim, arith, ltb-false, ltb-true, eq-eqb, ne_eqb}
use mathlib.Core.Option.{some, none}
use Rattle.std.proofs.lemmas.Bool.{cases_eq}
use Rattle.std.proofs.lemmas.List.{get_or_append_left, get_or_past, take-append-le, length-append}
use Rattle.std.proofs.Math.Seq.{get_or-append_seam}
use Rattle.ground.specs.Sorts.{Of}
use Rattle.ground.specs.declared.sort.Sort.TheVariants.{«Type» as OfType}
use Rattle.ground.specs.declared.head.Head.{Head}
use Rattle.system.specs.Meaning.{Valuation}
use Rattle.system.specs.Follows.{Added}
use Rattle.model.specs.declared.cell.Cell.{Cell}
use Rattle.model.specs.declared.cell.Cell.TheVariants.{Open, Link, Built}
use Rattle.model.specs.declared.cell.Bind.{Bind}
use Rattle.model.specs.declared.cell.Saved.{Saved}
use Rattle.model.specs.Cells.{view, seen}
use Rattle.model.specs.Means.{Says, Holds, Lower, Falls, Refers, Fine, Good, opens, meaning_of}
use Rattle.model.specs.Opens.{opens_same, opens_more}
use Rattle.model.specs.Meanings.{below_known, above_unknown}
use Rattle.model.proofs.Marking.{nested_along, nested_more, states_along}

wider : (n : ℕ) (s : Cell) → Refers n s → Refers (suc n) s
wider n Open r = tt
wider n (Link p) r = omega (arith, r)
wider n (Built h x y) r = (r.0, λ e. omega (arith, r.1 e), λ e. omega (arith, r.2 e))

module _ (cs : List Cell) (bs : List Bind) (fine : Fine cs bs) (x : Cell) (fits : Refers (length cs) (seen bs (length cs) x)) where
  abbrev pub ds : List Cell
  ds = cs ++ (x ∷ [])

  abbrev pub new : Cell
  new = seen bs (length cs) x

  pub longer : length ds ≡ suc (length cs)
  longer = omega (arith, length-append cs (x ∷ []))

  pub view_old : (c : ℕ) → c < length cs → view ds bs c ≡ view cs bs c
  view_old c l = ap (seen bs c) (get_or_append_left cs (x ∷ []) Open c l)

  pub view_new : view ds bs (length cs) ≡ new
  view_new = ap (seen bs (length cs)) (get_or-append_seam cs x [] Open)

  view_past : (c : ℕ) → suc (length cs) ≤ c → view ds bs c ≡ Open
  view_past c l =
      ap (seen bs c) (get_or_past ds c Open (omega (arith, longer, l)) ∙ sym (get_or_past cs c Open (omega (arith, l)))) ∙ fine.beyond c (omega (arith, l))

  -- below, at, or above the new code
  which : {P : Type 0} (c : ℕ) → c < suc (length cs) → (c < length cs → P) → (c ≡ length cs → P) → P
  which c l f g = ⊎_elim g (λ (n : c ≡ length cs → ⊥). f (less c (length cs) l n)) (cases_eq c (length cs))
    where
      less : (d c : ℕ) → d < suc c → (d ≡ c → ⊥) → d < c
      less d c l q = omega arith

  top : Cell → ℕ
  top Open = 0
  top (Link p) = suc (fine.order p)
  top (Built h p q) = suc (fine.order p + fine.order q)

  abbrev order' : ℕ → ℕ
  order' c = cond (eqb c (length cs)) (top new) (fine.order c)

  order_old : (c : ℕ) → c < length cs → order' c ≡ fine.order c
  order_old c l = ap (λ (t : Bool). cond t (top new) (fine.order c)) (ne_eqb c (length cs) (λ e. let z : ⊥ = omega (arith, l, e) in z))

  order_new : order' (length cs) ≡ top new
  order_new = ap (λ (t : Bool). cond t (top new) (fine.order (length cs))) (eq-eqb (length cs) (length cs) refl)

  lower_old : (c : ℕ) → c < length cs → (s : Cell) → Refers (length cs) s → Lower fine.order c s → Lower order' c s
  lower_old c l Open r f = tt
  lower_old c l (Link p) r f = omega (arith, order_old c l, order_old p r, f)
  lower_old c l (Built h p q) r f =
      (λ e. omega (arith, order_old c l, order_old p (r.1 e), f.0 e), λ e. omega (arith, order_old c l, order_old q (r.2 e), f.1 e))

  lower_new : (s : Cell) → s ≡ new → Refers (length cs) s → Lower order' (length cs) s
  lower_new Open e r = tt
  lower_new (Link p) e r = omega (arith, order_new, ap top e, order_old p r, refl_top p)
    where
      refl_top : (p : ℕ) → top (Link p) ≡ suc (fine.order p)
      refl_top p = unfold top in refl
  lower_new (Built h p q) e r =
      (λ f. omega (arith, order_new, ap top e, order_old p (r.1 f), refl_top h p q), λ f. omega (arith, order_new, ap top e, order_old q (r.2 f), refl_top h p q))
    where
      refl_top : (h : Head) (p q : ℕ) → top (Built h p q) ≡ suc (fine.order p + fine.order q)
      refl_top h p q = unfold top in refl

  falls' : Falls (view ds bs) order'
  falls' c = go (ltb c (suc (length cs))) refl
    where
      go : (t : Bool) → ltb c (suc (length cs)) ≡ t → Lower order' c (view ds bs c)
      go true e =
          which c (ltb-true c (suc (length cs)) e)
          (λ l. subst (λ (s : Cell). Lower order' c s) (sym (view_old c l)) (lower_old c l (view cs bs c) (fine.refers c l) (fine.falls c)))
          (λ q. subst (λ (i : ℕ). Lower order' i (view ds bs i)) (sym q) (subst (λ (s : Cell). Lower order' (length cs) s) (sym view_new) (lower_new new refl fits)))
      go false e = subst (λ (s : Cell). Lower order' c s) (sym (view_past c (ltb-false c (suc (length cs)) e))) tt

  pub fine' : Fine ds bs
  fine' = record {
    refers = λ c l.
        which c (omega (arith, longer, l))
        (λ m. subst (λ (n : ℕ). Refers n (view ds bs c)) (sym longer) (subst (λ (s : Cell). Refers (suc (length cs)) s) (sym (view_old c m)) (wider (length cs) (view cs bs c) (fine.refers c m))))
        (λ q. subst (λ (n : ℕ). Refers n (view ds bs c)) (sym longer)
        (subst (λ (i : ℕ). Refers (suc (length cs)) (view ds bs i)) (sym q) (subst (λ (s : Cell). Refers (suc (length cs)) s) (sym view_new) (wider (length cs) new fits))));
    beyond = λ c l. view_past c (omega (arith, longer, l));
    order = order';
    falls = falls';
    room =
        let p = opens_more (length cs) (view ds bs) in
        let q = ap length (opens_same (length cs) (view cs bs) (view ds bs) view_old) in
        let r = ap (λ (n : ℕ). length (opens n (view ds bs))) longer in
        omega (arith, p, q, r, longer, fine.room);
  }

  pub holds_old : (v : Valuation) → Holds (length ds) (view ds bs) v → Holds (length cs) (view cs bs) v
  holds_old v h c l = let r = h c (omega (arith, longer, l)) in (r.0, subst (λ (s : Cell). Says v c s) (view_old c l) r.1)

  pub holds_new : (v : Valuation) → Holds (length ds) (view ds bs) v → Of OfType (v (length cs)) × Says v (length cs) new
  holds_new v h = let r = h (length cs) (omega (arith, longer)) in (r.0, subst (λ (s : Cell). Says v (length cs) s) view_new r.1)

  pub holds_both : (v : Valuation) → Holds (length cs) (view cs bs) v → Of OfType (v (length cs)) → Says v (length cs) new → Holds (length ds) (view ds bs) v
  holds_both v h o s c l =
      which c (omega (arith, longer, l))
      (λ m. ((h c m).0, subst (λ (s : Cell). Says v c s) (sym (view_old c m)) (h c m).1))
      (λ q. subst (λ (i : ℕ). Of OfType (v i) × Says v i (view ds bs i)) (sym q) (o, subst (λ (s : Cell). Says v (length cs) s) (sym view_new) s))

  sort_more : (d : ℕ) → (d ≡ length cs → ⊥) → cond (ltb d (length ds)) (some OfType) none ≡ cond (ltb d (length cs)) (some OfType) none
  sort_more d n = go (ltb d (length cs)) refl
    where
      go : (t : Bool) → ltb d (length cs) ≡ t → cond (ltb d (length ds)) (some OfType) none ≡ cond (ltb d (length cs)) (some OfType) none
      go true e = let l = ltb-true d (length cs) e in below_known (length ds) d (omega (arith, longer, l)) ∙ sym (below_known (length cs) d l)
      go false e = let l = ltb-false d (length cs) e in above_unknown (length ds) d (past d (length cs) (length ds) longer l n) ∙ sym (above_unknown (length cs) d l)
        where
          past : (d n m : ℕ) → m ≡ suc n → n ≤ d → (d ≡ n → ⊥) → m ≤ d
          past d n m e l f = omega arith

  module _ (z : ℕ) (ss : List Saved) (good : Good z cs bs ss) where
    begin : ((i : ℕ) → i ≤ length cs → take i ds ≡ take i cs) × ((i : ℕ) → i ≤ length bs → take i bs ≡ take i bs)
    begin = (λ i l. take-append-le i cs (x ∷ []) l, λ i l. refl)

    pub added : (P : Valuation → Type 0) → ((v : Valuation) → Of OfType (v (length cs)) → Says v (length cs) new → P v) → ((v : Valuation) → P v → Of OfType (v (length cs)) × Says v (length cs) new)
        → Added (meaning_of z cs bs ss) (length cs) OfType P (meaning_of z ds bs ss)
    added P f g = record {
      capacity = refl;
      marks = states_along cs ds bs bs (length cs) (length bs) (reverse ss) begin good.marks;
      count = omega (arith, longer);
      unknown = above_unknown (length cs) (length cs) (omega arith);
      known = below_known (length ds) (length cs) (omega (arith, longer));
      old = λ d n. sort_more d n;
      onto = λ v h. (holds_old v h, let r = holds_new v h in f v r.0 r.1);
      from = λ v h p. let r = g v p in holds_both v h r.0 r.1;
    }

    pub good' : length cs < z → Good z ds bs ss
    good' l = record {
      least = good.least;
      most = good.most;
      cells = omega (arith, longer, l);
      fine = fine';
      marks = nested_more ds bs (length cs) (length bs) (length ds) (length bs) (reverse ss) (omega (arith, longer)) (omega arith) (nested_along cs ds bs bs (length cs) (length bs) (reverse ss) begin good.marks);
      few = good.few;
    }
