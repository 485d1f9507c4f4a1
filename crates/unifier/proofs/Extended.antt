-- An extension of cells as the solver keeps them.
use Rattle.std.proofs.Common.{◌≡◌, ℕ, suc, ◌^◌, ◌<◌, ◌≤◌, List, length, sym, refl, ap, ◌∙◌, subst, ⊎_elim, arith}
use Rattle.std.proofs.lemmas.Bool.{cases_eq, cases_lt}
use Rattle.ground.specs.declared.sort.Sort.TheVariants.{Row as OfRow}
use Rattle.ground.specs.declared.sort.Labels.{Labels}
use Rattle.cells.specs.declared.What.TheVariants.{Open, Leaf, Row as RowAt}
use Rattle.cells.specs.declared.Cell.{Cell}
use Rattle.cells.specs.Cells.{what_at, sort_at, Adds, Formed, longer, extended}
use Rattle.cells.proofs.Linking.{what_from, what_else, sort_same}
use Rattle.cells.proofs.Extending.{length_longer, longer_old, longer_row, longer_tail, length_extended}
use Rattle.cells.proofs.Widening.{stays_extended, sorts_extended}
use Rattle.unifier.specs.Fine.{Fine, Proper, Small}
use Rattle.cells.specs.declared.Bare.TheVariants.{Absent}

module _ (cs : List (Cell ℕ)) (o l x : ℕ) (m n : Labels) (ol : o < length cs) (xl : x < length cs) (oo : what_at cs o ≡ Open) (os : sort_at cs o ≡ OfRow m) (adds : Adds m l n) where
  ll : length (longer cs o l x n) ≡ suc (suc (length cs))
  ll = length_longer cs o l x m n ol xl oo os adds

  ok_o : o < length (longer cs o l x n)
  ok_o = omega (arith, ll, ol)

  ok_n : length cs < length (longer cs o l x n)
  ok_n = omega (arith, ll)

  ok_ne : o ≡ length cs → ⊥
  ok_ne e = omega (arith, ol, e)

  pub what_other : (i : ℕ) → i < length cs → (i ≡ o → ⊥) → what_at (extended cs o l x n) i ≡ what_at cs i
  what_other i il q = what_else (longer cs o l x n) o (length cs) ok_o ok_n ok_ne i q ∙ ap (λ (c : Cell ℕ). c.what) (longer_old cs o l x m n ol xl oo os adds i il)

  what_row : what_at (extended cs o l x n) (length cs) ≡ RowAt l x (suc (length cs))
  what_row = what_else (longer cs o l x n) o (length cs) ok_o ok_n ok_ne (length cs) (λ e. ok_ne (sym e)) ∙ ap (λ (c : Cell ℕ). c.what) (longer_row cs o l x m n ol xl oo os adds)

  pub what_tail : what_at (extended cs o l x n) (suc (length cs)) ≡ Open
  what_tail = what_else (longer cs o l x n) o (length cs) ok_o ok_n ok_ne (suc (length cs)) (λ e. let z : ⊥ = omega (arith, ol, e) in z) ∙ ap (λ (c : Cell ℕ). c.what) (longer_tail cs o l x m n ol xl oo os adds)

  sort_row : sort_at (extended cs o l x n) (length cs) ≡ sort_at cs o
  sort_row = sort_same (longer cs o l x n) o (length cs) ok_o ok_n ok_ne (length cs) ∙ ap (λ (c : Cell ℕ). c.sort) (longer_row cs o l x m n ol xl oo os adds)

  sort_tail : sort_at (extended cs o l x n) (suc (length cs)) ≡ OfRow n
  sort_tail = sort_same (longer cs o l x n) o (length cs) ok_o ok_n ok_ne (suc (length cs)) ∙ ap (λ (c : Cell ℕ). c.sort) (longer_tail cs o l x m n ol xl oo os adds)

  module _ (f : Fine cs) (label : l < 24) (shown : 0 < x) (few : n.0 < 2 ^ 24) where
    abbrev Good : ℕ → Type 0
    Good i = Proper (what_at (extended cs o l x n) i) × Small (sort_at (extended cs o l x n) i)

    good_old : (i : ℕ) → i < length cs → Good i
    good_old i il = (
      ⊎_elim
          (λ (e : i ≡ o). subst Proper (sym (ap (what_at (extended cs o l x n)) e ∙ what_from (longer cs o l x n) o (length cs) ok_o ok_n ok_ne)) tt)
          (λ (q : i ≡ o → ⊥). subst Proper (sym (what_other i il q)) (f.proper i il))
          (cases_eq i o),
      subst Small (sym (sorts_extended cs o l x m n ol xl oo os adds i il)) (f.small i il),
    )

    good : (i : ℕ) → i < length (extended cs o l x n) → Good i
    good i il =
        ⊎_elim (λ (p : i < length cs). good_old i p)
        (λ (p : length cs ≤ i).
        ⊎_elim
        (λ (e : i ≡ length cs). subst Good (sym e) (subst Proper (sym what_row) (label, shown), subst Small (sym sort_row) (f.small o ol)))
        (λ (q : i ≡ length cs → ⊥). subst Good (let z : suc (length cs) ≡ i = omega (arith, length_extended cs o l x m n ol xl oo os adds, il, p, q) in z) (subst Proper (sym what_tail) tt, subst Small (sym sort_tail) few))
        (cases_eq i (length cs)))
        (cases_lt i (length cs))

    pub fine_extended : Formed (extended cs o l x n) → Fine (extended cs o l x n)
    fine_extended formed = record {
      formed = formed;
      proper = λ i il. (good i il).0;
      small = λ i il. (good i il).1;
      absent = stays_extended cs o l x m n ol xl oo os adds 0 (Leaf Absent) f.absent refl;
      field = sorts_extended cs o l x m n ol xl oo os adds 0 (Rattle.cells.proofs.Chains.known cs 0 (Leaf Absent) f.absent refl) ∙ f.field;
    }
