-- A new solver is in order, and means what every new system means.
use Rattle.std.proofs.Common.{◌≡◌, ℕ, zero, suc, ◌+◌, ◌-◌, ◌≤◌, ◌⊎◌, List, [], ◌∷◌, sym, refl, subst, arith}
use Rattle.system.specs.Meaning.{Valuation, New}
use Rattle.cells.specs.declared.Cell.{Cell}
use Rattle.cells.specs.Cells.{Holds}
use Rattle.cells.specs.Weights.{same, Falls}
use Rattle.unifier.specs.declared.undo.Undo.{Undo}
use Rattle.unifier.specs.declared.saved.Saved.{Saved}
use Rattle.unifier.specs.Fine.{Fine, absent_cell}
use Rattle.unifier.specs.States.{seated, meaning_of, Sane, Good}
use Rattle.unifier.specs.Codes.{code_past}

falls : Falls (absent_cell ∷ []) (λ i. 0)
falls zero = tt
falls (suc i) = tt

sane : (h : ℕ) → Fine (absent_cell ∷ []) → Sane h 0 (absent_cell ∷ []) []
sane h f = record {
  fine = f;
  roomy = omega arith;
  sorts = λ i p l. absurd (let z : ⊥ = omega (arith, p, l) in z);
  order = λ i. 0;
  falls = falls;
  worth = omega arith;
  each = omega arith;
}

holds : (v : Valuation) → Holds same (absent_cell ∷ []) (seated v)
holds v zero l = (refl, tt)
holds v (suc i) l = absurd (let z : ⊥ = omega (arith, l) in z)

pub new_made : (h z limit : ℕ) (cs : List (Cell ℕ)) (tr : List Undo) (ss : List Saved) → (h ≡ 5) ⊎ (h ≡ 10) → 16 ≤ z → z ≤ 4096 → limit ≡ z + 1 → cs ≡ absent_cell ∷ [] → tr ≡ [] → ss ≡ [] → Fine cs
    → (16 ≤ z) × (z ≤ 4096) × Good h (limit - 1) 0 cs tr ss × New z (meaning_of (limit - 1) 0 cs tr ss)
new_made h z limit cs tr ss hs p q el ec et es f =
    let k : limit - 1 ≡ z = omega (arith, el) in
    let g : Good h z 0 cs tr ss =
    subst (λ (x : List (Cell ℕ)). Good h z 0 x tr ss) (sym ec)
    (subst (λ (y : List Undo). Good h z 0 (absent_cell ∷ []) y ss) (sym et)
    (subst (λ (s : List Saved). Good h z 0 (absent_cell ∷ []) [] s) (sym es)
    (record { heads = hs; least = p; most = q; cells = omega (arith, p); sane = sane h (subst Fine ec f); marks = tt; few = omega arith }))) in
    let n : New z (meaning_of z 0 cs tr ss) =
    subst (λ (x : List (Cell ℕ)). New z (meaning_of z 0 x tr ss)) (sym ec)
    (subst (λ (y : List Undo). New z (meaning_of z 0 (absent_cell ∷ []) y ss)) (sym et)
    (subst (λ (s : List Saved). New z (meaning_of z 0 (absent_cell ∷ []) [] s)) (sym es)
    (record { capacity = refl; count = refl; codes = codes; solution = holds; opens = refl; marks = refl }))) in (
      p,
      q,
      subst (λ (x : ℕ). Good h x 0 cs tr ss) (sym k) g,
      subst (λ (x : ℕ). New z (meaning_of x 0 cs tr ss)) (sym k) n,
    )
  where
    codes : (c : ℕ) → Rattle.unifier.specs.States.sort_in (absent_cell ∷ []) c ≡ Rattle.unifier.specs.States.sort_in (absent_cell ∷ []) 0
    codes zero = refl
    codes (suc c) = code_past (absent_cell ∷ []) (suc c) (omega arith)
