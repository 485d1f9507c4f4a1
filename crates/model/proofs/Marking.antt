-- Marks: what they keep while cells and binds are added or taken away.
use Rattle.std.proofs.Common.{◌≡◌, ℕ, suc, ◌≤◌, List, [], ◌∷◌, length, take, sym, refl, ap, subst, arith}
use Rattle.system.specs.Meaning.{SameState, SameMarks}
use Rattle.system.proofs.Same.{state_same}
use Rattle.model.specs.declared.cell.Cell.{Cell}
use Rattle.model.specs.declared.cell.Bind.{Bind}
use Rattle.model.specs.declared.cell.Saved.{Saved}
use Rattle.model.specs.Means.{Fine, Nested, state_of, states_at}

pub states_length : (cs : List Cell) (bs : List Bind) (ss : List Saved) → length (states_at cs bs ss) ≡ length ss
states_length cs bs [] = refl
states_length cs bs (s ∷ ss) = ap suc (states_length cs bs ss)

-- other cells and binds that begin alike
module _ (cs ds : List Cell) (bs es : List Bind) where
  abbrev pub Begin : ℕ → ℕ → Type 0
  Begin m n = ((i : ℕ) → i ≤ m → take i ds ≡ take i cs) × ((i : ℕ) → i ≤ n → take i es ≡ take i bs)

  pub nested_along : (m n : ℕ) (ss : List Saved) → Begin m n → Nested cs bs m n ss → Nested ds es m n ss
  nested_along m n [] b h = tt
  nested_along m n (s ∷ ss) b h = (
    h.0,
    h.1,
    subst (λ (x : List Cell). Fine x (take s.binds es)) (sym (b.0 s.cells h.0)) (subst (λ (y : List Bind). Fine (take s.cells cs) y) (sym (b.1 s.binds h.1)) h.2),
    nested_along s.cells s.binds ss (λ i l. b.0 i (omega (arith, l, h.0)), λ i l. b.1 i (omega (arith, l, h.1))) h.3,
  )

  pub states_along : (m n : ℕ) (ss : List Saved) → Begin m n → Nested cs bs m n ss → SameMarks (states_at cs bs ss) (states_at ds es ss)
  states_along m n [] b h = tt
  states_along m n (s ∷ ss) b h = (
    subst (λ (x : List Cell). SameState (state_of (take s.cells cs) (take s.binds bs)) (state_of x (take s.binds es))) (sym (b.0 s.cells h.0))
        (subst (λ (y : List Bind). SameState (state_of (take s.cells cs) (take s.binds bs)) (state_of (take s.cells cs) y)) (sym (b.1 s.binds h.1))
        (state_same (state_of (take s.cells cs) (take s.binds bs)))),
    states_along s.cells s.binds ss (λ i l. b.0 i (omega (arith, l, h.0)), λ i l. b.1 i (omega (arith, l, h.1))) h.3,
  )

pub nested_more : (cs : List Cell) (bs : List Bind) (m n i j : ℕ) (ss : List Saved) → m ≤ i → n ≤ j → Nested cs bs m n ss → Nested cs bs i j ss
nested_more cs bs m n i j [] p q h = tt
nested_more cs bs m n i j (s ∷ ss) p q h = (omega (arith, p, h.0), omega (arith, q, h.1), h.2, h.3)
