-- Marks: what they keep while cells are added and written.
use Rattle.std.proofs.Common.{◌≡◌, ℕ, suc, ◌-◌, ◌<◌, List, [], ◌∷◌, reverse, length, get_or, take, drop, sym, refl, ap, ◌∙◌, ap₂, subst₂, arith, take_all, take-suc}
use Rattle.std.proofs.lemmas.List.{reverse-append, length-reverse}
use Rattle.system.specs.Meaning.{SameState, SameMarks}
use Rattle.system.proofs.Same.{state_same, marks_same}
use Rattle.cells.specs.declared.Cell.{Cell}
use Rattle.unifier.specs.declared.undo.Undo.{Undo}
use Rattle.unifier.specs.declared.saved.Saved.{Saved}
use Rattle.unifier.specs.Trails.{rewound, Since}
use Rattle.unifier.specs.States.{state_of, cells_at, trail_at, states_at, Sane, Nested}
use Rattle.unifier.proofs.Trailing.{since_none, since_more, since_back}

pub states_length : (cs : List (Cell ℕ)) (tr : List Undo) (ss : List Saved) → length (states_at cs tr ss) ≡ length ss
states_length cs tr [] = refl
states_length cs tr (s ∷ ss) = ap suc (states_length (cells_at cs tr s) (trail_at tr s) ss)

-- as many marks are told as are saved
pub marks_told : (cs : List (Cell ℕ)) (tr : List Undo) (ss : List Saved) → length (states_at cs tr (reverse ss)) ≡ length ss
marks_told cs tr ss = states_length cs tr (reverse ss) ∙ length-reverse ss

-- the newest mark and the others
pub split : (ss : List Saved) (d : Saved) → 0 < length ss → reverse ss ≡ get_or ss (length ss - 1) d ∷ reverse (take (length ss - 1) ss)
split ss d h =
    let e : suc (length ss - 1) ≡ length ss = omega arith in
    let p = sym (take_all (length ss) ss (omega arith)) ∙ ap (λ (n : ℕ). take n ss) (sym e) ∙ take-suc ss (length ss - 1) d (omega arith) in
    ap reverse p ∙ reverse-append (take (length ss - 1) ss) (get_or ss (length ss - 1) d ∷ [])

-- what a mark finds again, where the lengths are those of what was
found_again : (bs cs : List (Cell ℕ)) (us tr : List Undo) (x : Saved) → Since bs us cs tr → length bs ≡ x.cells → length us ≡ x.trail → (cells_at cs tr x ≡ bs) × (trail_at tr x ≡ us)
found_again bs cs us tr x s p q =
    let b = since_back bs cs us tr s in (
      ap₂ (λ (n m : ℕ). take n (rewound cs (drop m tr))) (sym p) (sym q) ∙ b.0,
      ap (λ (m : ℕ). take m tr) (sym q) ∙ b.1,
    )

-- a mark made now
pub marked_now : (cs : List (Cell ℕ)) (tr : List Undo) (n : ℕ) → (cells_at cs tr (record { cells = length cs; trail = length tr; calls = n }) ≡ cs) × (trail_at tr (record { cells = length cs; trail = length tr; calls = n }) ≡ tr)
marked_now cs tr n = found_again cs cs tr tr (record { cells = length cs; trail = length tr; calls = n }) (since_none cs tr) refl refl

pub nested_now : (h n : ℕ) (cs : List (Cell ℕ)) (tr : List Undo) (ss : List Saved) → Sane h n cs tr → Nested h cs tr ss → Nested h cs tr (record { cells = length cs; trail = length tr; calls = n } ∷ ss)
nested_now h n cs tr ss sane k =
    let m = marked_now cs tr n in
    subst₂ (λ (B : List (Cell ℕ)) (U : List Undo). Since B U cs tr × (length B ≡ length cs) × (length U ≡ length tr) × Sane h n B U × Nested h B U ss) (sym m.0) (sym m.1)
    (since_none cs tr, refl, refl, sane, k)

-- other cells and another trail that came of these
module _ (h : ℕ) (cs ds : List (Cell ℕ)) (tr ts : List Undo) (s : Since cs tr ds ts) where
  pub nested_along : (ss : List Saved) → Nested h cs tr ss → Nested h ds ts ss
  nested_along [] n = tt
  nested_along (x ∷ ss) n =
      let bs = cells_at cs tr x in
      let us = trail_at tr x in
      let t = since_more bs cs ds us tr ts n.0 s in
      let f = found_again bs ds us ts x t n.1 n.2 in
      subst₂ (λ (B : List (Cell ℕ)) (U : List Undo). Since B U ds ts × (length B ≡ x.cells) × (length U ≡ x.trail) × Sane h x.calls B U × Nested h B U ss) (sym f.0) (sym f.1)
      (t, n.1, n.2, n.3, n.4)

  pub states_along : (ss : List Saved) → Nested h cs tr ss → SameMarks (states_at cs tr ss) (states_at ds ts ss)
  states_along [] n = tt
  states_along (x ∷ ss) n =
      let bs = cells_at cs tr x in
      let us = trail_at tr x in
      let f = found_again bs ds us ts x (since_more bs cs ds us tr ts n.0 s) n.1 n.2 in
      subst₂ (λ (B : List (Cell ℕ)) (U : List Undo). SameState (state_of x.calls bs) (state_of x.calls B) × SameMarks (states_at bs us ss) (states_at B U ss)) (sym f.0) (sym f.1)
      (state_same (state_of x.calls bs), marks_same (states_at bs us ss))
