-- Marks and demands on cells are marks and demands on what they mean.
use Rattle.std.proofs.Common.{◌≡◌, ℕ, suc, ◌-◌, ◌<◌, ◌≤◌, true, ◌&&◌, eqb, leb, List, [], ◌∷◌, ◌++◌, reverse, length, get_or, take, sym, refl, ◌∙◌, subst, subst₂, inl, arith, length-append, length-take-le, eq-eqb}
use Rattle.std.proofs.lemmas.List.{reverse-append}
use Rattle.ground.specs.declared.sort.Sort.TheVariants.{«Type» as OfType}
use Rattle.ground.proofs.Built.{no_way}
use Rattle.system.specs.Meaning.{Meaning, SameState, SameMarks}
use Rattle.system.specs.Requests.{demand, mark, keep, back, token, done, fault, is_of}
use Rattle.system.specs.Follows.{Dropped}
use Rattle.system.proofs.Same.{same_same, state_same, marks_same}
use Rattle.cells.specs.declared.Cell.{Cell}
use Rattle.unifier.specs.declared.undo.Undo.{Undo}
use Rattle.unifier.specs.declared.saved.Saved.{Saved}
use Rattle.unifier.specs.States.{sort_in, state_of, cells_at, trail_at, states_at, meaning_of, Nested, Good}
use Rattle.unifier.proofs.Following.{Step}
use Rattle.unifier.proofs.Marking.{marks_told, split, marked_now, nested_now, nested_along, states_along}
use Rattle.unifier.proofs.Trailing.{since_length, since_trail}

module _ (h z n : ℕ) (cs : List (Cell ℕ)) (tr : List Undo) (ss : List Saved) (good : Good h z n cs tr ss) where
  abbrev m : Meaning
  m = meaning_of z n cs tr ss

  -- demand
  pub demand_none : (k c : ℕ) → (leb k 3 && is_of (sort_in cs c) OfType) ≡ true → Step h z n cs tr ss (demand k c) (fault 11 4) n cs tr ss
  demand_none k c e = ((λ u. absurd (no_way (sym u ∙ e)), λ u. (same_same m, inl (refl, refl, refl))), good)

  -- marks
  pub open_marks : length m.marks ≡ length ss
  open_marks = marks_told cs tr ss

  abbrev pub now_saved : Saved
  now_saved = record { cells = length cs; trail = length tr; calls = n }

  pub mark_made : length ss < 8 → Step h z n cs tr ss mark (token (length ss)) n cs tr (ss ++ (now_saved ∷ []))
  mark_made l =
      let e : now_saved ∷ reverse ss ≡ reverse (ss ++ (now_saved ∷ [])) = sym (reverse-append ss (now_saved ∷ [])) in
      let k = marked_now cs tr n in (
        (
          λ u. absurd (no_way (sym u)),
          λ u. (
            omega (arith, open_marks, l),
            sym open_marks,
            refl,
            state_same (state_of n cs),
            subst (λ (i : List Saved). SameMarks (state_of n cs ∷ m.marks) (states_at cs tr i)) e
                (subst₂ (λ (B : List (Cell ℕ)) (U : List Undo). SameState (state_of n cs) (state_of n B) × SameMarks m.marks (states_at B U (reverse ss))) (sym k.0) (sym k.1) (state_same (state_of n cs), marks_same m.marks)),
          ),
        ),
        record {
          heads = good.heads;
          least = good.least;
          most = good.most;
          cells = good.cells;
          sane = good.sane;
          marks = subst (λ (i : List Saved). Nested h cs tr i) e (nested_now h n cs tr (reverse ss) good.sane good.marks);
          few = omega (arith, length-append ss (now_saved ∷ []), l);
        },
      )

  pub mark_full : 8 ≤ length ss → Step h z n cs tr ss mark (fault 23 4) n cs tr ss
  mark_full l = ((λ u. absurd (no_way (sym u)), λ u. (omega (arith, open_marks, l, good.few), refl, refl, same_same m)), good)

  module _ (d : ℕ) where
    newest : suc d ≡ length ss → eqb (suc d) (length m.marks) ≡ true
    newest e = eq-eqb (suc d) (length m.marks) (e ∙ sym open_marks)

    module _ (o : Saved) (e : suc d ≡ length ss) where
      abbrev last : Saved
      last = get_or ss (length ss - 1) o

      abbrev rest : List Saved
      rest = take (length ss - 1) ss

      parts : reverse ss ≡ last ∷ reverse rest
      parts = split ss o (omega (arith, e))

      nested : Nested h cs tr (last ∷ reverse rest)
      nested = subst (λ (i : List Saved). Nested h cs tr i) parts good.marks

      fewer : length rest ≤ 8
      fewer = omega (arith, length-take-le (length ss - 1) ss (omega arith), good.few)

      abbrev old_cells : List (Cell ℕ)
      old_cells = cells_at cs tr last

      abbrev old_trail : List Undo
      old_trail = trail_at tr last

      pub back_within : last.trail ≤ length tr
      back_within = omega (arith, nested.2, since_trail old_cells cs old_trail tr nested.0)

      pub keep_done : Step h z n cs tr ss (keep d) done n cs tr rest
      keep_done = (
        (
          λ u. absurd (no_way (sym u ∙ newest e)),
          λ u. (
            refl,
            state_same (state_of n cs),
            subst (λ (i : List Saved). Dropped (states_at cs tr i) (states_at cs tr (reverse rest))) (sym parts) (states_along h old_cells cs old_trail tr nested.0 (reverse rest) nested.4),
          ),
        ),
        record {
          heads = good.heads;
          least = good.least;
          most = good.most;
          cells = good.cells;
          sane = good.sane;
          marks = nested_along h old_cells cs old_trail tr nested.0 (reverse rest) nested.4;
          few = fewer;
        },
      )

      pub back_done : Step h z n cs tr ss (back d) done last.calls old_cells old_trail rest
      back_done = (
        (
          λ u. absurd (no_way (sym u ∙ newest e)),
          λ u. (
            refl,
            subst (λ (i : List Saved). SameMarks (states_at cs tr i) (state_of last.calls old_cells ∷ states_at old_cells old_trail (reverse rest))) (sym parts)
                (state_same (state_of last.calls old_cells), marks_same (states_at old_cells old_trail (reverse rest))),
          ),
        ),
        record {
          heads = good.heads;
          least = good.least;
          most = good.most;
          cells = omega (arith, since_length old_cells cs old_trail tr nested.0, good.cells);
          sane = nested.3;
          marks = nested.4;
          few = fewer;
        },
      )
