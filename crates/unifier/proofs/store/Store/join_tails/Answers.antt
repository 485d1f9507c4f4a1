use Rattle.std.proofs.Common.{◌≡◌, ℕ, ◌<◌, List, [], ◌∷◌, ◌++◌, length, get_or, vec_items, sym, refl, ap, ◌∙◌, arith}
use Rattle.std.proofs.lemmas.List.{get_or_read}
use Rattle.stack.specs.Stacks.{held}
use Rattle.cells.specs.declared.Cell.{Cell}
use Rattle.cells.specs.Cells.{none, what_at}
use Rattle.cells.specs.Steps.{pair}
use Rattle.unifier.proofs.Turning.{alike_both}
use Rattle.unifier.proofs.Swapping.{left_noted}
use Rattle.unifier.proofs.Paying.{trees_emptied}
use Rattle.unifier.proofs.Tailing.{tails_wait, tails_left, tails_right, tails_none, is_empty}
use Rattle.unifier.proofs.Keeping.{later_none, kept_none}
use Rattle.unifier.proofs.store.Store.join_tails.Goals as goal

-- what was read
read : (cs : List (Cell ℕ)) (i : ℕ) (c : Cell ℕ) → i < length cs → c ≡ get_or cs i c → what_at cs i ≡ c.what
read cs i c il e = sym (ap (λ (x : Cell ℕ). x.what) (get_or_read cs i c il e none))

pub returns-in-Open-what : goal.returns-in-Open-what
returns-in-Open-what c =
    let s = c.args.self.now in
    let cs = vec_items s.cells in
    let t = c.requires.tails in
    let hs = held c.args.pending.now in
    record {
      left = λ fs am.
          left_noted 0 cs (pair c.args.a c.args.b ∷ (fs ++ hs)) cs (pair c.args.a c.args.b ∷ []) fs hs (held c.note.new.pending) c.note.ensures.held
          (tails_wait cs c.args.a c.args.b (fs ++ hs) c.requires.fine t (alike_both cs fs hs am c.requires.alike) (pair c.args.a c.args.b ∷ (fs ++ hs)) refl
          (read cs c.args.a c.index-one.result.now t.left_known c.index-one.ensures ∙ c.in-Open.is)
          (read cs c.args.b c.index-other.result.now t.right_known c.index-other.ensures ∙ c.in-Open-what.is));
      spent = omega (arith, ap length c.note.ensures.held);
      later = later_none s;
      kept = c.note.ensures.kept;
    }

pub returns-in_default-what : goal.returns-in_default-what
returns-in_default-what c =
    let s = c.args.self.now in
    let cs = vec_items s.cells in
    let t = c.requires.tails in
    let hs = held c.args.pending.now in
    let q = read cs c.args.b c.index-other.result.now t.right_known c.index-other.ensures in
    record {
      left = λ fs am.
          tails_left cs c.args.a c.args.b (fs ++ hs) c.requires.fine t (alike_both cs fs hs am c.requires.alike) (vec_items c.empty.new.self.cells) (vec_items s.trail) (vec_items c.empty.new.self.trail) c.empty.ensures.cells c.empty.ensures.later.since
          (read cs c.args.a c.index-one.result.now t.left_known c.index-one.ensures ∙ c.in-Open.is)
          (is_empty (what_at cs c.args.b) t.right (λ e. c.in_default-what.not-Open (sym q ∙ e)));
      spent = omega (arith, trees_emptied s.limit cs (vec_items c.empty.new.self.cells) c.args.a t.left_known (read cs c.args.a c.index-one.result.now t.left_known c.index-one.ensures ∙ c.in-Open.is) c.empty.ensures.cells);
      later = c.empty.ensures.later;
      kept = kept_none c.args.pending.now;
    }

pub returns-in-Open-what-2 : goal.returns-in-Open-what-2
returns-in-Open-what-2 c =
    let s = c.args.self.now in
    let cs = vec_items s.cells in
    let t = c.requires.tails in
    let hs = held c.args.pending.now in
    let p = read cs c.args.a c.index-one.result.now t.left_known c.index-one.ensures in
    let x = c.empty-in-Open-what-2 in
    record {
      left = λ fs am.
          tails_right cs c.args.a c.args.b (fs ++ hs) c.requires.fine t (alike_both cs fs hs am c.requires.alike) (vec_items x.new.self.cells) (vec_items s.trail) (vec_items x.new.self.trail) x.ensures.cells x.ensures.later.since
          (is_empty (what_at cs c.args.a) t.left (λ e. c.in_default.not-Open (sym p ∙ e)))
          (read cs c.args.b c.index-other.result.now t.right_known c.index-other.ensures ∙ c.in-Open-what-2.is);
      spent = omega (arith, trees_emptied s.limit cs (vec_items x.new.self.cells) c.args.b t.right_known (read cs c.args.b c.index-other.result.now t.right_known c.index-other.ensures ∙ c.in-Open-what-2.is) x.ensures.cells);
      later = x.ensures.later;
      kept = kept_none c.args.pending.now;
    }

pub returns-in_default-what-2 : goal.returns-in_default-what-2
returns-in_default-what-2 c =
    let s = c.args.self.now in
    let cs = vec_items s.cells in
    let t = c.requires.tails in
    let hs = held c.args.pending.now in
    let p = read cs c.args.a c.index-one.result.now t.left_known c.index-one.ensures in
    let q = read cs c.args.b c.index-other.result.now t.right_known c.index-other.ensures in
    record {
      left = λ fs am.
          tails_none cs c.args.a c.args.b (fs ++ hs) c.requires.fine t (alike_both cs fs hs am c.requires.alike)
          (is_empty (what_at cs c.args.a) t.left (λ e. c.in_default.not-Open (sym p ∙ e)))
          (is_empty (what_at cs c.args.b) t.right (λ e. c.in_default-what-2.not-Open (sym q ∙ e)));
      spent = omega arith;
      later = later_none s;
      kept = kept_none c.args.pending.now;
    }
