use Rattle.std.proofs.Common.{◌≡◌, ℕ, ◌+◌, ◌≤◌, List, ◌++◌, length, vec_items, vec_len, subst, arith, rules}
use Rattle.stack.specs.Stacks.{held}
use Rattle.cells.specs.declared.Cell.{Cell}
use Rattle.unifier.specs.declared.side.Side.{Side}
use Rattle.unifier.specs.Sides.{Tabled}
use Rattle.unifier.specs.Notes.{field_pairs}
use Rattle.unifier.specs.Turns.{trees}
use Rattle.unifier.proofs.Swapping.{alike_left, alike_right}
use Rattle.unifier.proofs.Joining.{rows_face, rows_linkable, noted_below, joined_all}
use Rattle.unifier.proofs.Keeping.{later_more}
use Rattle.unifier.proofs.store.Store.join_rows.Goals as goal

seen : (cs ds : List (Cell ℕ)) (s : Side) → ds ≡ cs → Tabled ds s → Tabled cs s
seen cs ds s e t = subst (λ (x : List (Cell ℕ)). Tabled x s) e t

pub widen-requires : goal.widen-requires
widen-requires c =
    let s = c.args.self.now in
    let cs = vec_items s.cells in
    record {
      facing = rows_face cs c.args.a c.args.b c.walk-left.result c.walk-right.result c.requires.queued.fine c.requires.peers.left c.requires.row c.requires.peers.sorts
          (seen cs _ c.walk-left.result c.as_slice.ensures.value c.walk-left.ensures.tabled) (seen cs _ c.walk-right.result c.as_slice-2.ensures.value c.walk-right.ensures.tabled)
          c.walk-left.ensures.root c.walk-right.ensures.root;
    }

pub link-requires : goal.link-requires
link-requires c =
    let s = c.args.self.now in
    let d = c.widen.new.self in
    let n : vec_len d.cells ≡ length (vec_items d.cells) = search rules in
    let y = rows_linkable (vec_items s.cells) c.args.a c.args.b c.requires.peers.left c.requires.peers.right c.requires.apart c.requires.row c.requires.root c.requires.built
    c.walk-left.result c.walk-right.result c.walk-left.ensures.root c.walk-right.ensures.root (vec_items d.cells) c.widen.new.a c.widen.new.b c.in_ok-widen.ensures.wide.0 in
    record {
      low = omega (arith, n, y.low);
      from = omega (arith, n, y.from);
      to = omega (arith, n, y.to);
      apart = c.requires.apart;
      one = y.one;
      two = y.two;
    }

pub join_tails-requires : goal.join_tails-requires
join_tails-requires c =
    let s = c.args.self.now in
    let cs = vec_items s.cells in
    let d = c.widen.new.self in
    let ds = vec_items d.cells in
    let e = c.link.new.self in
    let es = vec_items e.cells in
    let fs = held c.args.waiting.now.fields in
    let hs = held c.args.waiting.now.pending in
    let gs = held c.note_fields.new.pending in
    let w = c.in_ok-widen.ensures.wide in
    let ek = noted_below (field_pairs c.widen.new.a c.widen.new.b 24) fs gs hs c.note_fields.ensures.held in
    let j = joined_all cs c.args.a c.args.b c.requires.peers.left c.requires.peers.right c.requires.apart c.requires.row c.requires.root c.requires.built c.walk-left.result c.walk-right.result c.walk-left.ensures.root c.walk-right.ensures.root ds c.widen.new.a c.widen.new.b w.0
    w.1 (fs ++ hs) (gs ++ hs) es c.link.ensures.cells ek c.requires.queued.alike in
    record {
      fine = j.0;
      tails = j.1;
      alike = alike_right es gs hs j.2;
      slot = c.requires.slot;
    }

pub returns : goal.returns
returns c =
    let s = c.args.self.now in
    let cs = vec_items s.cells in
    let d = c.widen.new.self in
    let ds = vec_items d.cells in
    let e = c.link.new.self in
    let es = vec_items e.cells in
    let fs = held c.args.waiting.now.fields in
    let hs = held c.args.waiting.now.pending in
    let gs = held c.note_fields.new.pending in
    let w = c.in_ok-widen.ensures.wide in
    let ek = noted_below (field_pairs c.widen.new.a c.widen.new.b 24) fs gs hs c.note_fields.ensures.held in
    let j = joined_all cs c.args.a c.args.b c.requires.peers.left c.requires.peers.right c.requires.apart c.requires.row c.requires.root c.requires.built c.walk-left.result c.walk-right.result c.walk-left.ensures.root c.walk-right.ensures.root ds c.widen.new.a c.widen.new.b w.0
    w.1 (fs ++ hs) (gs ++ hs) es c.link.ensures.cells ek c.requires.queued.alike in
    let tr = vec_items s.trail in
    let f = c.join_tails.new.self in
    let us = vec_items f.cells in
    let qs = held c.join_tails.new.pending in
    let ag = alike_left es gs hs j.2 in
    let go = later_more s d e c.widen.ensures.later c.link.ensures.later in
    let n : vec_len d.cells ≡ length (vec_items d.cells) = search rules in
    record {
      came = j.3 us (gs ++ qs) (c.join_tails.ensures.left gs ag);
      spent = j.4 s.limit gs fs hs qs us tr (vec_items e.trail) (vec_items f.trail) go.since c.join_tails.ensures.later.since
          (omega (arith, n, d.within, c.widen.ensures.later.limit)) c.requires.queued.alike c.requires.queued.fields c.note_fields.ensures.held ag
          (subst (λ (m : ℕ). length qs + trees m us ≤ length hs + 1 + trees m es) go.limit c.join_tails.ensures.spent);
      later = later_more s e f go c.join_tails.ensures.later;
      lasts = record { fields = c.note_fields.ensures.kept; pending = c.join_tails.ensures.kept };
    }
