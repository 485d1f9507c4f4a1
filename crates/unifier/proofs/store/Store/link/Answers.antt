use Rattle.std.proofs.Common.{ℕ, ◌≡◌, ◌<◌, length, vec_items, vec_len, refl, ap, ◌∙◌, arith, rules}
use Rattle.std.proofs.lemmas.List.{get_or_read, length-append}
use Rattle.cells.specs.declared.What.TheVariants.{Link}
use Rattle.cells.specs.declared.Cell.{Cell}
use Rattle.cells.specs.Cells.{none}
use Rattle.unifier.proofs.Trailing.{link_first, link_second, link_made}
use Rattle.unifier.proofs.store.Store.link.Goals as goal

pub put-requires : goal.put-requires
put-requires c =
    let s = c.args.self.now in
    let n : vec_len s.cells ≡ length (vec_items s.cells) = search rules in
    let f = c.index-f.result.now in
    let k : Cell ℕ = record { what = Link c.args.to; rank = f.rank; sort = f.sort } in
    record { known = c.requires.from; roomy = omega (arith, link_first (vec_items s.cells) (vec_items s.trail) c.args.from c.args.to k (omega (arith, n, c.requires.from)) c.requires.one s.roomy refl) }

pub put-requires-2 : goal.put-requires-2
put-requires-2 c =
    let s = c.args.self.now in
    let cs = vec_items s.cells in
    let n : vec_len s.cells ≡ length cs = search rules in
    let m : vec_len c.put.new.self.cells ≡ vec_len s.cells = search rules in
    let tl : c.args.to < length cs = omega (arith, n, c.requires.to) in
    let f = c.index-f.result.now in
    let t = c.index-t.result.now in
    let k : Cell ℕ = record { what = Link c.args.to; rank = f.rank; sort = f.sort } in
    let g : Cell ℕ = record { what = t.what; rank = c.max.result; sort = t.sort } in
    record {
      known = omega (arith, m, c.requires.to);
      roomy = link_second cs (vec_items c.put.new.self.cells) (vec_items s.trail) (vec_items c.put.new.self.trail) c.args.from c.args.to k g (omega (arith, n, c.requires.from)) tl c.requires.apart c.requires.one s.roomy refl
          (ap (λ (x : Cell ℕ). x.what) (get_or_read cs c.args.to t tl c.index-t.ensures none)) c.put.ensures.cells (simp length-append at (ap length c.put.ensures.trail));
    }

pub returns : goal.returns
returns c =
    let s = c.args.self.now in
    let cs = vec_items s.cells in
    let n : vec_len s.cells ≡ length (vec_items s.cells) = search rules in
    let rl : c.args.from < length cs = omega (arith, n, c.requires.from) in
    let tl : c.args.to < length cs = omega (arith, n, c.requires.to) in
    let m = link_made cs (vec_items c.put.new.self.cells) (vec_items c.put-2.new.self.cells) (vec_items s.trail) (vec_items c.put.new.self.trail) (vec_items c.put-2.new.self.trail)
    c.args.from c.args.to c.max.result c.index-f.result.now c.index-t.result.now rl tl c.requires.apart c.requires.one
    (get_or_read cs c.args.from c.index-f.result.now rl c.index-f.ensures none)
    (get_or_read cs c.args.to c.index-t.result.now tl c.index-t.ensures none)
    c.max.ensures c.put.ensures.cells c.put-2.ensures.cells c.put.ensures.trail c.put-2.ensures.trail in
    record { cells = m.0; later = record { since = m.1; limit = c.put-2.ensures.limit ∙ c.put.ensures.limit } }
