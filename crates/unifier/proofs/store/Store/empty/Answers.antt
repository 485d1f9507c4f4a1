use Rattle.std.proofs.Common.{◌≡◌, ℕ, length, vec_items, vec_len, refl, arith, rules}
use Rattle.std.proofs.lemmas.List.{get_or_read}
use Rattle.cells.specs.declared.Bare.TheVariants.{Empty}
use Rattle.cells.specs.declared.What.TheVariants.{Leaf}
use Rattle.cells.specs.declared.Cell.{Cell}
use Rattle.cells.specs.Cells.{none}
use Rattle.unifier.proofs.Trailing.{empty_room, empty_made}
use Rattle.unifier.proofs.store.Store.empty.Goals as goal

pub put-requires : goal.put-requires
put-requires c =
    let s = c.args.self.now in
    let n : vec_len s.cells ≡ length (vec_items s.cells) = search rules in
    let was = c.index-was.result.now in
    let k : Cell ℕ = record { what = Leaf Empty; rank = was.rank; sort = was.sort } in
    record { known = omega (arith, n, c.requires.known); roomy = empty_room (vec_items s.cells) (vec_items s.trail) c.args.at k c.requires.known c.requires.open s.roomy refl }

pub returns : goal.returns
returns c =
    let s = c.args.self.now in
    let cs = vec_items s.cells in
    let m = empty_made cs (vec_items c.put.new.self.cells) (vec_items s.trail) (vec_items c.put.new.self.trail) c.args.at c.index-was.result.now c.requires.known c.requires.open
    (get_or_read cs c.args.at c.index-was.result.now c.requires.known c.index-was.ensures none) c.put.ensures.cells c.put.ensures.trail in
    record { cells = m.0; later = record { since = m.1; limit = c.put.ensures.limit } }
