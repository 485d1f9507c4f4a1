use Rattle.std.proofs.Common.{◌≡◌, ℕ, ◌+◌, ◌<◌, List, [], ◌∷◌, ◌++◌, length, get_or, vec_items, vec_len, ap, ◌∙◌, subst, arith, rules}
use Rattle.std.proofs.lemmas.List.{get_or_read}
use Rattle.ground.specs.declared.sort.Sort.TheVariants.{Row as OfRow}
use Rattle.ground.specs.declared.sort.Labels.{Labels}
use Rattle.cells.specs.declared.What.TheVariants.{Open, Row as RowAt}
use Rattle.cells.specs.declared.Cell.{Cell}
use Rattle.cells.specs.Cells.{none, longer}
use Rattle.unifier.specs.declared.undo.Undo.{Undo}
use Rattle.unifier.specs.Trails.{Since}
use Rattle.unifier.proofs.Lengthening.{longer_made, extended_made}
use Rattle.unifier.proofs.store.Store.extend.Goals as goal

-- the cells after both pushes, by what was read
pushed : (cs bs es : List (Cell ℕ)) (o l x row : ℕ) (n : Labels) (c : Cell ℕ) → o < length cs → row ≡ length cs → c ≡ get_or cs o c →
    bs ≡ cs ++ record { what = RowAt l x (row + 1); rank = 0; sort = c.sort } ∷ [] → es ≡ bs ++ record { what = Open; rank = 0; sort = OfRow n } ∷ [] → es ≡ longer cs o l x n
pushed cs bs es o l x row n c ol er ec eb ee = longer_made cs bs es o l x row n c.sort er (ap (λ (k : Cell ℕ). k.sort) (get_or_read cs o c ol ec none)) eb ee

pub returns : goal.returns
returns c =
    let s = c.args.self.now in
    let cs = vec_items s.cells in
    let n : vec_len s.cells ≡ length (vec_items s.cells) = search rules in
    let r : c.len-row.result ≡ length cs = c.len-row.ensures ∙ n in
    let ol : c.args.tail < length cs = omega (arith, n, c.requires.known) in
    let e = pushed cs (vec_items c.push.new.self.cells) (vec_items c.push-2.new.self.cells) c.args.tail c.args.label c.args.field c.len-row.result c.args.rest c.index.result.now ol r c.index.ensures c.push.ensures.cells c.push-2.ensures.cells in
    let m = extended_made cs (vec_items s.trail) c.args.tail c.args.label c.args.field c.args.rest (vec_items c.push-2.new.self.cells) (vec_items c.link.new.self.cells) (vec_items c.link.new.self.trail) c.len-row.result e r c.link.ensures.cells (subst (λ (x : List Undo). Since (vec_items c.push-2.new.self.cells) x (vec_items c.link.new.self.cells) (vec_items c.link.new.self.trail)) (c.push-2.ensures.trail ∙ c.push.ensures.trail) c.link.ensures.later.since) in
    record { answer = omega (arith, r); cells = m.0; later = record { since = m.1; limit = c.link.ensures.later.limit ∙ c.push-2.ensures.limit ∙ c.push.ensures.limit } }
