use Rattle.std.proofs.Common.{ℕ, ◌≡◌, length, vec_items, vec_len, sym, refl, ap, ◌∙◌, inr, arith, rules}
use Rattle.std.proofs.lemmas.List.{get_or_read}
use Rattle.cells.specs.declared.Cell.{Cell}
use Rattle.cells.specs.Cells.{none}
use Rattle.unifier.proofs.Keeping.{later_none}
use Rattle.unifier.proofs.store.Store.lend.Goals as goal

pub returns-then-self-len-lt2 : goal.returns-then-self-len-lt2
returns-then-self-len-lt2 c =
    let s = c.args.self.now in
    let cs = vec_items s.cells in
    let n : vec_len s.cells ≡ length (vec_items s.cells) = search rules in
    let e = ap (λ (x : Cell ℕ). x.what) (get_or_read cs c.args.side.now.tail c.index-cell.result.now c.requires.known c.index-cell.ensures none) in
    record { lent = (sym e ∙ c.in-Open.is, omega (arith, n, c.if-self-len-lt2.true, c.len.ensures, s.within), refl); later = later_none s }

pub returns-in_default : goal.returns-in_default
returns-in_default c =
    let s = c.args.self.now in
    let cs = vec_items s.cells in
    let e = ap (λ (x : Cell ℕ). x.what) (get_or_read cs c.args.side.now.tail c.index-cell.result.now c.requires.known c.index-cell.ensures none) in
    record { lent = inr (λ q. c.in_default.not-Open (e ∙ q), refl, refl); later = later_none s }
