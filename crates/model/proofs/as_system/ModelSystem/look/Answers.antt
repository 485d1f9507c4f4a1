use Rattle.std.proofs.Common.{◌≡◌, ℕ, ◌+◌, ◌<◌, length, vec_items, sym, ap, ◌∙◌, subst, arith, rules}
use Rattle.ground.specs.declared.sort.Sort.TheVariants.{«Type» as OfType}
use Rattle.system.specs.Replies.{Stands}
use Rattle.model.specs.Cells.{view, root}
use Rattle.model.specs.Means.{unclassed, meaning_of}
use Rattle.model.specs.Meanings.{look_open, look_with, never_link, below_known}
use Rattle.model.proofs.as_system.ModelSystem.look.Goals as goal

pub unreachable-requires : goal.unreachable-requires
unreachable-requires c =
    let s = c.args.self.now in
    let e : c.root-end.result ≡ root (view s.codes.cells s.codes.binds) (s.codes.limit + 1) c.args.code.0 = search rules in
    never_link s.codes.limit s.codes.cells s.codes.binds (vec_items s.saved) c.requires c.args.code.0 c.in-Link.field-0 (ap (view s.codes.cells s.codes.binds) (sym e) ∙ sym c.in-Link.ensures)

pub returns-in-Open : goal.returns-in-Open
returns-in-Open c =
    let s = c.args.self.now in
    let l : c.args.code.0 < length s.codes.cells = search rules in
    let e : c.root-end.result ≡ root (view s.codes.cells s.codes.binds) (s.codes.limit + 1) c.args.code.0 = search rules in (
      (OfType, below_known (length s.codes.cells) c.args.code.0 l),
      subst (λ (i : ℕ). Stands (meaning_of s.codes.limit s.codes.cells s.codes.binds (vec_items s.saved)) c.args.code.0 i unclassed) (sym e)
          (look_open s.codes.limit s.codes.cells s.codes.binds (vec_items s.saved) c.requires (s.codes.limit + 1) c.args.code.0 l (ap (view s.codes.cells s.codes.binds) (sym e) ∙ sym c.in-Open.ensures)),
    )

pub returns-in-Built : goal.returns-in-Built
returns-in-Built c =
    let s = c.args.self.now in
    let l : c.args.code.0 < length s.codes.cells = search rules in
    let e : c.root-end.result ≡ root (view s.codes.cells s.codes.binds) (s.codes.limit + 1) c.args.code.0 = search rules in (
      (OfType, below_known (length s.codes.cells) c.args.code.0 l),
      look_with s.codes.limit s.codes.cells s.codes.binds (vec_items s.saved) c.requires (s.codes.limit + 1) c.args.code.0 c.in-Built.head c.in-Built.first c.in-Built.second c.min.result c.min-in-Built.result l
          (ap (view s.codes.cells s.codes.binds) (sym e) ∙ sym c.in-Built.ensures)
          (λ b. omega (arith, b, c.min.ensures, c.requires.cells, c.requires.most))
          (λ b. omega (arith, b, c.min-in-Built.ensures, c.requires.cells, c.requires.most)),
    )
