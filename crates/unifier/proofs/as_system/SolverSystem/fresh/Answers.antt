use Rattle.std.proofs.Common.{◌≡◌, ◌-◌, true, vec_items, sym, refl, ◌∙◌}
use Rattle.system.specs.Meaning.{knows_sort}
use Rattle.system.specs.Requests.{fresh}
use Rattle.system.specs.Replies.{kind_of}
use Rattle.cells.specs.declared.What.TheVariants.{Open}
use Rattle.unifier.proofs.Answering.{refuses, grown_answer}
use Rattle.unifier.proofs.Following.{fresh_done, fresh_full}
use Rattle.unifier.proofs.as_system.SolverSystem.fresh.Goals as goal

pub returns-then-not-knows_sort-clause-answered : goal.returns-then-not-knows_sort-clause-answered
returns-then-not-knows_sort-clause-answered g c = refuses g.row.HEADS c.args.self.now c.requires (fresh c.args.sort) (sym c.knows_sort.ensures ∙ c.if-not-knows_sort.true) refl

pub returns-clause-answered : goal.returns-clause-answered
returns-clause-answered g c =
    let s = c.args.self.now in
    let k : knows_sort (kind_of g.row.HEADS 0) c.args.sort ≡ true = sym c.knows_sort.ensures ∙ c.if-not-knows_sort.false in
    grown_answer g.row.HEADS s c.grow.new.self c.requires (fresh c.args.sort) Open c.args.sort
    (fresh_done g.row.HEADS (s.store.limit - 1) s.calls (vec_items s.store.cells) (vec_items s.store.trail) (vec_items s.saved) c.requires c.args.sort k)
    (fresh_full g.row.HEADS (s.store.limit - 1) s.calls (vec_items s.store.cells) (vec_items s.store.trail) (vec_items s.saved) c.requires c.args.sort k)
    c.grow.result c.grow.ensures
