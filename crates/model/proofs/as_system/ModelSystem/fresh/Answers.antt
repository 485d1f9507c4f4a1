use Rattle.std.proofs.Common.{◌≡◌, vec_items, refl, ap, ⊎_elim, rules}
use Rattle.ground.specs.declared.sort.Sort.TheVariants.{Field, Row}
use Rattle.ground.specs.declared.sort.Labels.{Labels}
use Rattle.system.specs.Meaning.{knows_sort}
use Rattle.system.specs.Requests.{fresh}
use Rattle.model.specs.Models.{kind}
use Rattle.model.proofs.Following.{refused, fresh_answer}
use Rattle.model.proofs.as_system.ModelSystem.fresh.Goals as goal

pub returns-in-Type-clause-answered : goal.returns-in-Type-clause-answered
returns-in-Type-clause-answered c = let s = c.args.self.now in fresh_answer s.codes (vec_items s.saved) c.requires _ _ c.args.sort c.in-Type.is (search rules) (search rules)

pub returns-in-Type-clause-fine : goal.returns-in-Type-clause-fine
returns-in-Type-clause-fine c = let s = c.args.self.now in (fresh_answer s.codes (vec_items s.saved) c.requires _ _ c.args.sort c.in-Type.is refl (search rules)).1

pub returns-in-Field-clause-answered : goal.returns-in-Field-clause-answered
returns-in-Field-clause-answered c =
    let s = c.args.self.now in
    refused s.codes.limit s.codes.cells s.codes.binds (vec_items s.saved) c.requires (fresh c.args.sort)
    (⊎_elim (λ (e : c.args.sort ≡ Field). ap (knows_sort kind) e) (λ (r : (m : Labels) × (c.args.sort ≡ Row m)). ap (knows_sort kind) r.1) c.in-Field.is) refl
