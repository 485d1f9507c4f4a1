use Rattle.std.proofs.Common.{vec_items, sym, ◌∙◌}
use Rattle.unifier.proofs.Sharing.{some_none, facing_turn, sort_b, lent_shared, shared_turn, shared_same}
use Rattle.unifier.proofs.Keeping.{later_none}
use Rattle.unifier.proofs.store.Store.share.Goals as goal

pub lend-requires : goal.lend-requires
lend-requires c =
    let f = c.requires.facing in
    let s = sort_b (vec_items c.args.self.now.cells) c.args.a.now c.args.b.now c.args.label c.in-Some-None.x f c.requires.label c.in-Some-None.is-0 c.in-Some-None.is-1 in
    record { fine = f.fine; known = f.right.known; row = (s.0, s.1); label = c.requires.label }

pub returns-in-Some-None : goal.returns-in-Some-None
returns-in-Some-None c =
    let s = c.args.self.now in
    record {
      shared = lent_shared (vec_items s.cells) c.args.a.now c.args.b.now c.args.label c.in-Some-None.x c.requires.facing c.requires.label c.in-Some-None.is-0 c.in-Some-None.is-1
          s.limit c.lend.result (vec_items c.lend.new.self.cells) c.lend.new.side c.lend.ensures.lent;
      later = c.lend.ensures.later;
    }

pub lend-requires-in-None-Some : goal.lend-requires-in-None-Some
lend-requires-in-None-Some c =
    let cs = vec_items c.args.self.now.cells in
    let f = facing_turn cs c.args.a.now c.args.b.now c.requires.facing in
    let s = sort_b cs c.args.b.now c.args.a.now c.args.label c.in-None-Some.y f c.requires.label c.in-None-Some.is-1 c.in-None-Some.is-0 in
    record { fine = f.fine; known = f.right.known; row = (s.0, s.1); label = c.requires.label }

pub returns-in-None-Some : goal.returns-in-None-Some
returns-in-None-Some c =
    let s = c.args.self.now in
    let cs = vec_items s.cells in
    let f = facing_turn cs c.args.a.now c.args.b.now c.requires.facing in
    let ds = vec_items c.lend-in-None-Some.new.self.cells in
    record {
      shared = shared_turn s.limit cs c.args.a.now c.args.b.now c.args.label c.lend-in-None-Some.result ds c.lend-in-None-Some.new.side c.args.b.now
          (lent_shared cs c.args.b.now c.args.a.now c.args.label c.in-None-Some.y f c.requires.label c.in-None-Some.is-1 c.in-None-Some.is-0
          s.limit c.lend-in-None-Some.result ds c.lend-in-None-Some.new.side c.lend-in-None-Some.ensures.lent);
      later = c.lend-in-None-Some.ensures.later;
    }

pub returns-in_default : goal.returns-in_default
returns-in_default c =
    let s = c.args.self.now in
    let cs = vec_items s.cells in
    let d = c.in_default in
    record {
      shared = shared_same s.limit cs c.args.a.now c.args.b.now c.args.label c.requires.facing (λ x p q. some_none d.field-0-1 (sym d.is-1 ∙ q)) (λ x p q. some_none d.field-0-0 (sym d.is-0 ∙ q));
      later = later_none s;
    }

pub returns-in_default-2 : goal.returns-in_default-2
returns-in_default-2 c =
    let s = c.args.self.now in
    let cs = vec_items s.cells in
    let d = c.in_default in
    record {
      shared = shared_same s.limit cs c.args.a.now c.args.b.now c.args.label c.requires.facing (λ x p q. some_none x (sym p ∙ d.is-0)) (λ x p q. some_none x (sym p ∙ d.is-1));
      later = later_none s;
    }
