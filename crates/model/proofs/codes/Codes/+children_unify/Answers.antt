use Rattle.std.proofs.Common.{true, false, sym, ◌∙◌, rules}
use Rattle.model.proofs.Steps.{binds, binds_back, by_heads}
use Rattle.model.proofs.codes.Codes.+children_unify.Goals as goal

pub unify-returns-in_default-s : goal.unify-returns-in_default-s
unify-returns-in_default-s t c =
    let s = c.args.self.now in
    let e = binds s.cells s.limit c.args.fuel c.args.a c.args.b s.binds c.if-fuel-eq0.false c.if-a-b.false _ _ c.view-s.ensures c.view-t.ensures c.in_default.not-Link c.in_default-s.not-Built c.in_default-t.not-Link in
    search rules

pub unify-returns-in_default-t-2 : goal.unify-returns-in_default-t-2
unify-returns-in_default-t-2 t c =
    let s = c.args.self.now in
    let e = binds_back s.cells s.limit c.args.fuel c.args.a c.args.b s.binds c.if-fuel-eq0.false c.if-a-b.false _ _ c.view-s.ensures c.view-t.ensures _ _ _ c.in-Built.is c.in_default-t.not-Link c.in_default-t-2.not-Built in
    search rules

pub unify-returns-then-ne : goal.unify-returns-then-ne
unify-returns-then-ne t c =
    let s = c.args.self.now in
    let e = by_heads s.cells s.limit c.args.fuel c.args.a c.args.b s.binds c.if-fuel-eq0.false c.if-a-b.false _ _ c.view-s.ensures c.view-t.ensures _ _ _ c.in-Built.is _ _ _ c.in-Built-t.is true (sym c.ne.ensures ∙ c.if-ne.true) in
    search rules

pub unify-returns : goal.unify-returns
unify-returns t c =
    let s = c.args.self.now in
    let e = by_heads s.cells s.limit c.args.fuel c.args.a c.args.b s.binds c.if-fuel-eq0.false c.if-a-b.false _ _ c.view-s.ensures c.view-t.ensures _ _ _ c.in-Built.is _ _ _ c.in-Built-t.is false (sym c.ne.ensures ∙ c.if-ne.false) in
    search rules
