use Rattle.std.proofs.Common.{◌≡◌, Some, sym, ap, ◌∙◌, rules}
use Rattle.std.specs.List.{position}
use Rattle.ground.specs.Members.{compatible}
use Rattle.classes.specs.Entries.{told, left, both}
use Rattle.classes.specs.Padding.{counted}
use Rattle.classes.proofs.Placing.{of, in_table, at_clash, at_wider, pushed, written}
use Rattle.classes.proofs.Tabling.{spare_set}
use Rattle.classes.proofs.table.Table.join.Goals as goal

pub returns-in_default : goal.returns-in_default
returns-in_default c =
    let it = pushed c.args.self.now c.args.code c.args.set c.push.result c.push.new.self (search rules) (search rules) c.push.ensures.ok c.push.ensures.kept c.push.ensures.full c.push.ensures.refused in
    record { answer = it.0; entries = it.1 }

pub returns-then-not-has_member : goal.returns-then-not-has_member
returns-then-not-has_member c =
    let es = c.args.self.now in
    let n = c.self.inside.count in
    let xs = c.self.inside.entries in
    let h : position (of c.args.code.0) es ≡ Some c.in-Some.at = search rules in
    let p = in_table n es xs c.args.code.0 c.in-Some.at c.self.view_is (counted n xs c.self.invariant) h in
    let it = at_clash es c.args.code c.args.set c.in-Some.at h (ap (λ e. compatible (both e.set c.args.set)) p.1 ∙ search rules) in
    record { answer = sym (ap told it); entries = sym (ap (left es) it) }

pub invariant_of-self : goal.invariant_of-self
invariant_of-self c =
    let es = c.args.self.now in
    let n = c.self.inside.count in
    let xs = c.self.inside.entries in
    let h : position (of c.args.code.0) es ≡ Some c.in-Some.at = search rules in
    let p = in_table n es xs c.args.code.0 c.in-Some.at c.self.view_is (counted n xs c.self.invariant) h in
    spare_set n c.in-Some.at xs _ p.0 c.self.invariant

pub returns : goal.returns
returns c =
    let es = c.args.self.now in
    let n = c.self.inside.count in
    let xs = c.self.inside.entries in
    let h : position (of c.args.code.0) es ≡ Some c.in-Some.at = search rules in
    let p = in_table n es xs c.args.code.0 c.in-Some.at c.self.view_is (counted n xs c.self.invariant) h in
    let it = at_wider es c.args.code c.args.set c.in-Some.at h (ap (λ e. compatible (both e.set c.args.set)) p.1 ∙ search rules) in
    record { answer = sym (ap told it); entries = written n es xs c.in-Some.at c.args.set c.union-all.result c.self.view_is p c.union-all.ensures ∙ sym (ap (left es) it) }
