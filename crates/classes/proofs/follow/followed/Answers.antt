use Rattle.std.proofs.Common.{◌≡◌, ◌+◌, List, length, get_or, drop, Err, ap, subst, arith}
use Rattle.std.proofs.lemmas.Result.{err_from_is_err_and}
use Rattle.classes.specs.declared.entry.Entry.{Entry}
use Rattle.classes.specs.Following.{Followed}
use Rattle.classes.specs.Entries.{blank}
use Rattle.classes.proofs.Turning.{taken_length}
use Rattle.classes.proofs.Stepping.{followable_at, goes_on, stops_here}
use Rattle.classes.proofs.follow.followed.Goals as goal

pub judge-verdict-requires-clause-sort : goal.judge-verdict-requires-clause-sort
judge-verdict-requires-clause-sort g c =
    let e : c.as_slice-entry-items.result.now ≡ c.args.table.now = c.as_slice-entry-items.ensures.value in
    (followable_at (g.S.System.meaning c.args.below.now) c.as_slice-entry-items.result.now c.loop-entry.entry-index blank c.loop-entry-test.true (rw e c.requires.entries)).sort

pub loop-entry-preserved : goal.loop-entry-preserved
loop-entry-preserved g c =
    let M = g.S.System.meaning c.args.below.now in
    let xs = c.as_slice-entry-items.result.now in
    let e : xs ≡ c.args.table.now = c.as_slice-entry-items.ensures.value in
    let v = c.judge-verdict.result in
    let n = c.loop-entry.next in
    let i = c.loop-entry.entry-index in
    let q = c.take_up.ensures.entries in
    let z = taken_length n v (get_or xs i blank).set in (
      omega (arith, z, ap length q, c.loop-entry.invariant.0),
      λ r h.
          let there : Followed M (drop (i + 1) xs) c.take_up.new.self r = rw e h in
          let all = goes_on M xs i blank c.loop-entry-test.true n v r c.loop-entry.invariant.0 c.as_slice-entry-items.ensures.few (rw e c.requires.entries) c.judge-verdict.ensures c.in_ok-take_up.ensures.answer
          (subst (λ (t : List Entry). Followed M (drop (i + 1) xs) t r) q there) in
          c.loop-entry.invariant.1 r (rw e at all),
    )

pub returns-in_err-take_up : goal.returns-in_err-take_up
returns-in_err-take_up g c =
    let M = g.S.System.meaning c.args.below.now in
    let xs = c.as_slice-entry-items.result.now in
    let e : xs ≡ c.args.table.now = c.as_slice-entry-items.ensures.value in
    let v = c.judge-verdict.result in
    let f = c.in_err-take_up.field-0.0 in
    let p = err_from_is_err_and c.from_residual.result c.from_residual.ensures.1 in
    let h = stops_here M xs c.loop-entry.entry-index blank c.loop-entry-test.true c.loop-entry.next v f c.loop-entry.invariant.0 c.as_slice-entry-items.ensures.few (rw e c.requires.entries) c.judge-verdict.ensures c.in_err-take_up.ensures.answer in
    rw (p.1, p.2) (c.loop-entry.invariant.1 (Err f) (rw e at h))
