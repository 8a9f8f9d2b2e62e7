use Rattle.std.proofs.Common.{◌≡◌, take, subst, arith, rules}
use Rattle.differences.proofs.Firsts.{ends_first, one_more_same, seen}
use Rattle.differences.proofs.first_difference.Goals as goal

pub lines-preserved : goal.lines-preserved
lines-preserved c =
    one_more_same c.args.due.now c.args.found.now c.lines.at _ (grind (arith, c.lines-test.true, c.min-count.ensures)) (grind (arith, c.lines-test.true, c.min-count.ensures)) c.lines.invariant
    (c.is_same.ensures.yes c.if-not-is_same.false)

pub returns-else-due-found-clause-differ : goal.returns-else-due-found-clause-differ
returns-else-due-found-clause-differ c =
    let at : c.lines.at ≡ c.min-count.result = omega (arith, c.lines-test.false, c.lines.auto.at-end) in
    let same = subst (λ n. take n (seen c.args.due.now) ≡ take n (seen c.args.found.now)) at c.lines.invariant in
    ends_first c.args.due.now c.args.found.now c.min-count.result (search (rules, c.if-due-found.false)) c.min-count.ensures same
