use Rattle.std.proofs.Common.{[], ap, ◌+◌}
use Rattle.questions.proofs.More.{next_line}
use Rattle.questions.proofs.asked.questions.Goals as goal

pub lines-preserved : goal.lines-preserved
lines-preserved c = (
  ap (λ k. k + 1) c.lines.invariant.0,
  next_line c.lines.line-index c.as_slice-line-items.result.now (record { ref_ptr = (0, 0); now = [] }) c.lines.number _ _ _ c.lines-test.true c.lines.invariant.0 c.lines.invariant.1 c.in_ok-found.ensures c.in_ok-add.ensures,
)
