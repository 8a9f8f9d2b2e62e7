use Rattle.safety.specs.inner.Closing.{IsClosing}
use Rattle.safety.proofs.closure.close.Given as goal

abbrev pub invariant-each : goal.invariant-each
invariant-each g l = IsClosing l.callers l.at (record { members = l.members; queue = l.queue })
