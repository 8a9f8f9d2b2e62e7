use Rattle.std.proofs.Common.{◌≤◌, ◌-◌}
use Rattle.atomic_code.specs.inner.Making.{at_hand, thread_of}
use Rattle.atomic_code.specs.inner.Carrying.{Carried}
use Rattle.atomic_code.proofs.context.AtomicContext.carry_on.Given as goal

abbrev pub invariant-turns : goal.invariant-turns
invariant-turns g l = record {
  carried : Carried l.code (at_hand (λ m. m.now) l.found) (thread_of {A = g.row.A.Denot} l.fn.self) l.made (thread_of {A = g.row.A.Denot} l.self);
  few : l.made ≤ l.most;
}

abbrev pub decreases-turns : goal.decreases-turns
decreases-turns g l = l.most - l.made
