use Rattle.std.proofs.Common.{◌≡◌, ◌≤◌, ◌-◌}
use Rattle.syntax.specs.declared.thread_end.Status.TheVariants.{Running}
use Rattle.machine.specs.Standing.{begins_of}
use Rattle.machine.specs.inner.Contexts.{AreWithin, RunsInContext, context_of, machine_thread}
use Rattle.machine.proofs.context.ThreadContext.advance.Given as goal

abbrev pub invariant-passes : goal.invariant-passes
invariant-passes g l = record {
  leads : g.L.Loads.leads l.code l.initial.loads (record { thread = machine_thread (context_of {A = g.row.A.Denot} l.initial.self); accesses = l.initial.accesses }) (l.most - l.left) l.loads (record { thread = machine_thread (context_of {A = g.row.A.Denot} l.self); accesses = l.accesses });
  running : l.self.status ≡ Running;
  runs : RunsInContext l.code (context_of {A = g.row.A.Denot} l.self);
  within : AreWithin l.self.frames.configuration (begins_of l.self.core.attempt);
  count : l.left ≤ l.most;
}

abbrev pub decreases-passes : goal.decreases-passes
decreases-passes g l = l.left
