use Rattle.std.proofs.Common.{sym, ap, subst}
use Rattle.machine.specs.Loads.{Counted, counted_thread}
use Rattle.machine.specs.States.{ThreadState}
use Rattle.machine.specs.inner.Contexts.{context_of, machine_thread}
use Rattle.machine.proofs.contexts.Calls.{runs_of}
use Rattle.machine.proofs.contexts.Seen.{thread_of}
use Rattle.machine.proofs.contexts.Left.{left_shown}
use Rattle.machine.proofs.thread.Thread.advance.Goals as goal

pub advance-requires-clause-runs : goal.advance-requires-clause-runs
advance-requires-clause-runs g c = runs_of c.args.code.now (context_of {A = g.row.A.Denot} c.self.inside.context) c.args.self.now.thread (ap (λ (s : ThreadState). s.thread) c.self.view_is) c.self.invariant c.in-Running.is c.requires.of

pub advance-requires-clause-can : goal.advance-requires-clause-can
advance-requires-clause-can g c = subst (λ (a : Counted). g.L.Loads.can_step c.args.code.now c.args.loads.now a c.args.most) (sym (ap counted_thread c.self.view_is)) c.requires.can

pub returns-in-Running-clause-leads : goal.returns-in-Running-clause-leads
returns-in-Running-clause-leads g c = subst (λ (a : Counted). g.L.Loads.leads c.args.code.now c.args.loads.now a c.advance.result.0 c.advance.new.loads (record { thread = machine_thread (context_of {A = g.row.A.Denot} c.advance.new.self); accesses = c.advance.new.accesses })) (ap counted_thread c.self.view_is) c.advance.ensures.leads

pub returns-in-Running-clause-of : goal.returns-in-Running-clause-of
returns-in-Running-clause-of g c = thread_of c.args.code.now c.requires.of.valid _ c.advance.ensures.of

pub returns-in-Running-clause-left : goal.returns-in-Running-clause-left
returns-in-Running-clause-left g c = λ runs. left_shown c.advance.new.self.frames.configuration c.advance.new.self.core.attempt c.advance.result.1 c.advance.ensures.left
