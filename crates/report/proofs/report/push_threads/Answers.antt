use Rattle.report.specs.Views.{thread_of}
use Rattle.report.proofs.Lines.{next_thread}
use Rattle.report.proofs.report.push_threads.Goals as goal

pub threads-preserved : goal.threads-preserved
threads-preserved g c = next_thread thread_of c.args.threads.now c.threads.number c.index-threads-number.result c.threads.report.items _ _ c.index-threads-number.is c.threads-test.true c.threads.invariant c.in_ok-push_thread.ensures
