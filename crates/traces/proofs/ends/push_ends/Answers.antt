use Rattle.std.proofs.Common.{refl}
use Rattle.traces.specs.Trace.{end_line, end_lines}
use Rattle.traces.specs.Views.{thread_at_of}
use Rattle.traces.proofs.Lines.{next_counted}
use Rattle.traces.proofs.ends.push_ends.Goals as goal

pub threads-preserved : goal.threads-preserved
threads-preserved g c = next_counted thread_at_of end_line end_lines (λ n y ys. refl) c.args.threads.now c.threads.number c.threads.number c.index-threads-number.result c.threads.text.items _ _ c.index-threads-number.is c.threads-test.true c.threads.invariant c.in_ok-push_end_line.ensures
