use Rattle.serving.proofs.ConcurrentRuns.{one_more_thread}
use Rattle.serving.proofs.run.threads_seen.Goals as goal

pub threads-preserved : goal.threads-preserved
threads-preserved c = one_more_thread c.args.ran.now c.threads.number c.threads.seen.items _ _ c.threads.invariant c.thread_seen.ensures c.in_ok-push.ensures.items
