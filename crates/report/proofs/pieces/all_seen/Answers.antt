use Rattle.std.proofs.Common.{◌≡◌, map, take, ◌+◌, subst, sym}
use Rattle.report.specs.Pieces.{seen_of}
use Rattle.report.specs.Views.{thread_of}
use Rattle.report.proofs.Lines.{one_more}
use Rattle.report.proofs.pieces.all_seen.Goals as goal

pub threads-preserved : goal.threads-preserved
threads-preserved g c =
    let more = one_more seen_of thread_of c.threads.seen.items c.args.threads.now c.threads.thread-index c.one_seen.result c.thread-item.result c.thread-item.is c.threads-test.true c.one_seen.ensures c.threads.invariant in
    subst (λ xs. map seen_of xs ≡ map thread_of (take (c.threads.thread-index + 1) c.args.threads.now)) (sym c.in_ok-push.ensures.items) more
