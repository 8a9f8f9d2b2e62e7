use Rattle.std.proofs.Common.{arith}
use Rattle.walks.specs.Ordered.{all_resting}
use Rattle.serving.proofs.AtRest.{told_more}
use Rattle.serving.proofs.ByCode.{all_of_threads, resting_read}
use Rattle.serving.proofs.by_code.all_told.Goals as goal

pub threads-preserved : goal.threads-preserved
threads-preserved g c =
    let ks = c.args.threads.now.items in
    let t = c.threads.t in
    let lt = c.threads-test.true in
    let size = c.len-t-end.ensures in
    let long = c.args.threads.now.ok.0 in
    let there = resting_read ks t c.index.result.now c.index.ensures (omega (arith, lt, size, long)) in
    told_more (all_resting ks) t _ c.threads.told.items c.push.new.self.items _ there c.threads.invariant c.in_ok-thread_told.ensures c.in_ok-push.ensures.items

pub returns : goal.returns
returns g c =
    let last = c.threads-test.false in
    let size = c.len-t-end.ensures in
    let long = c.args.threads.now.ok.0 in
    all_of_threads c.args.threads.now.items c.threads.t _ (omega (arith, last, size, long)) c.threads.invariant
