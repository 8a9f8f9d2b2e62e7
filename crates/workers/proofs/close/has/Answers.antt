use Rattle.std.proofs.Common.{◌≢◌}
use Rattle.workers.specs.declared.worker.Worker.{Worker}
use Rattle.workers.proofs.Closings.{each_more, each_of, item_at}
use Rattle.workers.proofs.close.has.Goals as goal

pub workers-preserved : goal.workers-preserved
workers-preserved g c = each_more (λ (w : Worker _). w.number ≢ c.args.number) _ _ _ _ c.deref-worker-items.ensures.value c.workers-test.true c.worker-item.is (λ k w lt e. c.workers.invariant k w lt e) c.if-worker-number.false

pub returns : goal.returns
returns g c = each_of (λ (w : Worker _). w.number ≢ c.args.number) _ _ _ c.deref-worker-items.ensures.value c.workers-test.false (λ k w lt e. c.workers.invariant k w lt e)

pub returns-then-worker-number : goal.returns-then-worker-number
returns-then-worker-number g c = (_, c.worker-item.result, item_at _ _ c.workers.worker-index _ c.deref-worker-items.ensures.value c.workers-test.true c.worker-item.is, c.if-worker-number.true)
