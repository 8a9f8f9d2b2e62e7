use Rattle.std.proofs.Common.{◌≡◌, ◌∙◌, refl, sym, false}
use Rattle.machine.specs.States.{thread_has_lock}
use Rattle.workers.specs.declared.worker.Worker.{Worker}
use Rattle.workers.proofs.Closings.{each_more, each_of, item_at}
use Rattle.workers.proofs.close.holder.Goals as goal

pub workers-preserved : goal.workers-preserved
workers-preserved g c = each_more (λ (w : Worker _). thread_has_lock w.thread.thread ≡ false) _ _ _ _ c.deref-worker-items.ensures.value c.workers-test.true c.worker-item.is (λ k w lt e. c.workers.invariant k w lt e) (sym c.has_lock.ensures ∙ c.if-has_lock.false)

pub returns : goal.returns
returns g c = each_of (λ (w : Worker _). thread_has_lock w.thread.thread ≡ false) _ _ _ c.deref-worker-items.ensures.value c.workers-test.false (λ k w lt e. c.workers.invariant k w lt e)

pub returns-then-has_lock : goal.returns-then-has_lock
returns-then-has_lock g c = (_, c.worker-item.result, item_at _ _ c.workers.worker-index _ c.deref-worker-items.ensures.value c.workers-test.true c.worker-item.is, refl, sym c.has_lock.ensures ∙ c.if-has_lock.true)
