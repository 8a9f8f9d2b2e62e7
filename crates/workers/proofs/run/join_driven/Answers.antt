use Rattle.std.proofs.Common.{ℕ, sym, subst}
use Rattle.workers.specs.declared.hall.Hall.{Hall}
use Rattle.workers.specs.Workers.{IsWorkerOf}
use Rattle.workers.specs.Driving.{IsEndOfLoop}
use Rattle.workers.specs.inner.Driving.{AllPromise, AreDrivenOf, HasNumber, driven_number, handle_number}
use Rattle.workers.proofs.Drives.{driven_more, promised_without}
use Rattle.workers.proofs.Numbers.{moved}
use Rattle.workers.proofs.run.join_driven.Goals as goal

pub loop-handle-preserved : goal.loop-handle-preserved
loop-handle-preserved g c =
    let hall = c.args.hall.now in
    let all = c.args.budget in
    let p = promised_without hall all c.pop.new.self.items c.in-Some.handle (subst (AllPromise hall all) (c.in-Some.ensures.items) c.loop-handle.invariant.promised) in
    let is : IsWorkerOf hall.table.shared.table_id hall.setup c.join.result.worker × IsEndOfLoop hall.setup all c.join.result.stopped c.join.result.worker =
    subst (λ (h : Hall _ × ℕ). IsWorkerOf h.0.table.shared.table_id h.0.setup c.join.result.worker × IsEndOfLoop h.0.setup h.1 c.join.result.stopped c.join.result.worker) (λ i. (p.1.0 i, p.1.1 i)) (c.join.ensures.0, c.join.ensures.1) in
    record {
      promised = p.0;
      driven = subst (AreDrivenOf hall.table.shared.table_id hall.setup all) (sym (c.in-Ok.ensures.items)) (driven_more hall.table.shared.table_id hall.setup all c.loop-handle.all.items c.join.result c.loop-handle.invariant.driven is);
      numbers = moved handle_number driven_number (HasNumber handle_number c.args.handles.items) c.loop-handle.handles.items c.pop.new.self.items c.in-Some.handle c.loop-handle.all.items _ c.join.result c.loop-handle.invariant.numbers c.in-Some.ensures.items c.in-Ok.ensures.items (sym c.join.ensures.2);
    }
