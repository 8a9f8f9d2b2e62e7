use Rattle.std.proofs.Common.{refl, sym, subst, List}
use Rattle.workers.specs.declared.run.Ending.{Ending}
use Rattle.workers.specs.declared.worker.Worker.{Worker}
use Rattle.workers.specs.Workers.{AreWorkersOf}
use Rattle.workers.specs.Driving.{AreEnded}
use Rattle.workers.specs.inner.Driving.{AreDrivenOf, HasNumber, driven_number}
use Rattle.workers.specs.Seen.{worker_number}
use Rattle.workers.proofs.Drives.{driven_without, ended_more, with_last}
use Rattle.workers.proofs.Numbers.{moved}
use Rattle.workers.proofs.run.unpack_into.Goals as goal

pub loop-one-preserved : goal.loop-one-preserved
loop-one-preserved c =
    let z = c.args.hall.now.table.shared.table_id in
    let key = c.args.hall.now.setup in
    let all = c.args.budget in
    let inv = c.loop-one.invariant in
    let d = driven_without z key all c.pop.new.self.items c.in-Some.one (subst (AreDrivenOf z key all) (c.in-Some.ensures.items) inv.driven) in
    record {
      driven = d.0;
      workers = subst (AreWorkersOf z key) (sym (c.in_ok-push.ensures.items)) (with_last z key c.loop-one.workers.items c.in-Some.one.worker inv.workers d.1.0);
      ended = subst (λ (p : List (Worker _) × List Ending). AreEnded key all p.0 p.1) (λ i. (sym (c.in_ok-push.ensures.items) i, sym (c.in_ok-note.ensures) i))
          (ended_more key all c.loop-one.workers.items c.loop-one.ends.items c.in-Some.one.worker (record { number = c.in-Some.one.worker.number; stopped = c.in-Some.one.stopped }) inv.ended refl d.1.1);
      numbers = moved driven_number worker_number (HasNumber driven_number c.args.driven.now.items) c.loop-one.driven.items c.pop.new.self.items c.in-Some.one c.loop-one.workers.items _ c.in-Some.one.worker inv.numbers c.in-Some.ensures.items c.in_ok-push.ensures.items refl;
    }
