use Rattle.std.proofs.Common.{subst}
use Rattle.frames.specs.Doings.{IsDoingAt}
use Rattle.workers.proofs.Wanting.{may_log}
use Rattle.workers.proofs.worker.Worker.may_log.Goals as goal

pub returns-in-None-storing : goal.returns-in-None-storing
returns-in-None-storing g c = λ yes m cell is running.
    let s = c.args.self.now.thread in
    may_log c.args.code.now s m cell running (subst (IsDoingAt c.args.code.now s.thread.configuration) is (c.requires.stands running))
    (c.is_waiting-validates.ensures.not_waits c.if-validates.false) c.in-None.ensures.none c.in-None-storing.ensures.none
