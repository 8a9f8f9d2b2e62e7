-- Why a step was not made.
use Rattle.std.proofs.Common.{◌≡◌, true, refl}
use Rattle.syntax.specs.declared.thread_end.Status.TheVariants.{Running}
use Rattle.bytecode.specs.Code.{Code, Configuration, effect}
use Rattle.norec_core.specs.Accesses.{stops}
use Rattle.norec_core.specs.declared.step.Stop.{Stop}
use Rattle.norec_core.specs.declared.step.Stop.TheVariants.{OutOfMemory, SequenceUsedUp}
use Rattle.machine.specs.States.{MayWantMemory, Ready}
use Rattle.machine.specs.Threads.{Thread, access}
use Rattle.workers.specs.Works.{StopsAt}

pub stops_at : (code : Code) (th : Thread Configuration) (room : Ready) (e : Stop) → th.status ≡ Running →
    (e ≡ OutOfMemory → MayWantMemory code th room) → (e ≡ SequenceUsedUp → stops (access (effect code) th) ≡ true) → StopsAt code th e
stops_at code th room OutOfMemory running full used = (running, (room, full refl))
stops_at code th room SequenceUsedUp running full used = (running, used refl)
