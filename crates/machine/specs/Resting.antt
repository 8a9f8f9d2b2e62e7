-- Threads that rest between their transactions.
use Rattle.std.specs.Prelude.{◌≡◌, None}
use Rattle.syntax.specs.declared.thread_end.Status.{Status}
use Rattle.syntax.specs.declared.thread_end.Status.TheVariants.{Running}
use Rattle.bytecode.specs.Effects.{Effect}
use Rattle.bytecode.specs.Effects.Effect.{Begin}
use Rattle.machine.specs.Threads.{Thread}

module _ {C : Type 0} (code : C → Effect C) where
  -- a running thread at c is at an outermost begin
  pub record IsAtBegin (c : C) (status : Status) : Type 0 where
    pub running : status ≡ Running
    pub first : C
    pub cancelled : C
    pub begins : code c ≡ Begin first cancelled

  -- a thread that can make no further progress by itself: it has no attempt, and if it runs, it is at a begin
  pub record IsThreadAtRest (th : Thread C) : Type 0 where
    pub attempt : th.attempt ≡ None
    pub begins : th.status ≡ Running → IsAtBegin th.configuration th.status
