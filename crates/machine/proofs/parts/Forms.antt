-- The two shapes that most steps in a transaction leave.
use Rattle.std.proofs.Common.{ℕ, Bool, false, List, None, Some}
use Rattle.syntax.specs.declared.thread_end.Status.{Status}
use Rattle.norec_core.specs.Attempts.{Attempt}
use Rattle.machine.specs.Threads.{Next, Thread}
use Rattle.machine.specs.declared.event.Event.TheVariants as event

-- the attempt goes on, and its thread in c
abbrev pub go : {C : Type 0} → Thread C → C → Attempt C → Next C
go th c a = record { thread = record { configuration = c; attempt = Some a; trapping = false; text = th.text; status = th.status }; completed = None; sets_snapshot = false; event = event.Quiet }

-- the transaction takes effect
abbrev pub finish : {C : Type 0} → Thread C → Attempt C → C → Status → Bool → List (ℕ × ℕ) → Next C
finish th a c status took_lock writes = record {
  thread = record { configuration = c; attempt = None; trapping = false; text = th.text; status = status };
  completed = Some (record { snapshot = a.snapshot; took_lock = took_lock; writes = writes });
  sets_snapshot = false;
  event = event.Quiet;
}
