use Rattle.std.proofs.Common.{◌≡◌, ◌<◌, ℕ, Some, false, slice_get}
use Rattle.machine.specs.States.{ThreadState, thread_has_lock}
use Rattle.world.proofs.world.World.holder.Given as goal

abbrev pub invariant-threads : goal.invariant-threads
invariant-threads g l =
    (u : ℕ) (x : ThreadState) → u < l.t → slice_get l.self-inside.threads.items u ≡ Some x → thread_has_lock x.thread ≡ false
