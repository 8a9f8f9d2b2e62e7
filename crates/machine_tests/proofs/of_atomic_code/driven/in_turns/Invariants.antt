use Rattle.atomic_code.specs.Threads.{IsAtomicThreadOf}
use Rattle.machine_tests.proofs.of_atomic_code.driven.in_turns.Given as goal

abbrev pub invariant-calls : goal.invariant-calls
invariant-calls g l = IsAtomicThreadOf l.code l.thread.thread
