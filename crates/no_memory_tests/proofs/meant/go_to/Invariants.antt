use Rattle.atomic_code.specs.Threads.{IsAtomicThreadOf}
use Rattle.no_memory_tests.proofs.meant.go_to.Given as goal

abbrev pub invariant-pieces : goal.invariant-pieces
invariant-pieces g l = IsAtomicThreadOf l.code l.thread.thread
