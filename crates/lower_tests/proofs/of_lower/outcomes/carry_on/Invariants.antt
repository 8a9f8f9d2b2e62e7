use Rattle.atomic_code.specs.Threads.{IsAtomicThreadOf}
use Rattle.lower_tests.proofs.of_lower.outcomes.carry_on.Given as goal

abbrev pub invariant-steps : goal.invariant-steps
invariant-steps l = IsAtomicThreadOf l.code l.thread.thread
