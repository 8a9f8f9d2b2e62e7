use Rattle.machine.specs.Standing.{IsThreadOf}
use Rattle.machine_tests.proofs.threads.are_told_in_place.Given as goal

abbrev pub invariant-rows : goal.invariant-rows
invariant-rows g l = IsThreadOf l.code l.thread.thread
