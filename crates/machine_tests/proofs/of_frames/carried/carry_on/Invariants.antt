use Rattle.frames.specs.Open.{IsConfigurationOf}
use Rattle.machine_tests.proofs.of_frames.carried.carry_on.Given as goal

abbrev pub invariant-turns : goal.invariant-turns
invariant-turns g l = IsConfigurationOf l.code l.frames.configuration
