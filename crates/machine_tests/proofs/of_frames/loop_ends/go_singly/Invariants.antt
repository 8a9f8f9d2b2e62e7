use Rattle.frames.specs.Open.{IsConfigurationOf}
use Rattle.machine_tests.proofs.of_frames.loop_ends.go_singly.Given as goal

abbrev pub invariant-steps : goal.invariant-steps
invariant-steps g l = IsConfigurationOf l.code l.frames.configuration
