use Rattle.frames.specs.Open.{IsConfigurationOf}
use Rattle.machine_tests.proofs.of_frames.carried.go_far.Given as goal

abbrev pub invariant-passes : goal.invariant-passes
invariant-passes g l = IsConfigurationOf l.code l.frames.configuration
