-- Schedules from seeds.
use Rattle.std.specs.Prelude.{ℕ, ◌<◌, false}
use Rattle.rand_core.specs.Pcg32Seed.{pcg32_seed}
use Rattle.rand_pcg.specs.Lcg.{Lcg}
use Rattle.rand_pcg.specs.Pcg.{pcg32_of_seed}
use Rattle.replay.specs.declared.line.Line.{Line}
use Rattle.replay.specs.declared.line.TheConstants.{MOST_STEPS}
use Rattle.replay.specs.declared.schedule.ScheduleFault.{ScheduleFault}
use Rattle.replay.specs.declared.schedule.ScheduleFault.TheVariants.{OutOfMemory, BadLine, TooLong}

-- the generator of a seed
abbrev pub generator_of : ℕ → Lcg
generator_of seed = pcg32_of_seed (pcg32_seed 16 seed)

-- one step of a thread
abbrev pub one_step : ℕ → Line
one_step thread = record { thread = thread; count = 1; accesses = false }

abbrev pub IsFaultOfSeed : ℕ → ScheduleFault → Type 0
IsFaultOfSeed steps OutOfMemory = Unit {0}
IsFaultOfSeed steps (BadLine n) = ⊥
IsFaultOfSeed steps TooLong = MOST_STEPS < steps
