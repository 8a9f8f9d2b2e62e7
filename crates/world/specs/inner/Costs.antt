-- The cost of a thread's next step.
use Rattle.std.specs.Prelude.{ℕ}
use Rattle.world.specs.Simulations.{Simulation, part_of, cost_next}

abbrev pub cost_at : Simulation → ℕ → ℕ
cost_at s t = cost_next s.code (part_of s t)
