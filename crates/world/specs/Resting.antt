-- Threads of a world that rest between their transactions.
use Rattle.std.specs.Prelude.{ℕ}
use Rattle.bytecode.specs.Code.{effect}
use Rattle.machine.specs.Turns as turns
use Rattle.world.specs.Simulations.{Simulation, world_of}

-- thread t has terminated, or has no attempt and is at a begin
abbrev pub RestsAt : Simulation → ℕ → Type 0
RestsAt s t = turns.RestsIn (effect s.code) (world_of s) t

-- before each of the next n steps of thread t alone, it is not at rest
abbrev pub GoesOnAlone : Simulation → (t n : ℕ) → Type 0
GoesOnAlone s t n = turns.GoesOnFor (effect s.code) (world_of s) t n
