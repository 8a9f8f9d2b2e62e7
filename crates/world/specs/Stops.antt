-- Why a world is not opened, and why a list of steps was not completed.
use Rattle.std.specs.Prelude.{◌≡◌, ◌<◌, ◌≤◌, ℕ, true, false}
use Rattle.world.specs.Simulations.{Simulation, stops_at}
use Rattle.world.specs.declared.stop.StopReason.{StopReason}
use Rattle.world.specs.declared.stop.StopReason.TheVariants.{OutOfMemory, SequenceUsedUp, Stranger}
use Rattle.world.specs.declared.stop.WorldFault.{WorldFault}
use Rattle.world.specs.declared.stop.WorldFault.TheVariants as world

-- why the next step of thread t is not made
abbrev pub StopsFor : Simulation → ℕ → StopReason → Type 0
StopsFor s t OutOfMemory = (t < s.threads) × (stops_at s t ≡ false)
StopsFor s t SequenceUsedUp = (t < s.threads) × (stops_at s t ≡ true)
StopsFor s t Stranger = s.threads ≤ t

abbrev pub number_of : WorldFault → ℕ
number_of world.OutOfMemory = 0
number_of world.WrongThreads = 72

abbrev pub reason_number : StopReason → ℕ
reason_number OutOfMemory = 0
reason_number SequenceUsedUp = 70
reason_number Stranger = 71
