-- How a line of a schedule is played.
use Rattle.std.specs.Prelude.{◌≡◌, ℕ, List, [], ◌∷◌, ◌++◌, Option, None, Some}
use Rattle.bytecode.specs.Code.{Code}
use Rattle.machine.specs.declared.event.Event.{Event}
use Rattle.world.specs.declared.stop.StopReason.{StopReason}
use Rattle.world.specs.Simulations.{Simulation, further, world_of}
use Rattle.world.specs.Stops.{StopsFor}
use Rattle.replay.specs.declared.line.Line.{Line}
use Rattle.replay.specs.declared.play.ReplayHalt.{ReplayHalt}
use Rattle.replay.specs.declared.play.ReplayHalt.TheVariants.{Stopped, Refused}
use Rattle.replay.specs.declared.line.TheConstants.{MOST_STEPS}
use Rattle.replay.specs.Replays.{events_of, first_world, simulation_after, steps_of}

-- With capacity for this many steps before it and after it, these are the steps of the line, whatever lines follow it.
pub record Plays (line : Line) (room left : ℕ) (before after : Simulation) : Type 0 where
  pub made : List ℕ
  pub are : after ≡ further before made
  pub named : (lines : List Line) →
      steps_of before.code room (line ∷ lines) (world_of before)
      ≡ made ++ steps_of before.code left lines (world_of after)

-- With capacity for this many steps before it, these are the steps of the line up to one that is not made.
pub record IsCut (line : Line) (room : ℕ) (before after : Simulation) : Type 0 where
  pub made : List ℕ
  pub are : after ≡ further before made
  pub named : (lines : List Line) → (later : List ℕ) ×
      (steps_of before.code room (line ∷ lines) (world_of before) ≡ made ++ line.thread ∷ later)

-- if a step of a thread was not made, the world is unchanged
abbrev pub HaltsAt : ℕ → ReplayHalt → Simulation → Simulation → List (ℕ × ℕ × Event) → Type 0
HaltsAt t (Stopped reason) before after events =
    (after ≡ before) × StopsFor before t reason × (events ≡ events_of before)
HaltsAt t Refused before after events = Unit {0}

-- if a line was not completed, all its steps before that were made
abbrev pub HaltsIn : Line → ℕ → ReplayHalt → Simulation → Simulation → List (ℕ × ℕ × Event) → Type 0
HaltsIn line room (Stopped reason) before after events =
    IsCut line room before after × StopsFor after line.thread reason × (events ≡ events_of after)
HaltsIn line room Refused before after events = Unit {0}

-- a line whose steps are being made: the rest of its count, and the capacity for this many steps
pub record Going (line : Line) (room count left : ℕ) (before now : Simulation) : Type 0 where
  pub made : List ℕ
  pub are : now ≡ further before made
  pub named : (lines : List Line) → steps_of before.code room (line ∷ lines) (world_of before)
      ≡ made ++ steps_of before.code left (record line { count = count } ∷ lines) (world_of now)

-- a schedule that is being played: the remaining lines, and the capacity for this many steps
pub record HasPlayed (code : Code) (threads : ℕ) (lines : List Line) (room : ℕ) (rest : List Line) (now : Simulation) :
    Type 0 where
  pub made : List ℕ
  pub are : now ≡ simulation_after code threads made
  pub named : steps_of code MOST_STEPS lines (first_world code threads) ≡ made ++ steps_of code room rest (world_of now)

-- where a schedule ends: all its lines were played, or one was cut at a step of its thread that is not made
abbrev pub ComesTo : Code → ℕ → List Line → Option (ℕ × StopReason) → Simulation → Type 0
ComesTo code threads lines None now = (room : ℕ) × HasPlayed code threads lines room [] now
ComesTo code threads lines (Some stop) now =
    (room : ℕ) × (line : Line) × (rest : List Line) × (before : Simulation)
    × HasPlayed code threads lines room (line ∷ rest) before × IsCut line room before now
    × StopsFor now stop.0 stop.1 × (line.thread ≡ stop.0)
