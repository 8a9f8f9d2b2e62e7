-- The machine can reach whatever orders show: the same globals, texts and ends.
use Rattle.std.specs.Prelude.{◌≡◌, ℕ, ◌≤◌, ◌<◌, ◌-◌, ◌^◌, List, length, map, None}
use Rattle.syntax.specs.Names.{initial_memory}
use Rattle.syntax.specs.Orders.{in_order}
use Rattle.syntax.specs.Threads.{thread}
use Rattle.syntax.specs.Tree.{Program}
use Rattle.bytecode.specs.Beginning.{beginning}
use Rattle.bytecode.specs.Code.{Code, effect}
use Rattle.bytecode.specs.Effects.{FitsCells}
use Rattle.bytecode.specs.Initial.{initial_of}
use Rattle.bytecode.specs.Valid.{bounds_of}
use Rattle.machine.specs.Drops.{drops}
use Rattle.machine.specs.Worlds.{Reached, new_world}
use Rattle.replay.specs.declared.line.Line.{Line}
use Rattle.replay.specs.declared.line.TheConstants.{MOST_STEPS}
use Rattle.report.specs.Printed.{Printed, ThreadShown}
use Rattle.report.specs.declared.printed.End.{End}
use Rattle.report.specs.declared.printed.End.TheVariants as end
use Rattle.serving.specs.Codes.{IsCodeOf}
use Rattle.serving.specs.Replays.{IsReplayOf, behind_events, world_shown}
use Rattle.serving.specs.Outcomes.{IsOutcomeOf}
use Rattle.report.specs.OutcomeList.{ReportedOrder}
use Rattle.world.specs.Simulations.{IsHolder, world_of}
use Rattle.replay.specs.Replays.{simulation_after}
use Rattle.replay.specs.Schedules.{counts}
use Rattle.replay.specs.Turns.{AreLinesOfOrder}
use Rattle.serving.specs.Shows.{order_shown}
use Rattle.states.specs.Shown.{IsOrderAmong, NoneIsSpent, told_in}

-- a thread that is blocked in an order is running in a replay
abbrev pub waiting : End → End
waiting end.Running = end.Waits
waiting e = e

abbrev pub as_waiting : ThreadShown → ThreadShown
as_waiting t = record t { end = waiting t.end }

-- a replay that made these steps shows what the order does, and leaves the lock free; none of its steps is an abort
pub record ShowsOrder (p : Program) (code : Code) (threads ticks : ℕ) (order made : List ℕ) (shown : Printed) :
    Type 0 where
  pub free : shown.holder ≡ None
  pub threads_are : map as_waiting shown.threads
      ≡ (order_shown p (in_order (thread p) (initial_memory p) threads ticks order)).threads
  pub globals : shown.globals
      ≡ (order_shown p (in_order (thread p) (initial_memory p) threads ticks order)).globals
  pub undropped : (t : ℕ) → drops (effect code) t made (new_world (beginning code) (initial_of code) threads) ≡ 0

-- an order in which no thread of the source runs out of fuel, for threads of a code that means the program
pub record CanBeReplayed (p : Program) (code : Code) (threads ticks : ℕ) (order : List ℕ) : Type 0 where
  pub compiled : IsCodeOf p code
  pub fits : FitsCells (effect code) (bounds_of code)
  pub few : threads ≤ 2 ^ 32
  pub named : IsOrderAmong threads order
  pub unspent : NoneIsSpent (told_in p threads ticks order)
  pub short : length order < 2 ^ 63 - 1

-- A replay of an order's lines, however they are generated, shows the order, if all their steps were made: with any
-- number of ticks with which no thread runs out. Such lines exist, and can be replayed if their steps are few enough.
pub record OrderIsReplayed (p : Program) (code : Code) (threads ticks : ℕ) (order : List ℕ) : Type 0 where
  pub lines : List Line
  pub are : AreLinesOfOrder code threads order lines
  pub can : counts lines ≤ MOST_STEPS →
      (made : List ℕ) × (shown : Printed) × IsReplayOf p code threads lines made None shown
  pub shows : (found : List Line) (made : List ℕ) (shown : Printed) → AreLinesOfOrder code threads order found →
      counts found ≤ MOST_STEPS → IsReplayOf p code threads found made None shown →
      ShowsOrder p code threads ticks order made shown

abbrev pub OrdersAreReplays : Type 0
OrdersAreReplays =
    (p : Program) (code : Code) (threads ticks : ℕ) (order : List ℕ) → CanBeReplayed p code threads ticks order →
    OrderIsReplayed p code threads ticks order

-- The machine can reach each outcome: some list of steps, none of which stops, leads to a world whose report is that of
-- the outcome, word for word.
abbrev pub OutcomesAreDone : Type 0
OutcomesAreDone =
    (p : Program) (code : Code) (threads : ℕ) (o : ReportedOrder) → IsCodeOf p code →
    FitsCells (effect code) (bounds_of code) → threads ≤ 2 ^ 32 → IsOutcomeOf p threads o →
    length o.order < 2 ^ 63 - 1 →
    (made : List ℕ) × Reached (effect code) (beginning code) (initial_of code) threads
    (world_of (simulation_after code threads made))
    × IsHolder (world_of (simulation_after code threads made)) None
    × (behind_events (world_shown p None None (simulation_after code threads made)) ≡ o.shown)
