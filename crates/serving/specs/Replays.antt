-- Replaying steps of the threads of a source's text.
use Rattle.std.specs.Prelude.{◌≡◌, ◌≤◌, ◌⊎◌, ◌++◌, ◌%◌, ℕ, List, map, Option, None, Some, IfSome}
use Rattle.std.specs.Io.KnownBytes.{Appends}
use Rattle.std.specs.Str.Lines.{lines}
use Rattle.rand_core.specs.Steps.{first_words}
use Rattle.rand_pcg.specs.Pcg.{pcg32}
use Rattle.syntax.specs.Tree.{Program}
use Rattle.syntax.specs.Names.{globals}
use Rattle.syntax.specs.Behaviours.{Memory}
use Rattle.syntax.specs.Threads.{thread}
use Rattle.bytecode.specs.Beginning.{beginning}
use Rattle.bytecode.specs.Code.{Code, effect}
use Rattle.bytecode.specs.Initial.{initial_of}
use Rattle.bytecode.specs.Valid.{bounds_of}
use Rattle.machine.specs.Serializable.{IsOpaque}
use Rattle.world.specs.declared.stop.StopReason.{StopReason}
use Rattle.world.specs.declared.stop.WorldStop.{WorldStop}
use Rattle.world.specs.declared.report.WorldEnd.{WorldEnd}
use Rattle.world.specs.declared.report.WorldEnd.TheVariants as world
use Rattle.world.specs.Reports.{stop_with, threads_shown}
use Rattle.world.specs.Simulations.{IsHolder, Simulation, world_of}
use Rattle.replay.specs.declared.line.Line.{Line}
use Rattle.replay.specs.declared.line.TheConstants.{MOST_STEPS}
use Rattle.replay.specs.Replays.{EndsAt, events_of, first_world, simulation_after, steps_of, timeline_of}
use Rattle.replay.specs.Schedules.{AreLines, counts}
use Rattle.replay.specs.Seeds.{generator_of, one_step}
use Rattle.replay.specs.Turns.{AreLinesOfOrder}
use Rattle.command.specs.declared.request.Steps.{Steps}
use Rattle.command.specs.declared.request.Steps.TheVariants.{Order, Schedule, Seed}
use Rattle.report.specs.Printed.{Event, ThreadShown, Printed}
use Rattle.report.specs.Report.{report_text}
use Rattle.report.specs.Timeline.{timeline_text}
use Rattle.report.specs.declared.printed.End.{End}
use Rattle.report.specs.declared.printed.End.TheVariants as end
use Rattle.states.specs.Shown.{IsOrderAmong}
use Rattle.serving.specs.Codes.{Compiles}
use Rattle.serving.specs.Reports.{exit_status}
use Rattle.serving.specs.Shows.{shown_globals}

-- the lines of a schedule, if its bytes are known
abbrev pub IsSchedule : Option (List ℕ) → List Line → Type 0
IsSchedule schedule found = IfSome schedule (λ text. AreLines (lines text) found)

-- one step for each line; the thread of each is the next 32-bit word of PCG-XSH-RR 64/32, modulo the number of threads
abbrev pub lines_of_seed : (seed threads count : ℕ) → List Line
lines_of_seed seed threads count = map (λ w. one_step (w % threads)) (first_words pcg32 count (generator_of seed))

-- these lines make the turns of an order of this many threads, in no more steps than a replay may make
pub record AreTurnsOf (code : Code) (threads : ℕ) (order : List ℕ) (found : List Line) : Type 0 where
  pub among : IsOrderAmong threads order
  pub few : counts found ≤ MOST_STEPS
  pub lines : AreLinesOfOrder code threads order found

-- the lines that the steps of a replay of this code come from
abbrev pub AreLinesOf : Steps → Code → (threads : ℕ) → (schedule : Option (List ℕ)) → List Line → Type 0
AreLinesOf (Schedule file) code threads schedule found = IsSchedule schedule found
AreLinesOf (Seed seed count) code threads schedule found = found ≡ lines_of_seed seed threads count
AreLinesOf (Order order) code threads schedule found = AreTurnsOf code threads order.items found

-- the status of a thread after a replay
abbrev pub end_after_replay : WorldEnd → End
end_after_replay world.Ended = end.Ended
end_after_replay (world.Trapped k) = end.Trapped k
end_after_replay world.OutOfMemory = end.OutOfMemory
end_after_replay world.SequenceUsedUp = end.SequenceUsedUp
end_after_replay world.Running = end.Running

-- a thread of a world: its status, and what it has printed
abbrev pub thread_found : WorldEnd × List ℕ → ThreadShown
thread_found found = record { end = end_after_replay found.0; text = found.1 }

-- a replay: the events of its steps, the status and output of each thread, the words, and the holder of the lock
abbrev pub replay_shown : Program → List (ℕ × ℕ × Event) → List (WorldEnd × List ℕ) → Memory → (holder : Option ℕ) →
    Printed
replay_shown p events found words holder = record {
  events = Some events;
  threads = map thread_found found;
  globals = shown_globals (globals p) words;
  holder = holder;
}

-- the world that steps have led to, if the next step of a thread may have been refused
abbrev pub world_shown : Program → Option (ℕ × StopReason) → (holder : Option ℕ) → Simulation → Printed
world_shown p stop holder s = replay_shown p (events_of s) (threads_shown stop s) (world_of s).words holder

-- what a report of a replay shows after the events
abbrev pub behind_events : Printed → Printed
behind_events shown = record shown { events = None }

-- The content of a report of a replay: of the steps that the lines name, at most 1,048,576, these were made, up to the
-- first that could not be; runs of the program explain these; and the report shows the world that they lead to.
pub record IsReplayOf (p : Program) (code : Code) (threads : ℕ) (found : List Line) (made : List ℕ)
    (stopped : Option WorldStop) (shown : Printed) : Type 0 where
  pub rest : List ℕ
  pub stop : Option (ℕ × StopReason)
  pub named : steps_of code MOST_STEPS found (first_world code threads) ≡ made ++ rest
  pub ends : EndsAt (simulation_after code threads made) rest stop
  pub explained : IsOpaque (effect code) (beginning code) (thread p) (bounds_of code) (initial_of code) threads made
  pub holder : IsHolder (world_of (simulation_after code threads made)) shown.holder
  pub shows : shown ≡ world_shown p stop shown.holder (simulation_after code threads made)
  pub stopped_is : stopped ≡ stop_with stop (simulation_after code threads made)

-- the status 0 reports that a text spells an accepted program with code, and that a schedule of these lines was written
abbrev pub PrintsSchedule : List Line → (text : List ℕ) → (status : ℕ) → (old new : Option (List ℕ)) → Type 0
PrintsSchedule found text status old new =
    status ≡ 0 → (written : List ℕ) × (code : Code) × Compiles text code × AreLines (lines written) found
    × Appends old new written

-- the status 0 reports that a text spells an accepted program with code, and that a schedule of an order of its threads
-- was written
abbrev pub PrintsOrder : (threads : ℕ) → (order : List ℕ) → (text : List ℕ) → (status : ℕ) →
    (old new : Option (List ℕ)) → Type 0
PrintsOrder threads order text status old new =
    status ≡ 0 → (written : List ℕ) × (code : Code) × (found : List Line) × Compiles text code
    × AreTurnsOf code threads order found × AreLines (lines written) found × Appends old new written

-- the text spells an accepted program, and this is what the report of a replay of its code shows
pub record IsReplayOfText (threads : ℕ) (steps : Steps) (schedule : Option (List ℕ)) (text : List ℕ) (code : Code)
    (made : List ℕ) (stopped : Option WorldStop) (shown : Printed) : Type 0 where
  pub compiled : Compiles text code
  pub found : List Line
  pub lines : AreLinesOf steps code threads schedule found
  pub replay : IsReplayOf compiled.source.program code threads found made stopped shown

-- this is what the report of a replay of all steps shows
pub record Replays (threads : ℕ) (steps : Steps) (schedule : Option (List ℕ)) (text : List ℕ) (shown : Printed) :
    Type 0 where
  pub code : Code
  pub made : List ℕ
  pub replay : IsReplayOfText threads steps schedule text code made None shown

-- these are the lines that show each of all steps, and this is what the report shows
pub record ReplaysShown (threads : ℕ) (steps : Steps) (schedule : Option (List ℕ)) (text lines : List ℕ)
    (shown : Printed) : Type 0 where
  pub code : Code
  pub made : List ℕ
  pub replay : IsReplayOfText threads steps schedule text code made None shown
  pub lines_are : lines ≡ timeline_text code (timeline_of (simulation_after code threads made))

-- the lines and the report of a replay for which this holds
abbrev pub PrintsTimeline : (List ℕ → Printed → Type 0) → ℕ → Option (List ℕ) → Option (List ℕ) → Type 0
PrintsTimeline AreSo status old new = (status ≡ 0) ⊎ (status ≡ 3) →
    (lines : List ℕ) × (shown : Printed) × AreSo lines shown × (status ≡ exit_status shown)
    × Appends old new (lines ++ report_text shown)
