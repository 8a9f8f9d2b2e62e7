-- The steps that the lines of a schedule name, and their events.
use Rattle.std.specs.Prelude.{◌≡◌, ◌+◌, ◌-◌, ◌==◌, ℕ, zero, suc, Bool, true, false, List, [], ◌∷◌, ◌++◌, Option, None}
use Rattle.std.specs.Prelude.{Some, if◌then◌else◌}
use Rattle.std.specs.List.{slice_get}
use Rattle.syntax.specs.declared.thread_end.Status.{Status}
use Rattle.syntax.specs.declared.thread_end.Status.TheVariants.{Running, Ended as HasEnded, Trapped as HasTrapped}
use Rattle.bytecode.specs.Code.{Code, Configuration, effect}
use Rattle.machine.specs.declared.event.Event.{Event}
use Rattle.machine.specs.declared.event.Event.TheVariants as event
use Rattle.machine.specs.declared.event.StepShown.{StepShown}
use Rattle.machine.specs.Worlds.{Part, World, step}
use Rattle.replay.specs.declared.line.Line.{Line}
use Rattle.replay.specs.declared.line.TheConstants.{MOST_STEPS}
use Rattle.world.specs.declared.report.Report.{Report}
use Rattle.world.specs.declared.stop.StopReason.{StopReason}
use Rattle.world.specs.Reports.{stop_with, threads_of, threads_shown}
use Rattle.world.specs.Simulations.{IsExplained, IsHolder, Simulation, cost_next, event_next, shown_next, world_of}
use Rattle.world.specs.Stops.{StopsFor}

abbrev pub is_over_by : Status → Bool
is_over_by Running = false
is_over_by HasEnded = true
is_over_by (HasTrapped cause) = true

-- there is a thread, and it has terminated or trapped
abbrev pub is_over : Option (Part Configuration) → Bool
is_over None = false
is_over (Some p) = is_over_by p.thread.status

-- the line counts accesses, and its thread has terminated
abbrev pub is_cut_off : World Configuration → Line → Bool
is_cut_off w l = if l.accesses then is_over (slice_get w.parts l.thread) else false

-- the line is done: its count is reached, or it is cut off
abbrev pub is_done : World Configuration → Line → Bool
is_done w l = if l.count == 0 then true else is_cut_off w l

-- the remaining lines: those that are done are skipped
abbrev pub lines_left : World Configuration → List Line → List Line
lines_left w [] = []
lines_left w (l ∷ ls) = if is_done w l then lines_left w ls else l ∷ ls

-- the rest of a line after a step of its thread
abbrev pub line_after : Code → World Configuration → Line → Line
line_after code w l =
    record l { count = l.count - (if l.accesses then cost_next code (slice_get w.parts l.thread) else 1) }

-- a step of the first of these lines, and then the steps that the rest name
abbrev pub steps_with : Code → (List Line → World Configuration → List ℕ) → List Line → World Configuration → List ℕ
steps_with code rest [] w = []
steps_with code rest (l ∷ ls) w = l.thread ∷ rest (line_after code w l ∷ ls) (step (effect code) w l.thread)

-- The steps that the lines name from a world on, at most this many.
unfoldable pub steps_of : Code → ℕ → List Line → World Configuration → List ℕ
steps_of code zero ls w = []
steps_of code (suc n) ls w = steps_with code (steps_of code n) (lines_left w ls) w

abbrev pub is_quiet : Event → Bool
is_quiet event.Quiet = true
is_quiet event.Commit = false
is_quiet event.Abort = false
is_quiet event.Cancel = false
is_quiet (event.Trap cause) = false

-- one event, if it is reported: with the accesses that all threads had made, and the thread
abbrev pub shown_event : ℕ → ℕ → Event → List (ℕ × ℕ × Event)
shown_event accesses t e = if is_quiet e then [] else (accesses, t, e) ∷ []

-- the events of these steps from a world on, after this many accesses
abbrev pub events_in : Code → List ℕ → World Configuration → ℕ → List (ℕ × ℕ × Event)
events_in code [] w n = []
events_in code (t ∷ ts) w n =
    shown_event (n + cost_next code (slice_get w.parts t)) t (event_next code w (slice_get w.parts t))
    ++ events_in code ts (step (effect code) w t) (n + cost_next code (slice_get w.parts t))

-- the world after these steps
abbrev pub simulation_after : Code → ℕ → List ℕ → Simulation
simulation_after code threads made = record { code = code; threads = threads; trace = made }

abbrev pub first_world : Code → ℕ → World Configuration
first_world code threads = world_of (simulation_after code threads [])

abbrev pub events_of : Simulation → List (ℕ × ℕ × Event)
events_of s = events_in s.code s.trace (first_world s.code s.threads) 0

-- the display of one step, with the accesses that all threads had made, and the thread
abbrev pub step_shown : ℕ → ℕ → Option StepShown → List (ℕ × ℕ × StepShown)
step_shown accesses t None = []
step_shown accesses t (Some x) = (accesses, t, x) ∷ []

-- the display of these steps from a world on, after this many accesses
abbrev pub shown_in : Code → List ℕ → World Configuration → ℕ → List (ℕ × ℕ × StepShown)
shown_in code [] w n = []
shown_in code (t ∷ ts) w n =
    step_shown (n + cost_next code (slice_get w.parts t)) t (shown_next code w (slice_get w.parts t))
    ++ shown_in code ts (step (effect code) w t) (n + cost_next code (slice_get w.parts t))

-- the display of all steps of a world
abbrev pub timeline_of : Simulation → List (ℕ × ℕ × StepShown)
timeline_of s = shown_in s.code s.trace (first_world s.code s.threads) 0

-- All steps that the schedule names were made, or the first of the rest could not be made.
abbrev pub EndsAt : Simulation → List ℕ → Option (ℕ × StopReason) → Type 0
EndsAt s rest None = rest ≡ []
EndsAt s rest (Some stop) = ((later : List ℕ) × (rest ≡ stop.0 ∷ later)) × StopsFor s stop.0 stop.1

-- The report of a replay: the steps that the lines name were made in order, up to the limit or to the first that could
-- not be made; and the events, threads and words are those of the world that they lead to.
pub record IsReplay {A : Type 0} (code : Code) (threads : ℕ) (lines : List Line) (r : Report A) : Type 0 where
  pub made : List ℕ
  pub rest : List ℕ
  pub stop : Option (ℕ × StopReason)
  pub named : steps_of code MOST_STEPS lines (first_world code threads) ≡ made ++ rest
  pub ends : EndsAt (simulation_after code threads made) rest stop
  pub made_is : r.trace.items ≡ made
  pub explained : IsExplained (simulation_after code threads made)
  pub events : r.events.items ≡ events_of (simulation_after code threads made)
  pub threads_are : threads_of r.threads.items ≡ threads_shown stop (simulation_after code threads made)
  pub words : r.words.items ≡ (world_of (simulation_after code threads made)).words
  pub holder : IsHolder (world_of (simulation_after code threads made)) r.holder
  pub stop_is : r.stop ≡ stop_with stop (simulation_after code threads made)
