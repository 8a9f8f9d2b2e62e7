-- The current state of a thread, and its continuation.
use Rattle.std.specs.Prelude.{◌≡◌, List, [], ◌++◌, Option, Some, None}
use Rattle.syntax.specs.declared.thread_end.Halt.{Halt}
use Rattle.syntax.specs.Behaviours.{Memory, Outcome, ThreadEnd, Ended, Stopped}
use Rattle.syntax.specs.Actions.{Outside, State, Answer, Gives, Stops, go_on, tick}
use Rattle.syntax.specs.Threads.{outcome_of}
use Rattle.meaning.specs.Outcomes.{memories_in}
use Rattle.meaning.specs.declared.standing.Point.{Point}
use Rattle.meaning.specs.declared.standing.Observed.{Observed}
use Rattle.meaning.specs.declared.standing.StandingThread.{StandingThread}
use Rattle.meaning.specs.declared.standing.StoppedThread.{StoppedThread}
use Rattle.meaning.specs.declared.standing.Gone.{Gone}
use Rattle.meaning.specs.declared.standing.Gone.TheVariants as gone
use Rattle.program_tables.specs.declared.program.ProgramTables.{ProgramTables}
use Rattle.meaning.specs.inner.SourceThread.{completion_of, items_in}
use Rattle.meaning.specs.Frames.{StateExtension, extended_state}
use Rattle.meaning.specs.inner.Going.{Follow}
use Rattle.meaning.specs.inner.Left.{follow_of, left_gone_on}

-- the end of a thread that goes no further, if it has not terminated
abbrev pub end_by : Option Halt → ThreadEnd
end_by None = Ended
end_by (Some why) = Stopped why

module _ {A : Type 0} where
  -- a state at a point with these memories left and this text printed, and one with none
  abbrev pub state_at : Point A → Observed A → State
  state_at at shown = record {
    ticks = at.ticks;
    locals = items_in at.locals;
    context = Outside (memories_in at.due.items) (memories_in shown.lefts.items);
    text = shown.text.items;
  }

  abbrev pub bare : Point A → State
  bare at = record {
    ticks = at.ticks;
    locals = items_in at.locals;
    context = Outside (memories_in at.due.items) [];
    text = [];
  }

  abbrev pub frame_of : List Memory → Observed A → StateExtension
  frame_of founds shown = record { founds = founds; lefts = memories_in shown.lefts.items; text = shown.text.items }

  -- the result of a step is this answer
  abbrev pub IsGone : ProgramTables A → Gone A → Answer Follow → Type 0
  IsGone source (gone.Went next at shown) r = r ≡ Gives (follow_of source next) (state_at at shown)
  IsGone source (gone.Stopped why shown) r =
      (s : State) × (founds : List Memory) × (r ≡ Stops why s)
      × (s.context ≡ Outside founds (memories_in shown.lefts.items)) × (s.text ≡ shown.text.items)

  -- the rest of a thread's run if it finds these memories too, up to the tick of its end
  abbrev pub rest : ProgramTables A → StandingThread A → List Memory → Answer (Unit {0})
  rest source thread founds =
      go_on (left_gone_on source thread.left.items (completion_of thread.end)
      (extended_state (frame_of founds thread.shown) (bare thread.at)))
      (λ _. tick)

  -- the observables of a thread that goes no further
  abbrev pub seen_of : StandingThread A → StoppedThread A → Outcome
  seen_of thread stop = record {
    lefts = memories_in thread.shown.lefts.items ++ memories_in stop.shown.lefts.items;
    text = thread.shown.text.items ++ stop.shown.text.items;
    end = end_by stop.why;
  }

  -- this is how a thread goes no further
  abbrev pub IsStop : ProgramTables A → StandingThread A → StoppedThread A → Type 0
  IsStop source thread stop = outcome_of (rest source thread []) ≡ seen_of thread stop
