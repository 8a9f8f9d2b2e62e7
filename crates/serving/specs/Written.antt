-- The output for a request, for any exit status: nothing, all that is requested, or a prefix of it.
use Rattle.std.specs.Prelude.{◌≡◌, ◌⊎◌, ◌++◌, ℕ, List, Option, codes, take}
use Rattle.std.specs.Io.KnownBytes.{Appends}
use Rattle.std.specs.Str.Lines.{lines}
use Rattle.bytecode.specs.Code.{Code}
use Rattle.world.specs.declared.stop.WorldStop.{WorldStop}
use Rattle.replay.specs.declared.line.Line.{Line}
use Rattle.replay.specs.Replays.{simulation_after, timeline_of}
use Rattle.replay.specs.Schedules.{AreLines}
use Rattle.report.specs.Printed.{Printed}
use Rattle.report.specs.Report.{report_text}
use Rattle.report.specs.Timeline.{timeline_text}
use Rattle.picture.specs.Replayed.{IsDrawn}
use Rattle.command.specs.declared.request.Steps.{Steps}
use Rattle.command.specs.declared.request.Task.{Task}
use Rattle.command.specs.declared.request.Task.TheVariants.{Check, Listing, Run, Replay, Timeline, Picture}
use Rattle.command.specs.declared.request.Task.TheVariants.{PrintOrder, PrintSchedule, Source, Trace, Explore, Outcomes}
use Rattle.serving.specs.Checks.{Accepts}
use Rattle.serving.specs.Codes.{Compiles}
use Rattle.serving.specs.Listings.{ShowsListing}
use Rattle.serving.specs.InTurn.{AreTextsOfRange}
use Rattle.serving.specs.Outcomes.{IsListOfOutcomes}
use Rattle.serving.specs.Orders.{RunsInOrder}
use Rattle.serving.specs.Replays.{AreTurnsOf, IsReplayOfText, lines_of_seed}
use Rattle.serving.specs.Runs.{RunsConcurrently}
use Rattle.serving.specs.Explored.{IsPageOf}
use Rattle.serving.specs.Traces.{IsOrderTrace}

-- a report for which this holds
abbrev pub IsReportOf : (Printed → Type 0) → List ℕ → Type 0
IsReportOf IsSo written = (shown : Printed) × IsSo shown × (written ≡ report_text shown)

-- a replay of these steps, up to the first that was not made
pub record ReplayedTo (threads : ℕ) (steps : Steps) (schedule : Option (List ℕ)) (text : List ℕ) : Type 0 where
  pub code : Code
  pub made : List ℕ
  pub stopped : Option WorldStop
  pub shown : Printed
  pub replay : IsReplayOfText threads steps schedule text code made stopped shown

-- the report of a replay
abbrev pub IsReplayReport : ℕ → Steps → Option (List ℕ) → (text : List ℕ) → (written : List ℕ) → Type 0
IsReplayReport threads steps schedule text written =
    (r : ReplayedTo threads steps schedule text) × (written ≡ report_text r.shown)

-- the timeline of a replay: a line for each of its steps, and then the report
abbrev pub IsReplayTimeline : ℕ → Steps → Option (List ℕ) → (text : List ℕ) → (written : List ℕ) → Type 0
IsReplayTimeline threads steps schedule text written = (r : ReplayedTo threads steps schedule text)
    × (written ≡ timeline_text r.code (timeline_of (simulation_after r.code threads r.made)) ++ report_text r.shown)

-- the picture of a replay, from an access on
abbrev pub IsReplayPicture : (threads from : ℕ) → Steps → Option (List ℕ) → (text : List ℕ) → (written : List ℕ) →
    Type 0
IsReplayPicture threads from steps schedule text written = (r : ReplayedTo threads steps schedule text)
    × IsDrawn text from r.code (timeline_of (simulation_after r.code threads r.made)) written

-- a schedule of the steps of a seed, for a text that has code
abbrev pub IsSeedSchedule : (seed threads count : ℕ) → (text : List ℕ) → (written : List ℕ) → Type 0
IsSeedSchedule seed threads count text written =
    (code : Code) × Compiles text code × AreLines (lines written) (lines_of_seed seed threads count)

-- a schedule of an order, for a text that has code
abbrev pub IsOrderSchedule : (threads : ℕ) → (order : List ℕ) → (text : List ℕ) → (written : List ℕ) → Type 0
IsOrderSchedule threads order text written =
    (code : Code) × (found : List Line) × Compiles text code × AreTurnsOf code threads order found
    × AreLines (lines written) found

-- the output that a task requests
abbrev pub IsAskedFor : Task → (schedule : Option (List ℕ)) → (text : List ℕ) → (written : List ℕ) → Type 0
IsAskedFor (Check told) schedule text written = Accepts text × (written ≡ codes "accepted\n")
IsAskedFor Listing schedule text written = ShowsListing text written
IsAskedFor (Run threads budget counts memory) schedule text written = IsReportOf (RunsConcurrently threads budget text) written
IsAskedFor (Replay threads steps) schedule text written = IsReplayReport threads steps schedule text written
IsAskedFor (Timeline threads steps) schedule text written = IsReplayTimeline threads steps schedule text written
IsAskedFor (Picture threads from steps) schedule text written =
    IsReplayPicture threads from steps schedule text written
IsAskedFor (PrintSchedule threads seed count) schedule text written = IsSeedSchedule seed threads count text written
IsAskedFor (PrintOrder threads order) schedule text written = IsOrderSchedule threads order.items text written
IsAskedFor (Source threads order ticks) schedule text written =
    IsReportOf (λ shown. RunsInOrder threads ticks order.items text shown × Accepts text) written
IsAskedFor (Trace threads order property in_full) schedule text written = IsOrderTrace threads order.items text written
IsAskedFor (Explore threads order always) schedule text written = IsPageOf threads order.items text written
IsAskedFor (Outcomes threads steps limit memory time traces) schedule text written =
    AreTextsOfRange (λ n list. IsListOfOutcomes n text list) threads written

-- a text is written, or a prefix of it
abbrev pub AppendsBeginning : Option (List ℕ) → Option (List ℕ) → List ℕ → Type 0
AppendsBeginning old new text = (count : ℕ) × Appends old new (take count text)

-- nothing is written, or a text for which this holds, or a prefix of one
abbrev pub WritesPart : (List ℕ → Type 0) → Option (List ℕ) → Option (List ℕ) → Type 0
WritesPart IsSo old new = (new ≡ old) ⊎ ((text : List ℕ) × IsSo text × AppendsBeginning old new text)
