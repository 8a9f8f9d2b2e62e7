-- Theorems about reports, relating them to the machine and to the source, and about refusals.
use Rattle.std.specs.Prelude.{◌≡◌, ◌≤◌, ◌%◌, ◌^◌, ℕ, List, ◌∷◌, Option, None, Contains, is_some, false, true}
use Rattle.syntax.specs.Grammar.{ParsedSource, deepest_program, source_depth}
use Rattle.syntax.specs.Names.{initial_memory}
use Rattle.syntax.specs.Tree.{Program}
use Rattle.bytecode.specs.Beginning.{beginning}
use Rattle.bytecode.specs.Code.{Code, effect}
use Rattle.bytecode.specs.Valid.{IsValid}
use Rattle.machine.specs.Serializable.{world_after}
use Rattle.shared_words.specs.Rule.{IsRuled}
use Rattle.shared_words.specs.Setup.{Setup}
use Rattle.shared_words.specs.Views.{Views}
use Rattle.world.specs.declared.stop.WorldStop.{WorldStop}
use Rattle.replay.specs.declared.line.Line.{Line}
use Rattle.command.specs.declared.request.Steps.{Steps}
use Rattle.report.specs.Printed.{Printed}
use Rattle.report.specs.OutcomeList.{ReportedOrder, reports}
use Rattle.lower.specs.Answers.{span_of}
use Rattle.lower.specs.declared.fault.LowerFault.{LowerFault}
use Rattle.refinements.specs.ShownBy.{IsShownBy}
use Rattle.serving.specs.Checks.{Accepts, IsSourceOf}
use Rattle.serving.specs.Codes.{IsCodeOf}
use Rattle.serving.specs.Limits.{HasNoCode, PassesLimit}
use Rattle.serving.specs.Refusals.{IsRefused}
use Rattle.serving.specs.Reports.{has_stopped}
use Rattle.serving.specs.Orders.{IsOrderOf, LeavesSomeOrder, RunsInSomeOrder}
use Rattle.serving.specs.Outcomes.{AreAllOutcomes, IsOutcomeOf}
use Rattle.serving.specs.Properties.{AlwaysHolds, HoldsAtLast, HoldsOf}
use Rattle.serving.specs.Refines.{Refines}
use Rattle.states.specs.Shown.{memory_in}
use Rattle.serving.specs.Runs.{IsConcurrentRun, RunsConcurrently}
use Rattle.serving.specs.Replays.{IsReplayOf, Replays, behind_events}

-- a run of all threads shows what they show in some order, if each of them has ended or trapped
abbrev pub ConcurrentRunsAreOrders : Type 0
ConcurrentRunsAreOrders =
    (threads budget : ℕ) (text : List ℕ) (shown : Printed) → RunsConcurrently threads budget text shown →
    has_stopped shown ≡ false → RunsInSomeOrder threads text shown

-- a replay shows after its events what its threads show in some order, if each of them has ended or trapped
abbrev pub ReplaysAreOrders : Type 0
ReplaysAreOrders =
    (threads : ℕ) (steps : Steps) (schedule : Option (List ℕ)) (text : List ℕ) (shown : Printed) →
    Replays threads steps schedule text shown → has_stopped shown ≡ false →
    RunsInSomeOrder threads text (behind_events shown)

-- a replay that leaves the lock free, though threads may still run, leaves what some order leaves
abbrev pub ReplaysLeaveOrders : Type 0
ReplaysLeaveOrders =
    (p : Program) (code : Code) (threads : ℕ) (found : List Line) (made : List ℕ) (stopped : Option WorldStop)
    (shown : Printed) → IsCodeOf p code → IsReplayOf p code threads found made stopped shown →
    shown.holder ≡ None → LeavesSomeOrder p threads shown

-- a run of all threads at once that leaves the lock free, though threads may still run, leaves what some order leaves
abbrev pub ConcurrentRunsLeaveOrders : Type 0
ConcurrentRunsLeaveOrders =
    (p : Program) (code : Code) (threads budget : ℕ) (shown : Printed) → IsCodeOf p code →
    IsConcurrentRun p code threads budget shown → shown.holder ≡ None → LeavesSomeOrder p threads shown

-- the list of all outcomes has what threads show in some order, with some number of ticks, if each of them has ended or
-- trapped
abbrev pub OrdersAreListed : Type 0
OrdersAreListed =
    (threads : ℕ) (text : List ℕ) (outcomes : List ReportedOrder) (shown : Printed) →
    AreAllOutcomes threads text outcomes → RunsInSomeOrder threads text shown → has_stopped shown ≡ false →
    Contains (reports outcomes) shown

-- an invariant of a program holds of the words of every world that steps of the machine lead to in which the lock is
-- free
abbrev pub PropertiesHoldInWorlds : Type 0
PropertiesHoldInWorlds =
    (p : Program) (code : Code) (threads : ℕ) (steps x : List ℕ) → IsValid code → IsCodeOf p code → threads ≤ 2 ^ 32 →
    AlwaysHolds p threads x →
    (world_after (effect code) (beginning code) (initial_memory p) threads steps).lock % 2 ≡ 0 →
    HoldsOf p x (world_after (effect code) (beginning code) (initial_memory p) threads steps).words

-- and of the words that real threads share, whenever the lock is free
abbrev pub PropertiesHoldOfSharedWords : Type 0
PropertiesHoldOfSharedWords =
    (p : Program) (key : Setup) (lock : ℕ) (words x : List ℕ) (views : Views) → IsCodeOf p key.code →
    key.threads ≤ 2 ^ 32 → AlwaysHolds p key.threads x → IsRuled key (lock ∷ words) views → lock % 2 ≡ 0 →
    HoldsOf p x words

-- the report of an order shows this, and this holds of the memory that the order leaves
abbrev pub HoldsInReport : Program → (threads : ℕ) → (name : List ℕ) → Printed → Type 0
HoldsInReport p threads x shown = (ticks : ℕ) × (order : List ℕ) × IsOrderOf p threads ticks order shown
    × HoldsOf p x (memory_in p threads ticks order)

-- a property that holds once all threads have terminated holds in each report in which each has ended or trapped
abbrev pub PropertiesHoldInReports : Type 0
PropertiesHoldInReports =
    (threads : ℕ) (text x : List ℕ) (source : ParsedSource) (shown : Printed) → IsSourceOf text source →
    HoldsAtLast source.program threads x → RunsInSomeOrder threads text shown → has_stopped shown ≡ false →
    HoldsInReport source.program threads x shown

-- each report of a program that refines another, in which each thread has ended or trapped, is shown by an outcome of
-- the other
abbrev pub RefinedReportsAreOutcomes : Type 0
RefinedReportsAreOutcomes =
    (threads : ℕ) (text : List ℕ) (this : ParsedSource) (that : Program) (shown : Printed) → IsSourceOf text this →
    Refines this.program that threads → RunsInSomeOrder threads text shown → has_stopped shown ≡ false →
    (u : ReportedOrder) × IsOutcomeOf that threads u × IsShownBy shown u.shown

-- an accepted program within the depth is not refused
abbrev pub AcceptedAreNotRefused : Type 0
AcceptedAreNotRefused = (text : List ℕ) (is : Accepts text) → source_depth is.source ≤ deepest_program →
    IsRefused text → ⊥

-- if an accepted program within the depth has no code, it exceeds a limit of code at a position
abbrev pub AcceptedPassLimits : Type 0
AcceptedPassLimits = (text : List ℕ) (is : Accepts text) → source_depth is.source ≤ deepest_program →
    HasNoCode text → (fault : LowerFault) × PassesLimit text fault × (is_some (span_of fault) ≡ true)
