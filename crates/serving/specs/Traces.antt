-- Showing an order turn by turn.
use Rattle.std.specs.Prelude.{◌≡◌, ◌⊎◌, ℕ, List, Option, None}
use Rattle.std.specs.Io.KnownBytes.{Appends}
use Rattle.bytecode.specs.Code.{Code}
use Rattle.world.specs.declared.stop.WorldStop.{WorldStop}
use Rattle.replay.specs.declared.line.Line.{Line}
use Rattle.report.specs.Printed.{Printed}
use Rattle.serving.specs.Codes.{Compiles}
use Rattle.serving.specs.Replays.{AreTurnsOf, IsReplayOf}
use Rattle.serving.specs.Reports.{exit_status}

-- the text spells an accepted program, and this is what the report of a replay of an order of its threads shows
pub record IsOrderTraced (threads : ℕ) (order : List ℕ) (text : List ℕ) (stopped : Option WorldStop) (shown : Printed) :
    Type 0 where
  pub code : Code
  pub made : List ℕ
  pub compiled : Compiles text code
  pub found : List Line
  pub lines : AreTurnsOf code threads order found
  pub replay : IsReplayOf compiled.source.program code threads found made stopped shown

-- this is what the report of the order shows; nothing is said of the text
abbrev pub TracesOrder : (threads : ℕ) → (order text : List ℕ) → (written : List ℕ) → Printed → Type 0
TracesOrder threads order text written shown = IsOrderTraced threads order text None shown

-- the trace of an order that could be replayed; nothing else is said of it
abbrev pub IsOrderTrace : (threads : ℕ) → (order text : List ℕ) → (written : List ℕ) → Type 0
IsOrderTrace threads order text written =
    (stopped : Option WorldStop) × (shown : Printed) × IsOrderTraced threads order text stopped shown

-- the trace of an order for which this holds, and the status that its report would have
abbrev pub PrintsTrace : (List ℕ → Printed → Type 0) → ℕ → Option (List ℕ) → Option (List ℕ) → Type 0
PrintsTrace AreSo status old new = (status ≡ 0) ⊎ (status ≡ 3) →
    (written : List ℕ) × (shown : Printed) × AreSo written shown × (status ≡ exit_status shown)
    × Appends old new written
