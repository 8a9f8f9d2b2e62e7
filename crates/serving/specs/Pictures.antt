-- Drawing the steps of a replay.
use Rattle.std.specs.Prelude.{◌≡◌, ◌⊎◌, ℕ, List, Option, None}
use Rattle.std.specs.Io.KnownBytes.{Appends}
use Rattle.bytecode.specs.Code.{Code}
use Rattle.picture.specs.Replayed.{IsDrawn}
use Rattle.replay.specs.Replays.{simulation_after, timeline_of}
use Rattle.report.specs.Printed.{Printed}
use Rattle.command.specs.declared.request.Steps.{Steps}
use Rattle.serving.specs.Replays.{IsReplayOfText}
use Rattle.serving.specs.Reports.{exit_status}

-- this is a picture of steps from an access on, a glyph for each that has one, in order, titled by its line of the
-- timeline; and this is what a report of all steps would show
pub record ReplaysDrawn (threads from : ℕ) (steps : Steps) (schedule : Option (List ℕ)) (text svg : List ℕ)
    (shown : Printed) : Type 0 where
  pub code : Code
  pub made : List ℕ
  pub replay : IsReplayOfText threads steps schedule text code made None shown
  pub drawn : IsDrawn text from code (timeline_of (simulation_after code threads made)) svg

-- the picture of a replay for which this holds, and the status that its report would have
abbrev pub PrintsPicture : (List ℕ → Printed → Type 0) → ℕ → Option (List ℕ) → Option (List ℕ) → Type 0
PrintsPicture AreSo status old new = (status ≡ 0) ⊎ (status ≡ 3) →
    (svg : List ℕ) × (shown : Printed) × AreSo svg shown × (status ≡ exit_status shown) × Appends old new svg
