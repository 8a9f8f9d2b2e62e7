-- The meaning of a status for a report that was printed.
use Rattle.std.specs.Prelude.{◌≡◌, ◌⊎◌, ◌++◌, ℕ, List, Option, None}
use Rattle.std.specs.Io.KnownBytes.{Appends}
use Rattle.report.specs.Printed.{Printed, Shown, ThreadShown}
use Rattle.report.specs.Report.{report_text}
use Rattle.serving.specs.Reports.{exit_status}

-- the status reports that a report was written: after the bytes that the writer had, if they are known
abbrev pub PrintsShown : Printed → ℕ → Option (List ℕ) → Option (List ℕ) → Type 0
PrintsShown shown status old new =
    (status ≡ 0) ⊎ (status ≡ 3) → (status ≡ exit_status shown) × Appends old new (report_text shown)

-- the status reports that a report was written after these lines
abbrev pub PrintsBehind : (lines : List ℕ) → Printed → ℕ → Option (List ℕ) → Option (List ℕ) → Type 0
PrintsBehind lines shown status old new =
    (status ≡ 0) ⊎ (status ≡ 3) → (status ≡ exit_status shown) × Appends old new (lines ++ report_text shown)

-- a report that has no events
abbrev pub plain_report : List ThreadShown → List Shown → (holder : Option ℕ) → Printed
plain_report threads globals holder =
    record { events = None; threads = threads; globals = globals; holder = holder }
