-- The meaning of an exit status for a report that was printed.
use Rattle.std.specs.Prelude.{◌≡◌, ◌⊎◌, ℕ, Bool, true, false, List, Option, if◌then◌else◌}
use Rattle.std.specs.List.{list_any}
use Rattle.std.specs.Io.KnownBytes.{Appends}
use Rattle.report.specs.Printed.{ThreadShown, Printed}
use Rattle.report.specs.declared.printed.End.{End}
use Rattle.report.specs.declared.printed.End.TheVariants as end
use Rattle.report.specs.Report.{report_text}

-- whether a thread has trapped, and whether it has neither terminated nor trapped
abbrev pub is_trapped : End → Bool
is_trapped (end.Trapped k) = true
is_trapped _ = false

abbrev pub is_stopped : End → Bool
is_stopped end.Ended = false
is_stopped (end.Trapped k) = false
is_stopped _ = true

-- whether a thread is out of fuel
abbrev pub is_spent : End → Bool
is_spent end.Spent = true
is_spent _ = false

-- some thread has trapped, some thread has neither terminated nor trapped, and some thread is out of fuel
abbrev pub has_trapped : Printed → Bool
has_trapped shown = list_any (λ (t : ThreadShown). is_trapped t.end) shown.threads

abbrev pub has_stopped : Printed → Bool
has_stopped shown = list_any (λ (t : ThreadShown). is_stopped t.end) shown.threads

abbrev pub has_spent : Printed → Bool
has_spent shown = list_any (λ (t : ThreadShown). is_spent t.end) shown.threads

-- the exit status if a report was printed: by the ends of its threads
abbrev pub exit_status : Printed → ℕ
exit_status shown = if has_stopped shown then 4 else if has_trapped shown then 3 else 0

-- the status reports that a report for which this holds was printed: after the bytes that the writer had, if they are
-- known
abbrev pub PrintsReport : (Printed → Type 0) → ℕ → Option (List ℕ) → Option (List ℕ) → Type 0
PrintsReport IsSo status old new = (status ≡ 0) ⊎ (status ≡ 3) →
    (shown : Printed) × IsSo shown × (status ≡ exit_status shown) × Appends old new (report_text shown)
