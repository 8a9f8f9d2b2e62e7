-- The outcome that is closest to a report.
use Rattle.std.specs.Prelude.{◌≡◌, ℕ, List, [], All, Contains}
use Rattle.report.specs.OutcomeList.{ReportedOrder}
use Rattle.report.specs.Views.{reported_of}
use Rattle.refinements.specs.Admitted.{DiffersAt, DiffersBy, HasReport}
use Rattle.refinements.specs.declared.admitted.Closest.{Closest}
use Rattle.refinements.specs.declared.admitted.Closest.TheVariants.{Has, Differs, Nothing}

-- one of these outcomes has the report; or none has it, and each differs from it in the line of this one or an earlier
-- one; or there are none
abbrev pub IsClosest : {A : Type 0} → List ReportedOrder → (report : List ℕ) → Closest A → Type 0
IsClosest os report (Has one) = Contains os (reported_of one.now) × HasReport report (reported_of one.now)
IsClosest os report (Differs one at) = Contains os (reported_of one.now)
    × DiffersAt report (reported_of one.now) at × All (DiffersBy report at) os
IsClosest os report Nothing = os ≡ []
