-- Whether a report is that of an outcome of a source's text.
use Rattle.std.specs.Prelude.{ℕ, List}
use Rattle.refinements.specs.Admitted.{SaysAdmitted, ShowsUnadmitted}
use Rattle.serving.specs.Outcomes.{IsOutcomeOf}
use Rattle.serving.specs.Spelled.{IsTextOfProgram}

-- an outcome of so many threads has the report in the file of this name, and the output shows its order
abbrev pub AdmitsReport : (name : List ℕ) → (count : ℕ) → (text report written : List ℕ) → Type 0
AdmitsReport name count text report written =
    IsTextOfProgram text (λ p. SaysAdmitted (IsOutcomeOf p count) name count report written)

-- no outcome has it, and the output shows where it differs from the nearest one, or that there are no outcomes
abbrev pub DeniesReport : (name : List ℕ) → (count : ℕ) → (text report written : List ℕ) → Type 0
DeniesReport name count text report written =
    IsTextOfProgram text (λ p. ShowsUnadmitted (IsOutcomeOf p count) name count report written)
