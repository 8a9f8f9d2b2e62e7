-- A report, compared with the outcomes found.
use Rattle.std.specs.Prelude.{◌≡◌, ℕ, Bool, true, false, List, Contains}
use Rattle.refinements.specs.Admitted.{SaysAdmitted, ShowsUnadmitted}
use Rattle.report.specs.OutcomeList.{ReportedOrder}
use Rattle.report.specs.declared.outcome_list.WalkEnd.{WalkEnd}
use Rattle.report.specs.declared.outcome_list.WalkEnd.TheVariants.{Whole}

-- one of these outcomes has it
abbrev pub SaysSoAmong : List ReportedOrder → (name : List ℕ) → (threads : ℕ) → (report written : List ℕ) → Type 0
SaysSoAmong outcomes name threads report written = SaysAdmitted (Contains outcomes) name threads report written

-- these are all outcomes, and none of them has it
abbrev pub ShowsNoneAmong : WalkEnd → List ReportedOrder → (name : List ℕ) → (threads : ℕ) →
    (report written : List ℕ) → Type 0
ShowsNoneAmong end outcomes name threads report written =
    (end ≡ Whole) × ShowsUnadmitted (Contains outcomes) name threads report written

-- it is that of an outcome, and this text is written
abbrev pub SaysSoOf : (is_admitted : Bool) → (text written : List ℕ) → Type 0
SaysSoOf is_admitted text written = (is_admitted ≡ true) × (written ≡ text)

-- all outcomes were found, it is that of none, and this text is written
abbrev pub ShowsNoneOf : WalkEnd → (is_admitted : Bool) → (text written : List ℕ) → Type 0
ShowsNoneOf end is_admitted text written = (is_admitted ≡ false) × (end ≡ Whole) × (written ≡ text)
