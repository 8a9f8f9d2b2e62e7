-- Comparing outcomes: with those of another program, with a list, or with a report.
use Rattle.std.specs.Prelude.{◌⊎◌, ◌-◌, ℕ, List, Option, IfSome, string_bytes}
use Rattle.command.specs.declared.request.Against.{Against}
use Rattle.command.specs.declared.request.Against.TheVariants.{Refined, Expected, Admitted}
use Rattle.command.specs.declared.request.Comparison.{Comparison}
use Rattle.command.specs.declared.request.ThreadRange.{ThreadRange}
use Rattle.serving.specs.Admitted.{AdmitsReport, DeniesReport}
use Rattle.serving.specs.Expected.{SaysExpected, ShowsUnexpected}
use Rattle.serving.specs.InTurn.{AreTextsInTurn, SaysInTurn}
use Rattle.serving.specs.Limits.{HasNoCode}
use Rattle.report.specs.declared.outcome_list.WalkEnd.TheVariants.{Whole}
use Rattle.serving.specs.Outcomes.{IsListEnding}
use Rattle.serving.specs.Refines.{SaysRefined, ShowsOther}
use Rattle.serving.specs.Verdicts.{IsEither, Tells}
use Rattle.serving.specs.Written.{WritesPart}

-- the name of the file with which outcomes are compared
abbrev pub name_of : Against → List ℕ
name_of (Refined file) = string_bytes file
name_of (Expected file) = string_bytes file
name_of (Admitted file) = string_bytes file

-- the output reports that this holds of a text and of the content of that file
abbrev pub Confirms : Against → (count : ℕ) → (text other written : List ℕ) → Type 0
Confirms (Refined file) count text other written = SaysRefined (string_bytes file) count text other written
Confirms (Expected file) count text other written = SaysExpected (IsListEnding Whole count text) other written
Confirms (Admitted file) count text other written = AdmitsReport (string_bytes file) count text other written

-- the output shows where it does not hold
abbrev pub Denies : Against → (count : ℕ) → (text other written : List ℕ) → Type 0
Denies (Refined file) count text other written = ShowsOther (string_bytes file) count text other written
Denies (Expected file) count text other written = ShowsUnexpected (IsListEnding Whole count text) other written
Denies (Admitted file) count text other written = DeniesReport (string_bytes file) count text other written

-- how many numbers of threads follow the first: none if a list or a report is compared, which is of one number
abbrev pub more_compared : Against → ThreadRange → ℕ
more_compared (Refined file) range = range.last - range.first
more_compared (Expected file) range = 0
more_compared (Admitted file) range = 0

-- a verdict for each number of threads in turn
abbrev pub TellsInTurn : Against → ThreadRange → (text other : List ℕ) → (status : ℕ) → (old new : Option (List ℕ)) →
    Type 0
TellsInTurn against range text other status old new =
    SaysInTurn (λ n s o w. Tells (Confirms against n text other) (Denies against n text other) s o w)
    (more_compared against range) range.first status old new

-- what is written for them
abbrev pub AreEitherInTurn : Against → ThreadRange → (text other written : List ℕ) → Type 0
AreEitherInTurn against range text other written =
    AreTextsInTurn (λ n told. IsEither (Confirms against n text other) (Denies against n text other) told)
    (more_compared against range) range.first written

-- a comparison, if these bytes are those of the source and of the other file
abbrev pub ComparesOutcomes : Comparison → (other : Option (List ℕ)) → (text : List ℕ) → (status : ℕ) →
    (old new : Option (List ℕ)) → Type 0
ComparesOutcomes c other text status old new = IfSome other
    (λ bytes. TellsInTurn c.against c.threads text bytes status old new)

-- what is written for it, for any exit status
abbrev pub WritesComparison : Comparison → (other : Option (List ℕ)) → (text : List ℕ) →
    (old new : Option (List ℕ)) → Type 0
WritesComparison c other text old new = IfSome other
    (λ bytes. WritesPart (AreEitherInTurn c.against c.threads text bytes) old new)

-- why it is refused: the source has no code, or the other program has none
abbrev pub HaveNoCode : Against → (other : Option (List ℕ)) → (text : List ℕ) → Type 0
HaveNoCode (Refined file) other text = HasNoCode text ⊎ IfSome other (λ bytes. HasNoCode bytes)
HaveNoCode (Expected file) other text = HasNoCode text
HaveNoCode (Admitted file) other text = HasNoCode text
