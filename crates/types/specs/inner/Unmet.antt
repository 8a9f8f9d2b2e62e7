-- The first demand that is not met, as private checks report it.
use Rattle.std.specs.Prelude.{◌≡◌, ℕ, List, Option, Some, None, Result, Ok, Err}
use Rattle.syntax.specs.Tree.{Span}
use Rattle.syntax.specs.Typing.{Demand, first_unmet}
use Rattle.syntax.specs.declared.violation.Violation.{Violation}
use Rattle.types.specs.declared.fault.TypeFailure.{TypeFailure}
use Rattle.types.specs.declared.fault.TypeFailure.TheVariants.{OutOfMemory, Violation as Breaks}
use Rattle.syntax.specs.Violations.{told_of}

-- the number and span of the demand that is not met, as the check reports them
abbrev pub unmet_in : {X : Type 0} → Result X Violation → Option (ℕ × Span)
unmet_in (Ok x) = None
unmet_in (Err fault) = Some (told_of fault)

-- a check reports this violation, the first one, or that there is none; nothing is claimed on allocation failure
abbrev pub Tells : {X : Type 0} → Result X TypeFailure → Option (ℕ × Span) → Type 0
Tells (Ok x) first = None ≡ first
Tells (Err OutOfMemory) first = Unit {0}
Tells (Err (Breaks b)) first = Some (told_of b) ≡ first

-- a check reports the first demand that is not met
abbrev pub AnswersDemands : {X : Type 0} → Result X TypeFailure → List Demand → Type 0
AnswersDemands r ds = Tells r (first_unmet ds)
