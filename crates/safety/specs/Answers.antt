-- The result of the check of safety.
use Rattle.std.specs.Prelude.{◌≡◌, Result, Ok, Err}
use Rattle.syntax.specs.declared.violation.Refused.{Refused}
use Rattle.syntax.specs.Views.{program_of}
use Rattle.syntax.specs.Violations.{HandsBack}
use Rattle.types.specs.declared.typed.Typed.{Typed}
use Rattle.safety.specs.declared.checked.Safe.{Safe}
use Rattle.safety.specs.Safe.{IsSafeProgram}
use Rattle.safety.specs.Faults.{IsSafetyFault}

module _ {A : Type 0} where
  -- the check of a typed program: it is safe, or this is its first fault; nothing is claimed on allocation failure.
  -- The program is passed on, or returned with the error.
  abbrev pub ChecksSafety : Typed A → Result (Safe A) (Refused (Typed A)) → Type 0
  ChecksSafety t (Ok s) = (s.typed ≡ t) × IsSafeProgram (program_of t.unit)
  ChecksSafety t (Err refused) = HandsBack t (λ n at. IsSafetyFault n at (program_of t.unit)) refused
