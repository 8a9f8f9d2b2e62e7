-- The result of the check of separation.
use Rattle.std.specs.Prelude.{◌≡◌, Result, Ok, Err}
use Rattle.syntax.specs.declared.violation.Refused.{Refused}
use Rattle.syntax.specs.Views.{program_of}
use Rattle.syntax.specs.Violations.{HandsBack}
use Rattle.safety.specs.declared.checked.Safe.{Safe}
use Rattle.separation.specs.declared.checked.Accepted.{Accepted}
use Rattle.separation.specs.Touching.{IsAccepted, IsSeparationFault}

module _ {A : Type 0} where
  -- the check of a safe program: it is accepted, or this is its first fault; nothing is claimed on allocation failure.
  -- The program is passed on, or returned with the error.
  abbrev pub ChecksSeparation : Safe A → Result (Accepted A) (Refused (Safe A)) → Type 0
  ChecksSeparation s (Ok a) = (a.safe ≡ s) × ∥ IsAccepted (program_of s.typed.unit) ∥₁
  ChecksSeparation s (Err refused) = HandsBack s (λ n at. IsSeparationFault n at (program_of s.typed.unit)) refused
