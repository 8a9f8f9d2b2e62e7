-- The result of a check.
use Rattle.std.specs.Prelude.{◌≡◌, Some, None, Result, Ok, Err}
use Rattle.syntax.specs.declared.tree.Unit as Own
use Rattle.syntax.specs.declared.violation.Refused.{Refused}
use Rattle.syntax.specs.Views.{program_of}
use Rattle.syntax.specs.Typing.{first_unmet, Meets}
use Rattle.syntax.specs.Violations.{HandsBack}
use Rattle.types.specs.declared.typed.Typed.{Typed}

module _ {A : Type 0} where
  -- the check of a unit: the fault is the first demand that is not met, and there is none if all are;
  -- nothing is claimed on allocation failure. The unit is passed on, or returned with the error.
  abbrev pub ChecksTypes : Own.Unit A → Result (Typed A) (Refused (Own.Unit A)) → Type 0
  ChecksTypes u (Ok t) = (t.unit ≡ u) × (None ≡ first_unmet (Meets u.end (program_of u)))
  ChecksTypes u (Err refused) = HandsBack u (λ n at. Some (n, at) ≡ first_unmet (Meets u.end (program_of u))) refused
