-- The report of a program that breaks a rule.
use Rattle.std.specs.Prelude.{◌≡◌, ℕ, Option, Some, None}
use Rattle.syntax.specs.Tree.{Span}
use Rattle.syntax.specs.declared.violation.Rule.{Rule}
use Rattle.syntax.specs.declared.violation.Rule.TheVariants.{UnknownName, DeclaredTwice, WrongType, WrongCount}
use Rattle.syntax.specs.declared.violation.Rule.TheVariants.{NotAssignable, BadLength, OutsideLoop, BadFormat, NoWorker}
use Rattle.syntax.specs.declared.violation.Rule.TheVariants.{NotDefined, UnsafeInAtomic, RelaxedInAtomic}
use Rattle.syntax.specs.declared.violation.Rule.TheVariants.{CancelOutsideAtomic, NotSafe, OuterInAtomic}
use Rattle.syntax.specs.declared.violation.Rule.TheVariants.{CancelOutsideOuter, BareAccess, BareCall}
use Rattle.syntax.specs.declared.violation.Violation.{Violation}
use Rattle.syntax.specs.declared.violation.Refused.{Refused}
use Rattle.syntax.specs.declared.violation.Refused.TheVariants.{OutOfMemory, Broken}

-- the number of the fault that violates a rule
abbrev pub number_of : Rule → ℕ
number_of UnknownName = 20
number_of DeclaredTwice = 21
number_of WrongType = 22
number_of WrongCount = 23
number_of NotAssignable = 24
number_of BadLength = 25
number_of OutsideLoop = 26
number_of BadFormat = 27
number_of NoWorker = 28
number_of NotDefined = 29
number_of UnsafeInAtomic = 40
number_of RelaxedInAtomic = 41
number_of CancelOutsideAtomic = 42
number_of NotSafe = 43
number_of OuterInAtomic = 44
number_of CancelOutsideOuter = 45
number_of BareAccess = 50
number_of BareCall = 51

-- the number and the span of a violation, as in demands
abbrev pub told_of : Violation → ℕ × Span
told_of v = (number_of v.rule, v.at)

-- the number and the span of the demand that is not met, as a check reports it
abbrev pub unmet_in : Option Violation → Option (ℕ × Span)
unmet_in None = None
unmet_in (Some v) = Some (told_of v)

module _ {T : Type 0} where
  abbrev pub number_in : Refused T → ℕ
  number_in (OutOfMemory x) = 0
  number_in (Broken x v) = number_of v.rule

  abbrev pub place_in : Refused T → Option Span
  place_in (OutOfMemory x) = None
  place_in (Broken x v) = Some v.at

  -- the error of a check, with the program returned
  abbrev pub returned_in : Refused T → T
  returned_in (OutOfMemory x) = x
  returned_in (Broken x v) = x

  -- the program is returned, and a violated rule has this number and span; nothing is claimed on allocation failure
  abbrev pub HandsBack : T → (ℕ → Span → Type 0) → Refused T → Type 0
  HandsBack given Tells (OutOfMemory x) = x ≡ given
  HandsBack given Tells (Broken x v) = (x ≡ given) × Tells (number_of v.rule) v.at
