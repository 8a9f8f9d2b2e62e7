-- Why no code is returned.
use Rattle.std.specs.Prelude.{◌≡◌, None, Some}
use Rattle.syntax.specs.Tree.{Program}
use Rattle.lower.specs.declared.fault.LowerFault.{LowerFault}
use Rattle.lower.specs.declared.fault.LowerFault.TheVariants.{OutOfMemory, TooManyRegisters, TooMuchCode, NestedTooDeep}
use Rattle.lower.specs.Nested.{nested_too_deep}
use Rattle.lower.specs.Limits.{NeedsTooMany, IsTooMuch, PassesWith}

-- a fault of this program. A transaction is nested in 16 others, and this is the keyword of the first such one. Or none
-- is, and a limit of code is exceeded, in or with the function of this name. An allocation failure implies nothing of
-- the program.
abbrev pub IsLowerFaultOf : Program → LowerFault → Type 0
IsLowerFaultOf p OutOfMemory = Unit {0}
IsLowerFaultOf p (TooManyRegisters at) = (nested_too_deep p ≡ None) × NeedsTooMany p at
IsLowerFaultOf p (TooMuchCode at) = (nested_too_deep p ≡ None) × PassesWith p at × IsTooMuch p
IsLowerFaultOf p (NestedTooDeep at) = nested_too_deep p ≡ Some at
