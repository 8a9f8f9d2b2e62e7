-- The number and the source position of a fault.
use Rattle.std.specs.Prelude.{ℕ, Option, None, Some}
use Rattle.lex.specs.declared.token.Span.{Span}
use Rattle.lower.specs.declared.fault.LowerFault.{LowerFault}
use Rattle.lower.specs.declared.fault.LowerFault.TheVariants.{OutOfMemory, TooManyRegisters, TooMuchCode, NestedTooDeep}

abbrev pub number_of : LowerFault → ℕ
number_of OutOfMemory = 0
number_of (TooManyRegisters at) = 60
number_of (TooMuchCode at) = 61
number_of (NestedTooDeep at) = 62

abbrev pub span_of : LowerFault → Option Span
span_of OutOfMemory = None
span_of (TooManyRegisters at) = Some at
span_of (TooMuchCode at) = Some at
span_of (NestedTooDeep at) = Some at
