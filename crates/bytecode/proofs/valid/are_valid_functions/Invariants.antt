use Rattle.std.proofs.Common.{ℕ, ◌<◌}
use Rattle.bytecode.specs.Code.{FunctionCode}
use Rattle.bytecode.specs.Valid.{Has, IsValidFunction, end_of}
use Rattle.bytecode.specs.Views.{code_of}
use Rattle.bytecode.proofs.valid.are_valid_functions.Given as goal

abbrev pub invariant-each : goal.invariant-each
invariant-each g l = (n : ℕ) (f : FunctionCode) → n < l.number → Has (code_of l.parts) n f → IsValidFunction (code_of l.parts) f (end_of (code_of l.parts) n)
