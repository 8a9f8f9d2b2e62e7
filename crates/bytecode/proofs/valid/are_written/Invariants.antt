use Rattle.std.proofs.Common.{◌≡◌, ℕ, ◌<◌, ◌≤◌, Some}
use Rattle.std.specs.Prelude.{slice_get}
use Rattle.bytecode.specs.Code.{Instr}
use Rattle.bytecode.specs.Valid.{IsWritten}
use Rattle.bytecode.specs.Views.{code_of, function_of}
use Rattle.bytecode.proofs.valid.are_written.Given as goal

abbrev pub invariant-each : goal.invariant-each
invariant-each g l = (q : ℕ) (i : Instr) → l.f.first ≤ q → q < l.at → slice_get (code_of l.parts).instructions q ≡ Some i → IsWritten (code_of l.parts) (function_of l.f) l.behind i
