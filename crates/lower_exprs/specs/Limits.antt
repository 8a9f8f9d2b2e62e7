-- What a failure implies of the picked code.
use Rattle.std.specs.Prelude.{ℕ, ◌<◌}
use Rattle.lower_exprs.specs.declared.fault.LowerFailure.{LowerFailure}
use Rattle.lower_exprs.specs.declared.fault.LowerFailure.TheVariants as failure

-- a function needs more registers than there are, if that is the reason; an allocation failure implies nothing of it
abbrev pub NeedsMore : LowerFailure → ℕ → Type 0
NeedsMore failure.Registers registers = 65535 < registers
NeedsMore failure.OutOfMemory registers = Unit {0}
