-- Theorems on the picked code.
use Rattle.std.specs.Prelude.{◌≤◌, ℕ, length}
use Rattle.syntax.specs.Tree.{Program}
use Rattle.syntax.specs.Typing.{IsTypedProgram}
use Rattle.safety.specs.Safe.{IsSafeProgram}
use Rattle.bytecode.specs.declared.limits.TheConstants.{MOST_INSTRUCTIONS, MOST_REGISTERS}
use Rattle.bytecode.specs.Code.{Code, FunctionCode}
use Rattle.bytecode.specs.Valid.{Has, IsValid}
use Rattle.lower_spec.specs.Programs.{IsLowered}
use Rattle.selection.specs.Programs.{picked_code}

-- the code that is picked for a typed and safe program is a lowering of it
abbrev pub PickedCodeStands : Type 0
PickedCodeStands = (p : Program) → IsTypedProgram p → ∥ IsSafeProgram p ∥₁ → IsLowered p (picked_code p)

-- the limits of a code beyond the requirements on a typed program
pub record IsWithinLimits (code : Code) : Type 0 where
  pub registers : (number : ℕ) (f : FunctionCode) → Has code number f → f.registers ≤ MOST_REGISTERS
  pub instructions : length code.instructions ≤ MOST_INSTRUCTIONS

-- the code that is picked for a typed and safe program is valid within the limits
abbrev pub PickedCodeIsValid : Type 0
PickedCodeIsValid =
    (p : Program) → IsTypedProgram p → ∥ IsSafeProgram p ∥₁ → IsWithinLimits (picked_code p) → IsValid (picked_code p)

-- each typed and safe program has a lowering
abbrev pub EveryProgramHasCode : Type 0
EveryProgramHasCode = (p : Program) → IsTypedProgram p → IsSafeProgram p → (code : Code) × IsLowered p code
