-- The limits that the code picked for a program exceeds.
use Rattle.std.specs.Prelude.{◌≡◌, ◌<◌, ◌≤◌, ℕ, ◌∷◌, [], ◌++◌, length, Contains}
use Rattle.syntax.specs.Tree.{Span, Function, Defines, Program}
use Rattle.bytecode.specs.declared.limits.TheConstants.{MOST_INSTRUCTIONS, MOST_REGISTERS}
use Rattle.bytecode.specs.Code.{FunctionCode}
use Rattle.selection.specs.Programs.{made_for, picked_code}

-- the code that is picked for a function of this name needs more registers than a function may have
pub record NeedsTooMany (p : Program) (at : Span) : Type 0 where
  pub function : Function
  pub is_of : Contains p (Defines function)
  pub is_at : at ≡ function.name.span
  pub code : FunctionCode
  pub is_picked : Contains (picked_code p).functions code
  pub is_named : code.name ≡ function.name.text
  pub needs : MOST_REGISTERS < code.registers

-- more instructions are picked for the program than a code may have
abbrev pub IsTooMuch : Program → Type 0
IsTooMuch p = MOST_INSTRUCTIONS < length (picked_code p).instructions

-- how many instructions are picked for these first items of the program
abbrev pub picked_for : Program → Program → ℕ
picked_for p items = length (made_for p items).code

-- a code may have as many instructions as are picked for what precedes a function of this name, but not with its own
-- added
pub record PassesWith (p : Program) (at : Span) : Type 0 where
  pub before : Program
  pub function : Function
  pub after : Program
  pub is_of : p ≡ before ++ Defines function ∷ after
  pub is_at : at ≡ function.name.span
  pub fits : picked_for p before ≤ MOST_INSTRUCTIONS
  pub passes : MOST_INSTRUCTIONS < picked_for p (before ++ Defines function ∷ [])
