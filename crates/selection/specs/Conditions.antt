-- The instructions that are picked for a condition: a value and a jump, for which `!` and comparisons with 0 only
-- determine when it is taken, and for `&&` and `||` a first condition with its jump before it.
use Rattle.std.specs.Prelude.{ℕ, zero, ◌+◌, List, [], ◌∷◌, ◌++◌, map, Bool, true, false, not, if◌then◌else◌, Option}
use Rattle.std.specs.Prelude.{Some, None}
use Rattle.syntax.specs.declared.tree.BinaryOp.{BinaryOp}
use Rattle.syntax.specs.declared.tree.BinaryOp.TheVariants.{Equal, NotEqual}
use Rattle.syntax.specs.declared.tree.LogicalOp.{LogicalOp}
use Rattle.syntax.specs.declared.tree.LogicalOp.TheVariants.{AndThen, OrElse}
use Rattle.syntax.specs.Tree.{Expr, Constant}
use Rattle.bytecode.specs.declared.instr.Instr.{Instr}
use Rattle.bytecode.specs.declared.instr.Instr.TheVariants as own
use Rattle.selection.specs.declared.locations.ValueRegister.{ValueRegister}
use Rattle.selection.specs.declared.locations.ConditionRegister.{ConditionRegister}
use Rattle.selection.specs.declared.draft.Draft.{Draft}
use Rattle.selection.specs.declared.draft.Draft.TheVariants as draft
use Rattle.selection.specs.Lists.{Lists}

-- instructions, some of which lead to the true exit or to the false exit; the lists after them, the
-- register of a value, whether the condition holds if that is 0, and the place after them
pub record Condition : Type 0 where
  pub code : List Draft
  pub lists : Lists
  pub register : ℕ
  pub at_zero : Bool
  pub to : ℕ

abbrev pub test_in : Condition → ConditionRegister
test_in c = record { register = c.register; at_zero = c.at_zero; to = c.to }

-- a jump that is taken if a register is 0, or if it is not, and the opposite one
abbrev pub jump_if : Bool → ℕ → ℕ → Instr
jump_if true r to = own.JumpZero r to
jump_if false r to = own.JumpNonzero r to

abbrev pub jump_if_not : Bool → ℕ → ℕ → Instr
jump_if_not true r to = own.JumpNonzero r to
jump_if_not false r to = own.JumpZero r to

-- the instruction, once the exits of the condition are known
abbrev pub instruction_of_draft : (true_exit false_exit : ℕ) → Draft → Instr
instruction_of_draft true_exit false_exit (draft.Whole i) = i
instruction_of_draft true_exit false_exit (draft.ToTrueExit at_zero r) = jump_if at_zero r true_exit
instruction_of_draft true_exit false_exit (draft.ToFalseExit at_zero r) = jump_if at_zero r false_exit

-- an instruction of the opposite condition
abbrev pub opposite_draft : Draft → Draft
opposite_draft (draft.Whole i) = draft.Whole i
opposite_draft (draft.ToTrueExit at_zero r) = draft.ToFalseExit at_zero r
opposite_draft (draft.ToFalseExit at_zero r) = draft.ToTrueExit at_zero r

-- an instruction of the first condition of `&&` and `||`, once the start of the second one is known
abbrev pub with_second_at : LogicalOp → ℕ → Draft → Draft
with_second_at AndThen next (draft.Whole i) = draft.Whole i
with_second_at AndThen next (draft.ToTrueExit at_zero r) = draft.Whole (jump_if at_zero r next)
with_second_at AndThen next (draft.ToFalseExit at_zero r) = draft.ToFalseExit at_zero r
with_second_at OrElse next (draft.Whole i) = draft.Whole i
with_second_at OrElse next (draft.ToTrueExit at_zero r) = draft.ToTrueExit at_zero r
with_second_at OrElse next (draft.ToFalseExit at_zero r) = draft.Whole (jump_if at_zero r next)

-- the jump of the first condition of `&&` and `||` past the second one
abbrev pub short_jump : LogicalOp → ConditionRegister → Draft
short_jump AndThen t = draft.ToFalseExit (not t.at_zero) t.register
short_jump OrElse t = draft.ToTrueExit t.at_zero t.register

-- a condition with its jump; after it comes the code for the case that it holds, or that it does not
abbrev pub going_on : List Draft → ConditionRegister → (false_exit : ℕ) → List Instr
going_on code t false_exit = map (instruction_of_draft (t.to + 1) false_exit) code
    ++ jump_if_not t.at_zero t.register false_exit ∷ []

abbrev pub going_back : List Draft → ConditionRegister → (true_exit : ℕ) → List Instr
going_back code t true_exit = map (instruction_of_draft true_exit (t.to + 1)) code
    ++ jump_if t.at_zero t.register true_exit ∷ []

abbrev pub by_value : List Instr → Lists → ValueRegister → Condition
by_value code l location = record {
  code = map draft.Whole code;
  lists = l;
  register = location.register;
  at_zero = false;
  to = location.to;
}

abbrev pub opposite : Condition → Condition
opposite c = record c { code = map opposite_draft c.code; at_zero = not c.at_zero }

-- a first condition and its jump
abbrev pub first_of : LogicalOp → Condition → List Draft
first_of op a = map (with_second_at op (a.to + 1)) a.code ++ short_jump op (test_in a) ∷ []

abbrev pub logical_condition : LogicalOp → (a b : Condition) → Condition
logical_condition op a b = record b { code = first_of op a ++ b.code }

abbrev pub is_zero_constant : Expr → Bool
is_zero_constant (Constant zero t at) = true
is_zero_constant e = false

-- a comparison with 0: whether it holds if the other side is 0
abbrev pub zero_test : BinaryOp → Expr → Option Bool
zero_test Equal b = if is_zero_constant b then Some true else None
zero_test NotEqual b = if is_zero_constant b then Some false else None
zero_test op b = None

abbrev pub zero_tested : Option Bool → Condition → Option Condition
zero_tested None other = None
zero_tested (Some true) other = Some (opposite other)
zero_tested (Some false) other = Some other
