-- Fragments of which a part is emitted already, and that of an assignment's target.
use Rattle.std.specs.Prelude.{ℕ, ◌+◌, List, [], Vec, Result}
use Rattle.syntax.specs.declared.tree.LogicalOp.{LogicalOp}
use Rattle.bytecode.specs.declared.instr.Instr.{Instr}
use Rattle.selection.specs.declared.draft.Draft.{Draft}
use Rattle.selection.specs.declared.locations.ValueRegister.{ValueRegister}
use Rattle.selection.specs.declared.locations.ConditionRegister.{ConditionRegister}
use Rattle.selection.specs.Lists.{Lists}
use Rattle.selection.specs.Conditions.{Condition, first_of}
use Rattle.selection.specs.Expressions.{Emitted, AllEmitted}
use Rattle.selection.specs.Simples.{Aimed}
use Rattle.lower_exprs.specs.declared.aim.Aim.{Aim}
use Rattle.lower_exprs.specs.declared.fault.LowerFailure.{LowerFailure}
use Rattle.lower_exprs.specs.declared.lists.Lists.{Lists as OwnLists}
use Rattle.lower_exprs.specs.Lists.{lists_of}
use Rattle.lower_exprs.specs.Fragments.{Fragment, Adds}

-- a value with its instructions, one whose instructions are emitted already, several such ones, and a condition
abbrev pub standing : List Instr → ValueRegister → Lists → Emitted
standing code a l = record { code = code; lists = l; location = a }

abbrev pub in_place : ValueRegister → Lists → Emitted
in_place a l = standing [] a l

abbrev pub all_in_place : (registers : List ℕ) → (to : ℕ) → Lists → AllEmitted
all_in_place rs to l = record { code = []; lists = l; registers = rs; to = to }

abbrev pub test_in_place : List Draft → ConditionRegister → Lists → Condition
test_in_place code t l = record { code = code; lists = l; register = t.register; at_zero = t.at_zero; to = t.to }

-- the first condition of `&&` and `||` and its jump, up to the place after it
abbrev pub of_first : LogicalOp → Condition → Fragment Draft ℕ
of_first op c = record { code = first_of op c; lists = c.lists; end = c.to + 1 }

abbrev pub of_aim : Aimed → Fragment Instr Aim
of_aim a = record { code = a.code; lists = a.lists; end = record { target = a.target; to = a.to } }

module _ {A : Type 0} where
  abbrev pub AddsFirst : LogicalOp → Condition → (old new : Vec Draft A) → OwnLists A → Result ℕ LowerFailure → Type 0
  AddsFirst op c old new l r = Adds (of_first op c) old.items new.items (lists_of l) r

  abbrev pub Aims : Aimed → (old new : Vec Instr A) → OwnLists A → Result Aim LowerFailure → Type 0
  Aims a old new l r = Adds (of_aim a) old.items new.items (lists_of l) r
