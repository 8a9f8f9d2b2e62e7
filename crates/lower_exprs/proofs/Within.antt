-- No part of an expression's code needs more registers than the whole.
use Rattle.std.proofs.Common.{ℕ, ◌+◌, ◌≤◌, ◌++◌, length, Some, arith}
use Rattle.syntax.specs.Tree as Tree
use Rattle.syntax.specs.Tree.{Program}
use Rattle.lower_spec.specs.Expressions.{LocalScope, argument_order}
use Rattle.selection.specs.Lists.{Lists, with_register, with_registers}
use Rattle.selection.specs.Names.{Callee}
use Rattle.selection.specs.Expressions.{AllEmitted, call_code, condition}
use Rattle.selection.proofs.Growing.{used_more, holding_more, condition_more}

module _ (p : Program) (scope : LocalScope) (a b : Tree.Expr) (from into free : ℕ) (l : Lists) where
  -- the first condition of `&&` and `||`
  pub logical_within :
      let first = condition p scope a from free l in
      first.lists.registers ≤ (with_register into (condition p scope b (first.to + 1) free first.lists).lists).registers
  logical_within =
      let first = condition p scope a from free l in
      let x = condition_more p scope b (first.to + 1) free first.lists in
      let y = used_more into (condition p scope b (first.to + 1) free first.lists).lists in
      omega (arith, x, y)

pub arguments_within : (f : Callee) (args : AllEmitted) (from into : ℕ) (l : Lists) → args.lists.registers ≤ (call_code (Some f) args from into l).lists.registers
arguments_within f args from into l =
    let handed = argument_order f.parameters args.registers in
    let made = record args.lists { arguments = args.lists.arguments ++ handed } in
    let x = holding_more (length handed) made in
    let y = used_more into (with_registers (length handed) made) in
    omega (arith, x, y)
