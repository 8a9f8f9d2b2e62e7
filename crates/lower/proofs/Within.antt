-- No part of a statement's code needs more registers than the whole.
use Rattle.std.proofs.Common.{ℕ, ◌+◌, ◌≤◌, List, length, Option, arith}
use Rattle.syntax.specs.Tree as Tree
use Rattle.syntax.specs.Tree.{Program}
use Rattle.syntax.specs.Formats.{Piece}
use Rattle.lower_spec.specs.Expressions.{LocalScope}
use Rattle.lower_spec.specs.Statements.{locals_of_start}
use Rattle.selection.specs.declared.locations.Exits.{Exits}
use Rattle.selection.specs.Lists.{Lists}
use Rattle.selection.specs.Expressions.{AllEmitted, condition}
use Rattle.selection.specs.Simples.{Written, start_written}
use Rattle.selection.specs.Statements.{looping, print_written, for_step, stmt_code}
use Rattle.selection.proofs.GrowingStmts.{pieces_same, test_more, step_more, written_more}

pub arguments_within : (args : AllEmitted) (ps : List Piece) → args.lists.registers ≤ (print_written args ps).lists.registers
arguments_within args ps = let a = pieces_same ps args.registers args.to args.lists in omega (arith, a)

module _ (p : Program) (x : Exits) (s : LocalScope) (from : ℕ) (l : Lists) where
  -- the condition of an `if` with `else`
  pub test_within : (c : Tree.Expr) (a b : Tree.Stmt) → (condition p s c from (length s) l).lists.registers ≤ (stmt_code p (Tree.IfElse c a b) x s from l).lists.registers
  test_within c a b =
      let test = condition p s c from (length s) l in
      let first = stmt_code p a x s (test.to + 1) test.lists in
      let g = written_more p a x s (test.to + 1) test.lists in
      let h = written_more p b x s (first.to + 1) first.lists in
      omega (arith, g, h)

  -- the step, the body and the start of a `for`
  module _ (start : Tree.Start) (c : Option Tree.Expr) (step : Option Tree.Simple) (a : Tree.Stmt) where
    abbrev Inner : LocalScope
    Inner = locals_of_start start s

    abbrev Start : Written
    Start = start_written p start s from l

    abbrev Body : Written
    Body = stmt_code p a (looping x (Start.to + 1) (Start.to + 2)) Inner (Start.to + 3) Start.lists

    abbrev Step : Written
    Step = for_step p Inner step Body.to Body.lists

    pub step_within : Step.lists.registers ≤ (stmt_code p (Tree.For start c step a) x s from l).lists.registers
    step_within = test_more p Inner c (Start.to + 3) Step.to Step.lists

    pub body_within : Body.lists.registers ≤ (stmt_code p (Tree.For start c step a) x s from l).lists.registers
    body_within = let g = step_more p Inner step Body.to Body.lists in let h = step_within in omega (arith, g, h)

    pub start_within : Start.lists.registers ≤ (stmt_code p (Tree.For start c step a) x s from l).lists.registers
    start_within = let g = written_more p a (looping x (Start.to + 1) (Start.to + 2)) Inner (Start.to + 3) Start.lists in let h = body_within in omega (arith, g, h)
