-- The instructions that are picked for parts of expressions.
use Rattle.std.specs.Prelude.{ℕ, Option, Some, None, ◌+◌, List}
use Rattle.lex.specs.declared.token.Scalar.{Scalar}
use Rattle.syntax.specs.Tree.{Expr, Constant, Program}
use Rattle.selection.specs.Expressions.{constant, Emitted, in_first_type, value_into, conditional_value, joining}
use Rattle.selection.specs.Expressions.{emitted_type, as_type, condition, emit}
use Rattle.syntax.specs.declared.tree.LogicalOp.{LogicalOp}
use Rattle.syntax.specs.Numbers.{common}
use Rattle.lower_spec.specs.Expressions.{LocalScope}
use Rattle.selection.specs.Lists.{Lists}
use Rattle.selection.specs.Conditions.{Condition}

-- the value and the type of a constant
abbrev pub constant_of : Expr → Option (ℕ × Scalar)
constant_of (Constant n t at) = Some (n, t)
constant_of e = None

module _ (p : Program) (scope : LocalScope) where
  -- an argument, in the type of the first of these parameters
  abbrev pub argument_value : List Scalar → Expr → (from free : ℕ) → Lists → Emitted
  argument_value ts e from free l =
      in_first_type (emitted_type p scope e) ts e (emit p scope e from free free l) from free l

  -- `a && b`, `a || b`
  abbrev pub both_conditions : LogicalOp → (a b : Expr) → (from free : ℕ) → Lists → Condition
  both_conditions op a b from free l =
      joining op (λ to m. condition p scope a to free m) (λ to m. condition p scope b to free m) from l

  -- `c ? a : b`
  abbrev pub conditional : (c a b : Expr) → (from into free : ℕ) → Lists → Emitted
  conditional c a b from into free l =
      let test = condition p scope c from free l in
      let t = common (emitted_type p scope a) (emitted_type p scope b) in
      let first = value_into into (as_type p scope t a (test.to + 1) into free test.lists) in
      conditional_value t test first
      (value_into into (as_type p scope t b (first.location.to + 1) into free first.lists)) into
