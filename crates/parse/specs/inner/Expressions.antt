-- The results of the parser's functions on expressions, as functions on lists.
use Rattle.std.specs.Prelude.{ℕ, zero, suc, Bool, true, false, List, [], Option, Some, None, Err, if◌then◌else◌, nat_le}
use Rattle.std.specs.Prelude.{is_some}
use Rattle.lex.specs.declared.token.Fixed.{Fixed}
use Rattle.lex.specs.declared.token.Fixed.TheVariants.{Keyword, Punctuator}
use Rattle.lex.specs.declared.token.Keyword.TheVariants as key
use Rattle.lex.specs.declared.token.Punctuator.TheVariants as punct
use Rattle.lex.specs.declared.token.Scalar.{Scalar}
use Rattle.lex.specs.declared.token.Scalar.TheVariants.{Int, Unsigned, LongLong}
use Rattle.lex.specs.declared.token.Span.{Span}
use Rattle.lex.specs.Tokens.{Terminal, name, constant, string_literal, fixed, reserved, Tok}
use Rattle.syntax.specs.declared.tree.BinaryOp.{BinaryOp}
use Rattle.syntax.specs.declared.tree.LogicalOp.{LogicalOp}
use Rattle.syntax.specs.declared.tree.UnaryOp.{UnaryOp}
use Rattle.syntax.specs.declared.tree.Mode.{Mode}
use Rattle.syntax.specs.declared.tree.Mode.TheVariants.{Atomic, Relaxed}
use Rattle.syntax.specs.Tree.{Name, Expr, Variable, Constant, Element, Call, Parenthesized, Cast, Unary, Binary}
use Rattle.syntax.specs.Tree.{Logical, Conditional, InTransaction}
use Rattle.syntax.specs.Depth.{expr_depth}
use Rattle.syntax.specs.Typing.{span_of}
use Rattle.syntax.specs.Views.{exprs_from}
use Rattle.syntax.specs.Grammar.{by_fixed, the_name, the_binary, the_logical, the_unary, unary_of, precedence}
use Rattle.syntax.specs.Grammar.{logical_precedence, mode_keyword}
use Rattle.parse.specs.declared.lead.Infix.{Infix}
use Rattle.parse.specs.declared.lead.Infix.TheVariants.{Computing, Choosing}
use Rattle.parse.specs.declared.lead.Operand.{Operand}
use Rattle.parse.specs.declared.lead.Operand.TheVariants as kind
use Rattle.parse.specs.declared.scalar.TypeWord.{TypeWord}
use Rattle.parse.specs.declared.scalar.TypeWord.TheVariants as word
use Rattle.parse.specs.inner.Reading.{deep, ◌>>=◌, Parser, none, give, bind, seq, map_parser, choice, either}
use Rattle.parse.specs.inner.Reading.{too_deep_at}
use Rattle.parse.specs.inner.Reading.{comma_list, take, expect, expect_span, is_next, perhaps, behind, before}
use Rattle.parse.specs.inner.Reading.{Operators}
use Rattle.parse.specs.inner.Reading.{climb_loop, across}

-- ---- types

-- a word that begins a type
abbrev pub type_of_fixed : Fixed → Option TypeWord
type_of_fixed (Keyword key.Int) = Some word.Int
type_of_fixed (Keyword key.Signed) = Some word.Signed
type_of_fixed (Keyword key.Unsigned) = Some word.Unsigned
type_of_fixed (Keyword key.Long) = Some word.Long
type_of_fixed _ = None

abbrev pub the_type_word : Tok → Option TypeWord
the_type_word t = by_fixed type_of_fixed t.terminal

-- the first token is of this kind
abbrev pub says : {A : Type 0} → (Tok → Option A) → Option Tok → Bool
says f None = false
says f (Some t) = is_some (f t)

abbrev pub starts_type : Option Tok → Bool
starts_type = says the_type_word

-- a type that `int` may follow
abbrev pub longer : Scalar → Parser Scalar
longer ty = map_parser (λ x. ty) (perhaps (Keyword key.Int) (expect (Keyword key.Int)))

-- a type, after its first `long`
abbrev pub long_long : Parser Scalar
long_long = behind (Keyword key.Long) (longer LongLong)

-- a type, after its first word
abbrev pub type_from : TypeWord → Parser Scalar
type_from word.Int = give Int
type_from word.Signed = either (is_next (Keyword key.Long)) (behind (Keyword key.Long) long_long) (longer Int)
type_from word.Unsigned = longer Unsigned
type_from word.Long = long_long

abbrev pub scalar : Parser Scalar
scalar = map_parser (λ x. x.1) (bind (take the_type_word) type_from)

-- ---- operators

abbrev pub infix_of : Option BinaryOp → Option LogicalOp → Option Infix
infix_of (Some op) l = Some (Computing op)
infix_of None (Some op) = Some (Choosing op)
infix_of None None = None

abbrev pub the_infix : Tok → Option Infix
the_infix t = infix_of (the_binary t) (the_logical t)

abbrev pub infix_precedence : Infix → ℕ
infix_precedence (Computing op) = precedence op
infix_precedence (Choosing op) = logical_precedence op

abbrev pub infix_node : Infix → Expr → Expr → Expr
infix_node (Computing op) a b = Binary op a b (across (span_of a) (span_of b))
infix_node (Choosing op) a b = Logical op a b (across (span_of a) (span_of b))

abbrev pub operators : Operators Expr Infix
operators = record { the = the_infix; precedence = infix_precedence; node = infix_node; depth = expr_depth }

-- ---- operands

-- an operator before its operand, and its span
abbrev pub with_span : {A : Type 0} → Span → Option A → Option (A × Span)
with_span at None = None
with_span at (Some x) = Some (x, at)

abbrev pub the_prefix : Tok → Option (UnaryOp × Span)
the_prefix t = with_span t.span (the_unary t)

abbrev pub constant_in : Terminal → Span → Option Expr
constant_in (name s) at = None
constant_in (constant n ty) at = Some (Constant n ty at)
constant_in (string_literal s) at = None
constant_in (fixed k) at = None
constant_in reserved at = None

abbrev pub the_constant : Tok → Option Expr
the_constant t = constant_in t.terminal t.span

-- whole: any expression; tight: an operand
module _ (whole tight : Parser Expr) where
  abbrev pub prefix_expr : Parser Expr
  prefix_expr = map_parser (λ x. Unary x.0.0 x.1 (across x.0.1 (span_of x.1))) (seq (take the_prefix) tight)

  -- a cast, after its `(`, which has a span
  abbrev pub cast_from : Span → Parser Expr
  cast_from at =
      map_parser (λ x. Cast x.0 x.1 (across at (span_of x.1))) (seq (before (Punctuator punct.CloseParen) scalar) tight)

  abbrev pub group_from : Span → Parser Expr
  group_from at = map_parser (λ x. Parenthesized x.0 (across at x.1))
      (seq whole (expect_span (Punctuator punct.CloseParen)))

  abbrev pub cast_or_group_expr : Parser Expr
  cast_or_group_expr =
      map_parser (λ x. x.1)
      (bind (expect_span (Punctuator punct.OpenParen)) (λ at. either starts_type (cast_from at) (group_from at)))

  abbrev pub transaction : Mode → Parser Expr
  transaction mode =
      map_parser (λ x. InTransaction mode x.0 x.1.0 (across x.0 x.1.1))
      (seq (expect_span (mode_keyword mode))
      (seq (behind (Punctuator punct.OpenParen) whole) (expect_span (Punctuator punct.CloseParen))))

  abbrev pub arguments : Parser (List Expr)
  arguments = either (is_next (Punctuator punct.CloseParen)) (give []) (comma_list whole)

  -- an element of an array, after the name
  abbrev pub element_from : Name → Parser Expr
  element_from x =
      map_parser (λ y. Element x y.0 (across x.span y.1))
      (behind (Punctuator punct.OpenBracket) (seq whole (expect_span (Punctuator punct.CloseBracket))))

  abbrev pub call_from : Name → Parser Expr
  call_from x =
      map_parser (λ y. Call x (exprs_from y.0) (across x.span y.1))
      (behind (Punctuator punct.OpenParen) (seq arguments (expect_span (Punctuator punct.CloseParen))))

  abbrev pub named_from : Name → Parser Expr
  named_from x =
      either (is_next (Punctuator punct.OpenBracket)) (element_from x)
      (either (is_next (Punctuator punct.OpenParen)) (call_from x) (give (Variable x)))

  abbrev pub name_or_call : Parser Expr
  name_or_call = map_parser (λ x. x.1) (bind (take the_name) named_from)

  abbrev pub operand_of : Operand → Parser Expr
  operand_of kind.Name = name_or_call
  operand_of kind.Constant = take the_constant
  operand_of kind.Open = cast_or_group_expr
  operand_of kind.Prefix = prefix_expr
  operand_of (kind.Transaction mode) = transaction mode
  operand_of kind.None = none

abbrev pub operand_fixed : Fixed → Option UnaryOp → Operand
operand_fixed (Punctuator punct.OpenParen) op = kind.Open
operand_fixed (Keyword key.Atomic) op = kind.Transaction Atomic
operand_fixed (Keyword key.Relaxed) op = kind.Transaction Relaxed
operand_fixed _ (Some op) = kind.Prefix
operand_fixed _ None = kind.None

abbrev pub operand_terminal : Terminal → Operand
operand_terminal (name s) = kind.Name
operand_terminal (constant n ty) = kind.Constant
operand_terminal (string_literal s) = kind.None
operand_terminal (fixed k) = operand_fixed k (unary_of k)
operand_terminal reserved = kind.None

-- the kind of operand that a token begins
abbrev pub operand_at : Option Tok → Operand
operand_at None = kind.None
operand_at (Some t) = operand_terminal t.terminal

abbrev pub operand : (whole tight : Parser Expr) → Parser Expr
operand whole tight = choice (λ h. operand_of whole tight (operand_at h))

abbrev pub is_operand : Operand → Bool
is_operand kind.None = false
is_operand kind.Name = true
is_operand kind.Constant = true
is_operand kind.Open = true
is_operand kind.Prefix = true
is_operand (kind.Transaction mode) = true

abbrev pub starts_expr : Option Tok → Bool
starts_expr h = is_operand (operand_at h)

-- ---- expressions

-- operands and operators that bind at least so tightly, within depth d + 1; below: the same within depth d
abbrev pub chain : (ℕ → Parser Expr) → ℕ → ℕ → Parser Expr
chain below d min ts = operand (below 0) (below 11) ts >>= λ x. climb_loop operators below min (suc d) (suc d) x.0 x.1

-- the branches of a conditional expression
abbrev pub outcomes : Parser Expr → Parser (Expr × Expr)
outcomes whole = behind (Punctuator punct.Question) (seq whole (behind (Punctuator punct.Colon) whole))

-- a conditional expression, after its condition c
abbrev pub conditional_from : Parser Expr → Expr → Parser Expr
conditional_from whole c = map_parser (λ x. Conditional c x.0 x.1 (across (span_of c) (span_of x.1))) (outcomes whole)

-- what is parsed within this depth
abbrev pub within : {A : Type 0} → ℕ → Expr → Parser A → Parser A
within d e P ts = if nat_le (expr_depth e) d then P ts else Err (deep ts)

abbrev pub conditional_at : Parser Expr → ℕ → Expr → Parser Expr
conditional_at whole d c = either (is_next (Punctuator punct.Question)) (within d c (conditional_from whole c)) (give c)

-- an expression within this depth: at level 0 any one, at others operators that bind at least so tightly
unfoldable pub expr_at : ℕ → ℕ → Parser Expr
expr_at zero min ts = too_deep_at starts_expr ts
expr_at (suc d) zero ts = map_parser (λ x. x.1) (bind (chain (expr_at d) d 1) (conditional_at (expr_at d 0) d)) ts
expr_at (suc d) (suc min) ts = chain (expr_at d) d (suc min) ts

-- any expression within this depth
abbrev pub whole_at : ℕ → Parser Expr
whole_at d = expr_at d 0
