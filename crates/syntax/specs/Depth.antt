-- How deep a tree is.
use Rattle.std.specs.Prelude.{ℕ, ◌+◌, max, List, [], ◌∷◌, Option, Some, None}
use Rattle.syntax.specs.Tree.{Expr, Exprs, Element, Call, Parenthesized, Cast, Unary, Binary, Logical, Conditional}
use Rattle.syntax.specs.Tree.{InTransaction, Simple, Evaluate, Assign, Adjust, Declarator, Declaration, Start, Nothing}
use Rattle.syntax.specs.Tree.{Declares, Does, Stmt, Stmts, Declare, Do, Block, Print, If, IfElse, While, DoWhile, For}
use Rattle.syntax.specs.Tree.{Return, Transaction, Item, Defines, Shares, Program}

abbrev mutual
  pub expr_depth : Expr → ℕ
  expr_depth (Element x i at) = expr_depth i + 1
  expr_depth (Call f es at) = deepest es + 1
  expr_depth (Parenthesized e at) = expr_depth e + 1
  expr_depth (Cast t e at) = expr_depth e + 1
  expr_depth (Unary op e at) = expr_depth e + 1
  expr_depth (Binary op a b at) = max (expr_depth a) (expr_depth b) + 1
  expr_depth (Logical op a b at) = max (expr_depth a) (expr_depth b) + 1
  expr_depth (Conditional c a b at) = max (expr_depth c) (max (expr_depth a) (expr_depth b)) + 1
  expr_depth (InTransaction mode keyword e at) = expr_depth e + 1
  expr_depth _ = 1

  pub deepest : Exprs → ℕ
  deepest Exprs.[] = 0
  deepest (Exprs.◌∷◌ e es) = max (expr_depth e) (deepest es)

abbrev pub optional_depth : Option Expr → ℕ
optional_depth None = 0
optional_depth (Some e) = expr_depth e

-- the depth of an expression, an assignment or a step as a statement with its semicolon
abbrev pub simple_depth : Simple → ℕ
simple_depth (Evaluate e) = expr_depth e + 1
simple_depth (Assign to op e) = max (expr_depth to) (expr_depth e) + 1
simple_depth (Adjust to by) = expr_depth to + 1

abbrev pub optional_simple_depth : Option Simple → ℕ
optional_simple_depth None = 0
optional_simple_depth (Some s) = simple_depth s

abbrev pub deepest_value : List Declarator → ℕ
deepest_value [] = 0
deepest_value (d ∷ ds) = max (optional_depth d.first) (deepest_value ds)

abbrev pub declaration_depth : Declaration → ℕ
declaration_depth d = deepest_value d.declarators + 1

abbrev pub start_depth : Start → ℕ
start_depth Nothing = 0
start_depth (Declares d) = declaration_depth d
start_depth (Does s) = simple_depth s

abbrev mutual
  pub stmt_depth : Stmt → ℕ
  stmt_depth (Declare d) = declaration_depth d
  stmt_depth (Do s) = simple_depth s
  stmt_depth (Block ss) = block_depth ss
  stmt_depth (Print at format format_at es) = deepest es + 1
  stmt_depth (If c a) = max (expr_depth c) (stmt_depth a) + 1
  stmt_depth (IfElse c a b) = max (expr_depth c) (max (stmt_depth a) (stmt_depth b)) + 1
  stmt_depth (While c a) = max (expr_depth c) (stmt_depth a) + 1
  stmt_depth (DoWhile a c) = max (stmt_depth a) (expr_depth c) + 1
  stmt_depth (For start c step a) =
      max (max (start_depth start) (optional_depth c)) (max (optional_simple_depth step) (stmt_depth a)) + 1
  stmt_depth (Return e at) = optional_depth e + 1
  -- a transaction's block is a part of it
  stmt_depth (Transaction kind ss at) = block_depth ss + 1
  stmt_depth _ = 1

  pub block_depth : Stmts → ℕ
  block_depth Stmts.[] = 1
  block_depth (Stmts.◌∷◌ s ss) = max (stmt_depth s + 1) (block_depth ss)

abbrev pub body_depth : Option Stmts → ℕ
body_depth None = 0
body_depth (Some ss) = block_depth ss

-- a prototype and global variables have none
abbrev pub item_depth : Item → ℕ
item_depth (Shares gs) = 0
item_depth (Defines f) = body_depth f.body

abbrev pub program_depth : Program → ℕ
program_depth [] = 0
program_depth (i ∷ items) = max (item_depth i) (program_depth items)
