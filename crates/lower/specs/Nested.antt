-- Nesting of transactions in a function's text, statements and expressions. At most 16 may nest; a call starts from 0
-- again.
use Rattle.std.specs.Prelude.{ℕ, zero, suc, List, [], ◌∷◌, Option, Some, None}
use Rattle.std.specs.Option.{option_or}
use Rattle.syntax.specs.Tree.{Span, Expr, Exprs, Element, Call, Parenthesized, Cast, Unary, Binary, Logical}
use Rattle.syntax.specs.Tree.{Conditional, InTransaction, Simple, Evaluate, Assign, Adjust, Declarator}
use Rattle.syntax.specs.Tree.{Start, Nothing, Declares, Does, Stmt, Stmts, Declare, Do, Block, Print, If, IfElse}
use Rattle.syntax.specs.Tree.{While, DoWhile, For, Return, Transaction, Item, Defines, Shares, Program}

-- the keyword of the first transaction of an expression that is nested in so many others
abbrev mutual
  pub expr_too_deep : Expr → ℕ → Option Span
  expr_too_deep (Element x i at) n = expr_too_deep i n
  expr_too_deep (Call f es at) n = exprs_too_deep es n
  expr_too_deep (Parenthesized e at) n = expr_too_deep e n
  expr_too_deep (Cast t e at) n = expr_too_deep e n
  expr_too_deep (Unary op e at) n = expr_too_deep e n
  expr_too_deep (Binary op a b at) n = option_or (expr_too_deep a n) (expr_too_deep b n)
  expr_too_deep (Logical op a b at) n = option_or (expr_too_deep a n) (expr_too_deep b n)
  expr_too_deep (Conditional c a b at) n =
      option_or (expr_too_deep c n) (option_or (expr_too_deep a n) (expr_too_deep b n))
  expr_too_deep (InTransaction mode keyword e at) zero = Some keyword
  expr_too_deep (InTransaction mode keyword e at) (suc n) = expr_too_deep e n
  expr_too_deep e n = None

  pub exprs_too_deep : Exprs → ℕ → Option Span
  exprs_too_deep Exprs.[] n = None
  exprs_too_deep (Exprs.◌∷◌ e es) n = option_or (expr_too_deep e n) (exprs_too_deep es n)

-- the keyword of the first transaction of an optional part that is nested in so many others
abbrev pub too_deep_if_any : {A : Type 0} → (A → ℕ → Option Span) → Option A → ℕ → Option Span
too_deep_if_any deep None n = None
too_deep_if_any deep (Some x) n = deep x n

abbrev pub simple_too_deep : Simple → ℕ → Option Span
simple_too_deep (Evaluate e) n = expr_too_deep e n
simple_too_deep (Assign to op e) n = option_or (expr_too_deep to n) (expr_too_deep e n)
simple_too_deep (Adjust to by) n = expr_too_deep to n

abbrev pub declarators_too_deep : List Declarator → ℕ → Option Span
declarators_too_deep [] n = None
declarators_too_deep (d ∷ ds) n = option_or (too_deep_if_any expr_too_deep d.first n) (declarators_too_deep ds n)

abbrev pub start_too_deep : Start → ℕ → Option Span
start_too_deep Nothing n = None
start_too_deep (Declares d) n = declarators_too_deep d.declarators n
start_too_deep (Does s) n = simple_too_deep s n

-- the keyword of the first transaction of a statement that is nested in so many others, in the order of the text
abbrev mutual
  pub too_deep : Stmt → ℕ → Option Span
  too_deep (Declare d) n = declarators_too_deep d.declarators n
  too_deep (Do s) n = simple_too_deep s n
  too_deep (Block ss) n = any_too_deep ss n
  too_deep (Print at format format_at es) n = exprs_too_deep es n
  too_deep (If c a) n = option_or (expr_too_deep c n) (too_deep a n)
  too_deep (IfElse c a b) n = option_or (expr_too_deep c n) (option_or (too_deep a n) (too_deep b n))
  too_deep (While c a) n = option_or (expr_too_deep c n) (too_deep a n)
  too_deep (DoWhile a c) n = option_or (too_deep a n) (expr_too_deep c n)
  too_deep (For start c step a) n =
      option_or (start_too_deep start n)
      (option_or (too_deep_if_any expr_too_deep c n)
      (option_or (too_deep_if_any simple_too_deep step n) (too_deep a n)))
  too_deep (Return e at) n = too_deep_if_any expr_too_deep e n
  too_deep (Transaction kind ss at) zero = Some at
  too_deep (Transaction kind ss at) (suc n) = any_too_deep ss n
  too_deep s n = None

  pub any_too_deep : Stmts → ℕ → Option Span
  any_too_deep Stmts.[] n = None
  any_too_deep (Stmts.◌∷◌ s ss) n = option_or (too_deep s n) (any_too_deep ss n)

abbrev pub body_too_deep : Option Stmts → ℕ → Option Span
body_too_deep None n = None
body_too_deep (Some ss) n = any_too_deep ss n

abbrev pub item_too_deep : Item → ℕ → Option Span
item_too_deep (Shares gs) n = None
item_too_deep (Defines f) n = body_too_deep f.body n

abbrev pub items_too_deep : List Item → ℕ → Option Span
items_too_deep [] n = None
items_too_deep (item ∷ items) n = option_or (item_too_deep item n) (items_too_deep items n)

-- the keyword of the first transaction of a program that is nested in 16 others
abbrev pub nested_too_deep : Program → Option Span
nested_too_deep p = items_too_deep p 16
