-- The results of the parser's functions on statements, as functions on lists.
use Rattle.std.specs.Prelude.{◌≡◌, ℕ, zero, suc, Bool, true, false, List, ◌∷◌, Option, Some, None, Ok, if◌then◌else◌}
use Rattle.std.specs.Borrow.{Bor}
use Rattle.lex.specs.declared.token.Fixed.{Fixed}
use Rattle.lex.specs.declared.token.Fixed.TheVariants.{Keyword, Punctuator}
use Rattle.lex.specs.declared.token.Keyword.TheVariants as key
use Rattle.lex.specs.declared.token.Punctuator.TheVariants as punct
use Rattle.lex.specs.declared.token.Scalar.{Scalar}
use Rattle.lex.specs.declared.token.Span.{Span}
use Rattle.lex.specs.declared.token.Token.{Token}
use Rattle.lex.specs.Tokens.{Terminal, name, constant, string_literal, fixed, reserved, Tok, toks}
use Rattle.syntax.specs.declared.tree.TransactionKind.{TransactionKind}
use Rattle.syntax.specs.declared.tree.TransactionKind.TheVariants.{Plain, Outer}
use Rattle.syntax.specs.declared.tree.Mode.{Mode}
use Rattle.syntax.specs.declared.tree.Mode.TheVariants.{Atomic, Relaxed}
use Rattle.syntax.specs.Tree.{Name, Expr, Simple, Evaluate, Assign, Adjust, Declarator, Declaration, Start, Nothing}
use Rattle.syntax.specs.Tree.{Declares, Does, Stmt, Empty, Declare, Do, Block, Print, If, IfElse, While, DoWhile, For}
use Rattle.syntax.specs.Tree.{Break, Continue, Return, Transaction, Cancel, CancelOuter}
use Rattle.syntax.specs.Views.{exprs_from, stmts_from}
use Rattle.syntax.specs.Grammar.{the_name, the_text, the_outer, the_assigning, the_step, mode_keyword}
use Rattle.parse.specs.declared.lead.Lead.{Lead}
use Rattle.parse.specs.declared.lead.Lead.TheVariants as lead
use Rattle.parse.specs.inner.Reading.{Parser, head, give, bind, seq, map_parser, choice, either, too_deep_at}
use Rattle.parse.specs.inner.Reading.{unless_too_deep}
use Rattle.parse.specs.inner.Reading.{many_until, unless, comma_list, take, expect, expect_span, is_next, is_other}
use Rattle.parse.specs.inner.Reading.{perhaps}
use Rattle.parse.specs.inner.Reading.{behind, before}
use Rattle.parse.specs.inner.Expressions.{says, starts_type, scalar, starts_expr, whole_at}

-- what a function found at the front: a token of this kind, and the tokens after it, or none
abbrev pub GivesToken : {A : Type 0} → (Tok → Option A) → List Tok → Option (A × Bor (List Token)) → Type 0
GivesToken f ts None = says f (head ts) ≡ false
GivesToken f ts (Some x) = (says f (head ts) ≡ true) × (take f ts ≡ Ok (x.0, toks (x.1).now))

-- ---- assignments, steps and values; whole: any expression

module _ (whole : Parser Expr) where
  -- `++e` and `--e`
  abbrev pub prefix_step : Parser Simple
  prefix_step = map_parser (λ x. Adjust x.1 x.0) (seq (take the_step) whole)

  -- an assignment, after its left side
  abbrev pub assigned_from : Expr → Parser Simple
  assigned_from to = map_parser (λ x. Assign to x.0 x.1) (seq (take the_assigning) whole)

  abbrev pub changed_from : Expr → Parser Simple
  changed_from to = map_parser (Adjust to) (take the_step)

  abbrev pub simple_from : Expr → Parser Simple
  simple_from to =
      either (says the_assigning) (assigned_from to) (either (says the_step) (changed_from to) (give (Evaluate to)))

  abbrev pub simple : Parser Simple
  simple = either (says the_step) prefix_step (map_parser (λ x. x.1) (bind whole simple_from))

abbrev pub starts_simple : Option Tok → Bool
starts_simple h = if says the_step h then true else starts_expr h

-- what a semicolon follows, within this depth
abbrev pub simple_at : ℕ → Parser Simple
simple_at zero = too_deep_at starts_simple
simple_at (suc d) = simple (whole_at d)

-- ---- declarations

abbrev pub declarator_tree : Name × Option Expr → Declarator
declarator_tree x = record { name = x.0; first = x.1 }

abbrev pub declaration_tree : Scalar × List Declarator → Declaration
declaration_tree x = record { ty = x.0; declarators = x.1 }

module _ (whole : Parser Expr) where
  abbrev pub declarator : Parser Declarator
  declarator =
      map_parser declarator_tree
      (seq (take the_name) (perhaps (Punctuator punct.Assign) (behind (Punctuator punct.Assign) whole)))

  abbrev pub declaration : Parser Declaration
  declaration = map_parser declaration_tree (seq scalar (before (Punctuator punct.Semicolon) (comma_list declarator)))

abbrev pub declaration_at : ℕ → Parser Declaration
declaration_at zero = too_deep_at starts_type
declaration_at (suc d) = declaration (whole_at d)

-- ---- the first tokens of statements

abbrev pub lead_fixed : Fixed → Lead
lead_fixed (Punctuator punct.Semicolon) = lead.Empty
lead_fixed (Punctuator punct.OpenBrace) = lead.Block
lead_fixed (Keyword key.Printf) = lead.Print
lead_fixed (Keyword key.If) = lead.If
lead_fixed (Keyword key.While) = lead.While
lead_fixed (Keyword key.Do) = lead.Do
lead_fixed (Keyword key.For) = lead.For
lead_fixed (Keyword key.Break) = lead.Break
lead_fixed (Keyword key.Continue) = lead.Continue
lead_fixed (Keyword key.Return) = lead.Return
lead_fixed (Keyword key.Atomic) = lead.Transaction Atomic
lead_fixed (Keyword key.Relaxed) = lead.Transaction Relaxed
lead_fixed (Keyword key.Cancel) = lead.Cancel
lead_fixed _ = lead.Simple

abbrev pub lead_terminal : Terminal → Lead
lead_terminal (name s) = lead.Simple
lead_terminal (constant n ty) = lead.Simple
lead_terminal (string_literal s) = lead.Simple
lead_terminal (fixed k) = lead_fixed k
lead_terminal reserved = lead.Simple

-- the kind of statement that a token begins
abbrev pub lead_at : Option Tok → Lead
lead_at None = lead.Simple
lead_at (Some t) = lead_terminal t.terminal

abbrev pub is_lead : Lead → Option Tok → Bool
is_lead lead.Simple h = starts_simple h
is_lead _ h = true

abbrev pub starts_stmt : Option Tok → Bool
starts_stmt h = is_lead (lead_at h) h

-- ---- the attribute `outer` of a transaction, and of its cancel

abbrev pub begins_outer_attribute : Option Tok → Bool
begins_outer_attribute h = if is_next (Punctuator punct.OpenBracket) h then true else is_next (Keyword key.Attribute) h

abbrev pub enclosed_outer : Fixed → Fixed → Parser (Unit {0})
enclosed_outer opening closing = behind opening (behind opening (before closing (before closing (take the_outer))))

abbrev pub outer_attribute : Parser (Unit {0})
outer_attribute =
    either (is_next (Punctuator punct.OpenBracket))
    (enclosed_outer (Punctuator punct.OpenBracket) (Punctuator punct.CloseBracket))
    (behind (Keyword key.Attribute) (enclosed_outer (Punctuator punct.OpenParen) (Punctuator punct.CloseParen)))

-- whether the attribute `outer` is next
abbrev pub outer_attribute_if_any : Parser Bool
outer_attribute_if_any = either begins_outer_attribute (map_parser (λ x. true) outer_attribute) (give false)

abbrev pub atomic_kind : Bool → TransactionKind
atomic_kind true = Outer
atomic_kind false = Plain Atomic

-- the kind of a transaction, after its keyword
abbrev pub kind : Mode → Parser TransactionKind
kind Atomic = map_parser atomic_kind outer_attribute_if_any
kind Relaxed = give (Plain Relaxed)

abbrev pub cancel_tree : Span × Bool → Stmt
cancel_tree (at, true) = CancelOuter at
cancel_tree (at, false) = Cancel at

abbrev pub cancel_stmt : Parser Stmt
cancel_stmt =
    map_parser cancel_tree
    (seq (expect_span (Keyword key.Cancel)) (before (Punctuator punct.Semicolon) outer_attribute_if_any))

-- ---- statements

abbrev pub if_tree : Expr × (Stmt × Option Stmt) → Stmt
if_tree (c, (a, None)) = If c a
if_tree (c, (a, Some b)) = IfElse c a b

abbrev pub print_tree : Span × ((List ℕ × Span) × List Expr) → Stmt
print_tree x = Print x.0 x.1.0.0 x.1.0.1 (exprs_from x.1.1)

abbrev pub for_tree : (Start × (Option Expr × Option Simple)) × Stmt → Stmt
for_tree x = For x.0.0 x.0.1.0 x.0.1.1 x.1

abbrev pub in_parens : {A : Type 0} → Parser A → Parser A
in_parens P = behind (Punctuator punct.OpenParen) (before (Punctuator punct.CloseParen) P)

-- the contents of braces
abbrev pub block_items : {A : Type 0} → Parser A → Parser (List A)
block_items P =
    behind (Punctuator punct.OpenBrace)
    (before (Punctuator punct.CloseBrace) (many_until (is_next (Punctuator punct.CloseBrace)) P))

-- the branches of an if; stmt: a statement
abbrev pub branches : Parser Stmt → Parser (Stmt × Option Stmt)
branches stmt = seq stmt (perhaps (Keyword key.Else) (behind (Keyword key.Else) stmt))

-- the keyword of a transaction, with its span
abbrev pub mode_token : Mode → Span → Tok
mode_token mode at = record { terminal = fixed (mode_keyword mode); span = at }

-- d: the depth of a statement's parts
module _ (d : ℕ) where
  -- an entry of a block; stmt: a statement
  abbrev pub entry : Parser Stmt → Parser Stmt
  entry stmt = either starts_type (map_parser Declare (declaration_at d)) stmt

  abbrev pub empty_stmt : Parser Stmt
  empty_stmt = map_parser (λ x. Empty) (expect (Punctuator punct.Semicolon))

  -- what follows the format
  abbrev pub print_arguments : Parser (List Expr)
  print_arguments =
      before (Punctuator punct.Semicolon)
      (before (Punctuator punct.CloseParen)
      (many_until (is_other (Punctuator punct.Comma)) (behind (Punctuator punct.Comma) (whole_at d))))

  abbrev pub print_stmt : Parser Stmt
  print_stmt =
      map_parser print_tree
      (seq (expect_span (Keyword key.Printf))
      (behind (Punctuator punct.OpenParen) (seq (take the_text) print_arguments)))

  abbrev pub start : Parser Start
  start =
      either (is_next (Punctuator punct.Semicolon)) (map_parser (λ x. Nothing) (expect (Punctuator punct.Semicolon)))
      (either starts_type (map_parser Declares (declaration_at d))
      (map_parser Does (before (Punctuator punct.Semicolon) (simple_at d))))

  -- the condition and the step of a for
  abbrev pub rest_of_head : Parser (Option Expr × Option Simple)
  rest_of_head =
      seq (before (Punctuator punct.Semicolon) (unless (Punctuator punct.Semicolon) (whole_at d)))
      (before (Punctuator punct.CloseParen) (unless (Punctuator punct.CloseParen) (simple_at d)))

  abbrev pub head_of_for : Parser (Start × (Option Expr × Option Simple))
  head_of_for = behind (Punctuator punct.OpenParen) (seq start rest_of_head)

  -- what follows the body of a do
  abbrev pub end_of_do : Parser Expr
  end_of_do = behind (Keyword key.While) (before (Punctuator punct.Semicolon) (in_parens (whole_at d)))

  abbrev pub alone_stmt : Fixed → (Span → Stmt) → Parser Stmt
  alone_stmt k tree = map_parser tree (before (Punctuator punct.Semicolon) (expect_span k))

  abbrev pub return_stmt : Parser Stmt
  return_stmt =
      map_parser (λ x. Return x.1 x.0)
      (seq (expect_span (Keyword key.Return))
      (before (Punctuator punct.Semicolon) (unless (Punctuator punct.Semicolon) (whole_at d))))

  abbrev pub simple_stmt : Parser Stmt
  simple_stmt = map_parser Do (before (Punctuator punct.Semicolon) (simple_at (suc d)))

  -- a statement after the keyword of a transaction, which has a span: an expression begins with it
  abbrev pub value_stmt : Mode → Span → Parser Stmt
  value_stmt mode at = unless_too_deep d (λ ts. simple_stmt (mode_token mode at ∷ ts))

  -- stmt: a statement; block: statements in braces
  module _ (stmt : Parser Stmt) (block : Parser (List Stmt)) where
    abbrev pub if_stmt : Parser Stmt
    if_stmt = map_parser if_tree (behind (Keyword key.If) (seq (in_parens (whole_at d)) (branches stmt)))

    abbrev pub while_stmt : Parser Stmt
    while_stmt = map_parser (λ x. While x.0 x.1) (behind (Keyword key.While) (seq (in_parens (whole_at d)) stmt))

    abbrev pub do_stmt : Parser Stmt
    do_stmt = map_parser (λ x. DoWhile x.0 x.1) (behind (Keyword key.Do) (seq stmt end_of_do))

    abbrev pub for_stmt : Parser Stmt
    for_stmt = map_parser for_tree (behind (Keyword key.For) (seq head_of_for stmt))

    -- a statement that is a transaction, after its keyword, which has a span
    abbrev pub transaction_from : Mode → Span → Parser Stmt
    transaction_from mode at =
        either (is_next (Punctuator punct.OpenParen)) (value_stmt mode at)
        (map_parser (λ x. Transaction x.0 (stmts_from x.1) at) (seq (kind mode) block))

    abbrev pub transaction_stmt : Mode → Parser Stmt
    transaction_stmt mode = map_parser (λ x. x.1) (bind (expect_span (mode_keyword mode)) (transaction_from mode))

    abbrev pub block_stmt : Parser Stmt
    block_stmt = map_parser (λ x. Block (stmts_from x)) (block_items (entry stmt))

    abbrev pub stmt_of : Lead → Parser Stmt
    stmt_of lead.Empty = empty_stmt
    stmt_of lead.Block = block_stmt
    stmt_of lead.Print = print_stmt
    stmt_of lead.If = if_stmt
    stmt_of lead.While = while_stmt
    stmt_of lead.Do = do_stmt
    stmt_of lead.For = for_stmt
    stmt_of lead.Break = alone_stmt (Keyword key.Break) Break
    stmt_of lead.Continue = alone_stmt (Keyword key.Continue) Continue
    stmt_of lead.Return = return_stmt
    stmt_of (lead.Transaction mode) = transaction_stmt mode
    stmt_of lead.Cancel = cancel_stmt
    stmt_of lead.Simple = simple_stmt

    abbrev pub any_stmt : Parser Stmt
    any_stmt = choice (λ h. stmt_of (lead_at h))

unfoldable mutual
  -- a statement within this depth
  pub stmt_at : ℕ → Parser Stmt
  stmt_at zero ts = too_deep_at starts_stmt ts
  stmt_at (suc d) ts = any_stmt d (stmt_at d) (block_at d) ts

  -- statements and declarations in braces, within this depth
  pub block_at : ℕ → Parser (List Stmt)
  block_at zero ts = too_deep_at (is_next (Punctuator punct.OpenBrace)) ts
  block_at (suc d) ts = block_items (entry d (stmt_at d)) ts
