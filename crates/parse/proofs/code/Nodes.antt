-- What is read of a statement whose parts were read.
use Rattle.std.proofs.Common.{◌≡◌, ℕ, suc, ◌+◌, true, false, List, [], ◌∷◌, Option, Some, None, Result, Ok, Err, refl, ◌∙◌, option_map, arith}
use Rattle.lex.specs.declared.token.Fixed.{Fixed}
use Rattle.lex.specs.declared.token.Fixed.TheVariants.{Keyword, Punctuator}
use Rattle.lex.specs.declared.token.Keyword.TheVariants as key
use Rattle.lex.specs.declared.token.Punctuator.TheVariants as punct
use Rattle.lex.specs.declared.token.Span.{Span}
use Rattle.lex.specs.Tokens.{fixed, Tok}
use Rattle.syntax.specs.declared.tree.Expr as E
use Rattle.syntax.specs.declared.tree.TransactionKind.{TransactionKind}
use Rattle.syntax.specs.declared.tree.Mode.{Mode}
use Rattle.syntax.specs.declared.tree.Stmt as S
use Rattle.syntax.specs.Tree.{Expr, Simple, Start, Stmt, Do, Print, While, DoWhile, For, Transaction}
use Rattle.syntax.specs.Views.{exprs_from, stmts_from, expr_of, stmt_of}
use Rattle.syntax.specs.Grammar.{the_text, mode_keyword}
use Rattle.syntax.specs.Phrases.{fixed_span}
use Rattle.syntax.proofs.trees.Seen as seen
use Rattle.parse.specs.inner.Reading.{Fault, deep, ◌>>=◌, head, is_next, map_parser, take, expect, expect_span, perhaps, behind, before, unless}
use Rattle.parse.specs.inner.Expressions.{whole_at, starts_type}
use Rattle.parse.specs.inner.Statements as read
use Rattle.parse.proofs.combinators.Exact.{taken_ok}
use Rattle.parse.proofs.combinators.FixedTokens.{fixed_is}
use Rattle.parse.proofs.combinators.Parts.{span_is_fixed}
use Rattle.parse.proofs.code.ExprSteps.{alone}
use Rattle.parse.proofs.code.Made.{second_is_left}

pub print_stmt_is : (d : ℕ) (ts t1 t2 t3 r : List Tok) (at : Span) (x : List ℕ × Span) (es : List Expr) → expect_span (Keyword key.Printf) ts ≡ Ok (at, t1) → expect (Punctuator punct.OpenParen) t1 ≡ Ok (tt, t2) → take the_text t2 ≡ Ok (x, t3) → read.print_arguments d t3 ≡ Ok (es, r)
    → read.print_stmt d ts ≡ Ok (Print at x.0 x.1 (exprs_from es), r)
print_stmt_is d ts t1 t2 t3 r at x es a b c e = rw (a, b, c, e) refl

-- a fixed token that was read, with its span
expect_span_is : (k : Fixed) (ts : List Tok) (at : Span) (r : List Tok) → expect_span k ts ≡ Ok (at, r) → ts ≡ record { terminal = fixed k; span = at } ∷ r
expect_span_is k [] at r e = absurd cc
expect_span_is k (t ∷ ts) at r e =
    let one = taken_ok (fixed_span k t) t ts at r e in
    let both = span_is_fixed k t at one.0 in
    let terminal = fixed_is k t tt both.0 in
    rw (← terminal, ← both.1, ← one.1) refl

-- ---- what fails behind a part that was read

pub rest_of_head_fails : (d : ℕ) (ts t1 : List Tok) (c : Option Expr) (f : Fault) → before (Punctuator punct.Semicolon) (unless (Punctuator punct.Semicolon) (whole_at d)) ts ≡ Ok (c, t1) → before (Punctuator punct.CloseParen) (unless (Punctuator punct.CloseParen) (read.simple_at d)) t1 ≡ Err f → read.rest_of_head d ts ≡ Err f
rest_of_head_fails d ts t1 c f a b = rw (a, b) refl

pub rest_of_head_is : (d : ℕ) (ts t1 r : List Tok) (c : Option Expr) (s : Option Simple) → before (Punctuator punct.Semicolon) (unless (Punctuator punct.Semicolon) (whole_at d)) ts ≡ Ok (c, t1) → before (Punctuator punct.CloseParen) (unless (Punctuator punct.CloseParen) (read.simple_at d)) t1 ≡ Ok (s, r) → read.rest_of_head d ts ≡ Ok ((c, s), r)
rest_of_head_is d ts t1 r c s a b = rw (a, b) refl

pub head_of_for_fails : (d : ℕ) (ts t1 t2 : List Tok) (s : Start) (f : Fault) → expect (Punctuator punct.OpenParen) ts ≡ Ok (tt, t1) → read.start d t1 ≡ Ok (s, t2) → read.rest_of_head d t2 ≡ Err f → read.head_of_for d ts ≡ Err f
head_of_for_fails d ts t1 t2 s f a b c = rw (a, b, c) refl

-- ---- what fails in a part of a statement fails in the whole

module _ (d : ℕ) (ts : List Tok) where
  pub while_stmt_none : (f : Fault) → expect (Keyword key.While) ts ≡ Err f → read.while_stmt d (read.stmt_at d) (read.block_at d) ts ≡ Err f
  while_stmt_none f e = rw e refl

  pub while_stmt_unless : (t1 : List Tok) (f : Fault) → expect (Keyword key.While) ts ≡ Ok (tt, t1) → read.in_parens (whole_at d) t1 ≡ Err f → read.while_stmt d (read.stmt_at d) (read.block_at d) ts ≡ Err f
  while_stmt_unless t1 f a e = rw (a, e) refl

  pub do_stmt_none : (f : Fault) → expect (Keyword key.Do) ts ≡ Err f → read.do_stmt d (read.stmt_at d) (read.block_at d) ts ≡ Err f
  do_stmt_none f e = rw e refl

  pub do_stmt_fails : (t1 : List Tok) (f : Fault) → expect (Keyword key.Do) ts ≡ Ok (tt, t1) → read.stmt_at d t1 ≡ Err f → read.do_stmt d (read.stmt_at d) (read.block_at d) ts ≡ Err f
  do_stmt_fails t1 f a e = rw (a, e) refl

  pub if_stmt_none : (f : Fault) → expect (Keyword key.If) ts ≡ Err f → read.if_stmt d (read.stmt_at d) (read.block_at d) ts ≡ Err f
  if_stmt_none f e = rw e refl

  pub if_stmt_unless : (t1 : List Tok) (f : Fault) → expect (Keyword key.If) ts ≡ Ok (tt, t1) → read.in_parens (whole_at d) t1 ≡ Err f → read.if_stmt d (read.stmt_at d) (read.block_at d) ts ≡ Err f
  if_stmt_unless t1 f a e = rw (a, e) refl

  pub branches_fail : (f : Fault) → read.stmt_at d ts ≡ Err f → read.branches (read.stmt_at d) ts ≡ Err f
  branches_fail f e = rw e refl

  pub no_else : is_next (Keyword key.Else) (head ts) ≡ false → perhaps (Keyword key.Else) (behind (Keyword key.Else) (read.stmt_at d)) ts ≡ Ok (None, ts)
  no_else h = rw h refl

  pub else_fails : (t1 : List Tok) (f : Fault) → is_next (Keyword key.Else) (head ts) ≡ true → expect (Keyword key.Else) ts ≡ Ok (tt, t1) → read.stmt_at d t1 ≡ Err f → perhaps (Keyword key.Else) (behind (Keyword key.Else) (read.stmt_at d)) ts ≡ Err f
  else_fails t1 f h a e = rw (h, a, e) refl

  pub else_is : (t1 r : List Tok) (s : Stmt) → is_next (Keyword key.Else) (head ts) ≡ true → expect (Keyword key.Else) ts ≡ Ok (tt, t1) → read.stmt_at d t1 ≡ Ok (s, r) → perhaps (Keyword key.Else) (behind (Keyword key.Else) (read.stmt_at d)) ts ≡ Ok (Some s, r)
  else_is t1 r s h a b = rw (h, a, b) refl

  pub for_stmt_none : (f : Fault) → expect (Keyword key.For) ts ≡ Err f → read.for_stmt d (read.stmt_at d) (read.block_at d) ts ≡ Err f
  for_stmt_none f e = rw e refl

  pub for_stmt_unless : (t1 : List Tok) (f : Fault) → expect (Keyword key.For) ts ≡ Ok (tt, t1) → read.head_of_for d t1 ≡ Err f → read.for_stmt d (read.stmt_at d) (read.block_at d) ts ≡ Err f
  for_stmt_unless t1 f a e = rw (a, e) refl

  pub transaction_stmt_none : (mode : Mode) (f : Fault) → expect_span (mode_keyword mode) ts ≡ Err f → read.transaction_stmt d (read.stmt_at d) (read.block_at d) mode ts ≡ Err f
  transaction_stmt_none mode f e = rw e refl

  pub entry_stmt : starts_type (head ts) ≡ false → read.entry d (read.stmt_at d) ts ≡ read.stmt_at d ts
  entry_stmt h = rw h refl

  pub entry_fails : (f : Fault) → starts_type (head ts) ≡ true → read.declaration_at d ts ≡ Err f → read.entry d (read.stmt_at d) ts ≡ Err f
  entry_fails f h e = rw (h, e) refl

-- ---- whole statements, where what is left of them is still to be read

module _ (d : ℕ) (ts t1 t2 : List Tok) where
  pub if_stmt_left : (c : Expr) → expect (Keyword key.If) ts ≡ Ok (tt, t1) → read.in_parens (whole_at d) t1 ≡ Ok (c, t2)
      → read.if_stmt d (read.stmt_at d) (read.block_at d) ts ≡ ◌>>=◌ {B = Stmt × List Tok} (read.branches (read.stmt_at d) t2) (λ x. Ok (read.if_tree (c, x.0), x.1))
  if_stmt_left c e a = second_is_left (Keyword key.If) (read.in_parens (whole_at d)) (read.branches (read.stmt_at d)) read.if_tree ts t1 t2 c e a

  pub while_stmt_left : (c : Expr) → expect (Keyword key.While) ts ≡ Ok (tt, t1) → read.in_parens (whole_at d) t1 ≡ Ok (c, t2)
      → read.while_stmt d (read.stmt_at d) (read.block_at d) ts ≡ ◌>>=◌ {B = Stmt × List Tok} (read.stmt_at d t2) (λ x. Ok (While c x.0, x.1))
  while_stmt_left c e a = second_is_left (Keyword key.While) (read.in_parens (whole_at d)) (read.stmt_at d) (λ x. While x.0 x.1) ts t1 t2 c e a

  pub do_stmt_left : (s : Stmt) → expect (Keyword key.Do) ts ≡ Ok (tt, t1) → read.stmt_at d t1 ≡ Ok (s, t2)
      → read.do_stmt d (read.stmt_at d) (read.block_at d) ts ≡ map_parser (DoWhile s) (read.end_of_do d) t2
  do_stmt_left s e a = second_is_left (Keyword key.Do) (read.stmt_at d) (read.end_of_do d) (λ x. DoWhile x.0 x.1) ts t1 t2 s e a

  pub for_stmt_left : (h : Start × (Option Expr × Option Simple)) → expect (Keyword key.For) ts ≡ Ok (tt, t1) → read.head_of_for d t1 ≡ Ok (h, t2)
      → read.for_stmt d (read.stmt_at d) (read.block_at d) ts ≡ ◌>>=◌ {B = Stmt × List Tok} (read.stmt_at d t2) (λ x. Ok (For h.0 h.1.0 h.1.1 x.0, x.1))
  for_stmt_left h e a = second_is_left (Keyword key.For) (read.head_of_for d) (read.stmt_at d) read.for_tree ts t1 t2 h e a

pub branches_left : (d : ℕ) (ts t1 : List Tok) (s : Stmt) → read.stmt_at d ts ≡ Ok (s, t1)
    → read.branches (read.stmt_at d) ts ≡ ◌>>=◌ {B = (Stmt × Option Stmt) × List Tok} (perhaps (Keyword key.Else) (behind (Keyword key.Else) (read.stmt_at d)) t1) (λ x. Ok ((s, x.0), x.1))
branches_left d ts t1 s a = rw a refl

-- ---- whole statements

-- behind the keyword of a transaction
module _ (d : ℕ) (mode : Mode) (ts t1 : List Tok) (at : Span) (keyword : expect_span (mode_keyword mode) ts ≡ Ok (at, t1)) where
  abbrev transaction : Result (Stmt × List Tok) Fault
  transaction = read.transaction_stmt d (read.stmt_at d) (read.block_at d) mode ts

  transaction_goes : transaction ≡ read.transaction_from d (read.stmt_at d) (read.block_at d) mode at t1
  transaction_goes = rw keyword (alone at (read.transaction_from d (read.stmt_at d) (read.block_at d) mode at t1))

  module _ (here : is_next (Punctuator punct.OpenParen) (head t1) ≡ true) where
    pub value_stmt_deep : d ≡ 0 → transaction ≡ Err (deep t1)
    value_stmt_deep z = transaction_goes ∙ rw (here, z) refl

    pub value_stmt_is : (b : ℕ) → b + 1 ≡ d → transaction ≡ map_parser Do (before (Punctuator punct.Semicolon) (read.simple_at (d + 1))) ts
    value_stmt_is b e =
        let n : d ≡ suc b = omega (arith, e) in
        let m : d + 1 ≡ suc (suc b) = omega (arith, e) in
        transaction_goes ∙ rw (here, m, expect_span_is (mode_keyword mode) ts at t1 keyword) (rw n refl)

  module _ (other : is_next (Punctuator punct.OpenParen) (head t1) ≡ false) where
    pub kind_fails : (f : Fault) → read.kind mode t1 ≡ Err f → transaction ≡ Err f
    kind_fails f e = transaction_goes ∙ rw (other, e) refl

    module _ (k : TransactionKind) (t2 : List Tok) (kind_read : read.kind mode t1 ≡ Ok (k, t2)) where
      pub transaction_stmt_fails : (f : Fault) → read.block_at d t2 ≡ Err f → transaction ≡ Err f
      transaction_stmt_fails f e = transaction_goes ∙ rw (other, kind_read, e) refl

      pub transaction_stmt_is : (body : List Stmt) (r : List Tok) → read.block_at d t2 ≡ Ok (body, r) → transaction ≡ Ok (Transaction k (stmts_from body) at, r)
      transaction_stmt_is body r e = transaction_goes ∙ rw (other, kind_read, e) refl

-- an if with an else or without one
pub stmt_of_any_if : {A : Type 0} (c : E.Expr A) (a : S.Stmt A) (b : Option (S.Stmt A)) → stmt_of (S.If c a b) ≡ read.if_tree (expr_of c, (stmt_of a, option_map stmt_of b))
stmt_of_any_if c a None = seen.stmt_of_if c a
stmt_of_any_if c a (Some b) = seen.stmt_of_if_else c a b
