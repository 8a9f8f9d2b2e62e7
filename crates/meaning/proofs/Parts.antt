-- The clean tree of a node, by the parts that are read of it.
use Rattle.std.proofs.Common.{◌≡◌, ℕ, List, Option, Some, None, map, option_map, sym, ap, ◌∙◌}
use Rattle.lex.specs.declared.token.Span.{Span}
use Rattle.lex.specs.declared.token.Scalar.{Scalar}
use Rattle.syntax.specs.declared.tree.UnaryOp.{UnaryOp}
use Rattle.syntax.specs.declared.tree.BinaryOp.{BinaryOp}
use Rattle.syntax.specs.declared.tree.LogicalOp.{LogicalOp}
use Rattle.syntax.specs.declared.tree.Mode.{Mode}
use Rattle.syntax.specs.declared.tree.TransactionKind.{TransactionKind}
use Rattle.syntax.specs.declared.tree.Name as N
use Rattle.syntax.specs.declared.tree.Expr as E
use Rattle.syntax.specs.declared.tree.Declaration as D
use Rattle.syntax.specs.declared.tree.Declarator as R
use Rattle.syntax.specs.declared.tree.ForHead as H
use Rattle.syntax.specs.declared.tree.Simple.{Simple}
use Rattle.syntax.specs.declared.tree.Stmt as S
use Rattle.syntax.specs.declared.tree.Stmt.TheOpen.{Stmt-F}
use Rattle.syntax.specs.declared.tree.Stmt.TheFolds.{fold-roll-Stmt}
use Rattle.syntax.specs.declared.tree.Stmt.TheVariants as SV
use Rattle.syntax.specs.Tree as Tree
use Rattle.syntax.specs.Views.{name_of, expr_of, exprs_of, simple_of, declarator_of, start_of, stmt_of, stmt_step, stmts_of}
use Rattle.syntax.proofs.trees.Seen.{expr_of_call, expr_of_element, expr_of_parenthesized, expr_of_cast, expr_of_unary, expr_of_binary, expr_of_logical, expr_of_conditional, expr_of_in_transaction, stmt_of_declare, stmt_of_block, stmt_of_print, stmt_of_if, stmt_of_if_else, stmt_of_while, stmt_of_do_while, stmt_of_for, stmt_of_return, stmt_of_transaction}
use Rattle.meaning.specs.inner.Does.{if_of}

module _ {A : Type 0} where
  pub call_is : (e : E.Expr A) (f : N.Name A) (es es' : List (E.Expr A)) (at : Span) → e ≡ E.Call f es at → es' ≡ es → expr_of e ≡ Tree.Call (name_of f) (exprs_of es') at
  call_is e f es es' at is a = ap expr_of is ∙ expr_of_call f es at ∙ ap (λ y. Tree.Call (name_of f) (exprs_of y) at) (sym a)

  pub element_is : (e : E.Expr A) (x : N.Name A) (i i' : E.Expr A) (at : Span) → e ≡ E.Element x i at → i' ≡ i → expr_of e ≡ Tree.Element (name_of x) (expr_of i') at
  element_is e x i i' at is f = ap expr_of is ∙ expr_of_element x i at ∙ ap (λ y. Tree.Element (name_of x) (expr_of y) at) (sym f)

  pub parenthesized_is : (e a a' : E.Expr A) (at : Span) → e ≡ E.Parenthesized a at → a' ≡ a → expr_of e ≡ Tree.Parenthesized (expr_of a') at
  parenthesized_is e a a' at is f = ap expr_of is ∙ expr_of_parenthesized a at ∙ ap (λ y. Tree.Parenthesized (expr_of y) at) (sym f)

  pub cast_is : (e : E.Expr A) (t : Scalar) (a a' : E.Expr A) (at : Span) → e ≡ E.Cast t a at → a' ≡ a → expr_of e ≡ Tree.Cast t (expr_of a') at
  cast_is e t a a' at is f = ap expr_of is ∙ expr_of_cast t a at ∙ ap (λ y. Tree.Cast t (expr_of y) at) (sym f)

  pub unary_is : (e : E.Expr A) (op : UnaryOp) (a a' : E.Expr A) (at : Span) → e ≡ E.Unary op a at → a' ≡ a → expr_of e ≡ Tree.Unary op (expr_of a') at
  unary_is e op a a' at is f = ap expr_of is ∙ expr_of_unary op a at ∙ ap (λ y. Tree.Unary op (expr_of y) at) (sym f)

  pub binary_is : (e : E.Expr A) (op : BinaryOp) (a b a' b' : E.Expr A) (at : Span) → e ≡ E.Binary op a b at → a' ≡ a → b' ≡ b → expr_of e ≡ Tree.Binary op (expr_of a') (expr_of b') at
  binary_is e op a b a' b' at is f g =
      ap expr_of is ∙ expr_of_binary op a b at ∙ ap (λ y. Tree.Binary op (expr_of y) (expr_of b) at) (sym f) ∙ ap (λ y. Tree.Binary op (expr_of a') (expr_of y) at) (sym g)

  pub logical_is : (e : E.Expr A) (op : LogicalOp) (a b a' b' : E.Expr A) (at : Span) → e ≡ E.Logical op a b at → a' ≡ a → b' ≡ b → expr_of e ≡ Tree.Logical op (expr_of a') (expr_of b') at
  logical_is e op a b a' b' at is f g =
      ap expr_of is ∙ expr_of_logical op a b at ∙ ap (λ y. Tree.Logical op (expr_of y) (expr_of b) at) (sym f) ∙ ap (λ y. Tree.Logical op (expr_of a') (expr_of y) at) (sym g)

  pub conditional_is : (e c a b c' a' b' : E.Expr A) (at : Span) → e ≡ E.Conditional c a b at → c' ≡ c → a' ≡ a → b' ≡ b → expr_of e ≡ Tree.Conditional (expr_of c') (expr_of a') (expr_of b') at
  conditional_is e c a b c' a' b' at is k f g =
      ap expr_of is ∙ expr_of_conditional c a b at ∙ ap (λ y. Tree.Conditional (expr_of y) (expr_of a) (expr_of b) at) (sym k)
      ∙ ap (λ y. Tree.Conditional (expr_of c') (expr_of y) (expr_of b) at) (sym f) ∙ ap (λ y. Tree.Conditional (expr_of c') (expr_of a') (expr_of y) at) (sym g)

  pub in_transaction_is : (e : E.Expr A) (mode : Mode) (keyword : Span) (a a' : E.Expr A) (at : Span) → e ≡ E.InTransaction mode keyword a at → a' ≡ a → expr_of e ≡ Tree.InTransaction mode keyword (expr_of a') at
  in_transaction_is e mode keyword a a' at is f = ap expr_of is ∙ expr_of_in_transaction mode keyword a at ∙ ap (λ y. Tree.InTransaction mode keyword (expr_of y) at) (sym f)

  pub declare_is : (s : S.Stmt A) (d : D.Declaration A) (ds : List (R.Declarator A)) → s ≡ S.Declare d → ds ≡ d.declarators → stmt_of s ≡ Tree.Declare (record { ty = d.ty; declarators = map declarator_of ds })
  declare_is s d ds is a = ap stmt_of is ∙ stmt_of_declare d ∙ ap (λ y. Tree.Declare (record { ty = d.ty; declarators = map declarator_of y })) (sym a)

  pub do_is : (s : S.Stmt A) (i : Simple A) → s ≡ S.Do i → stmt_of s ≡ Tree.Do (simple_of i)
  do_is s i is = ap stmt_of (is ∙ sym (SV.rolls-Do i)) ∙ fold-roll-Stmt A Tree.Stmt stmt_step (Stmt-F.Do i)

  pub block_is : (s : S.Stmt A) (ss ss' : List (S.Stmt A)) → s ≡ S.Block ss → ss' ≡ ss → stmt_of s ≡ Tree.Block (stmts_of ss')
  block_is s ss ss' is a = ap stmt_of is ∙ stmt_of_block ss ∙ ap (λ y. Tree.Block (stmts_of y)) (sym a)

  pub print_is : (s : S.Stmt A) (at : Span) (text text' : List ℕ) (text_at : Span) (es es' : List (E.Expr A)) → s ≡ S.Print at text text_at es → text' ≡ text → es' ≡ es → stmt_of s ≡ Tree.Print at text' text_at (exprs_of es')
  print_is s at text text' text_at es es' is t a =
      ap stmt_of is ∙ stmt_of_print at text text_at es ∙ ap (λ y. Tree.Print at y text_at (exprs_of es)) (sym t) ∙ ap (λ y. Tree.Print at text' text_at (exprs_of y)) (sym a)

  pub if_is : (s : S.Stmt A) (c : E.Expr A) (a a' : S.Stmt A) (b : Option (S.Stmt A)) → s ≡ S.If c a b → a' ≡ a → stmt_of s ≡ if_of (expr_of c) (stmt_of a') (option_map stmt_of b)
  if_is s c a a' None is k = ap stmt_of is ∙ stmt_of_if c a ∙ ap (λ y. Tree.If (expr_of c) (stmt_of y)) (sym k)
  if_is s c a a' (Some b) is k = ap stmt_of is ∙ stmt_of_if_else c a b ∙ ap (λ y. Tree.IfElse (expr_of c) (stmt_of y) (stmt_of b)) (sym k)

  pub while_is : (s : S.Stmt A) (c : E.Expr A) (a a' : S.Stmt A) → s ≡ S.While c a → a' ≡ a → stmt_of s ≡ Tree.While (expr_of c) (stmt_of a')
  while_is s c a a' is k = ap stmt_of is ∙ stmt_of_while c a ∙ ap (λ y. Tree.While (expr_of c) (stmt_of y)) (sym k)

  pub do_while_is : (s : S.Stmt A) (a a' : S.Stmt A) (c : E.Expr A) → s ≡ S.DoWhile a c → a' ≡ a → stmt_of s ≡ Tree.DoWhile (stmt_of a') (expr_of c)
  do_while_is s a a' c is k = ap stmt_of is ∙ stmt_of_do_while a c ∙ ap (λ y. Tree.DoWhile (stmt_of y) (expr_of c)) (sym k)

  pub for_is : (s : S.Stmt A) (head head' : H.ForHead A) (a a' : S.Stmt A) → s ≡ S.For head a → head' ≡ head → a' ≡ a →
      stmt_of s ≡ Tree.For (start_of head'.start) (option_map expr_of head'.condition) (option_map simple_of head'.step) (stmt_of a')
  for_is s head head' a a' is h k =
      ap stmt_of is ∙ stmt_of_for head a ∙ ap (λ y. Tree.For (start_of y.start) (option_map expr_of y.condition) (option_map simple_of y.step) (stmt_of a)) (sym h)
      ∙ ap (λ y. Tree.For (start_of head'.start) (option_map expr_of head'.condition) (option_map simple_of head'.step) (stmt_of y)) (sym k)

  pub return_is : (s : S.Stmt A) (e : Option (E.Expr A)) (at : Span) → s ≡ S.Return e at → stmt_of s ≡ Tree.Return (option_map expr_of e) at
  return_is s e at is = ap stmt_of is ∙ stmt_of_return e at

  pub transaction_is : (s : S.Stmt A) (kind : TransactionKind) (ss ss' : List (S.Stmt A)) (at : Span) → s ≡ S.Transaction kind ss at → ss' ≡ ss → stmt_of s ≡ Tree.Transaction kind (stmts_of ss') at
  transaction_is s kind ss ss' at is a = ap stmt_of is ∙ stmt_of_transaction kind ss at ∙ ap (λ y. Tree.Transaction kind (stmts_of y) at) (sym a)
