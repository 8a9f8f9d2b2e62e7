-- A part of a tree is less deep than the whole.
use Rattle.std.proofs.Common.{◌≡◌, ℕ, ◌+◌, ◌<◌, ◌≤◌, List, Option, Some, None, max, map, option_map, length, get_or, zero, suc, [], ◌∷◌, sym, ap, ◌∙◌, arith}
use Rattle.lex.specs.declared.token.Span.{Span}
use Rattle.syntax.specs.declared.tree.TransactionKind.{TransactionKind}
use Rattle.syntax.specs.declared.tree.Expr as E
use Rattle.syntax.specs.declared.tree.Declarator as R
use Rattle.syntax.specs.declared.tree.Stmt as S
use Rattle.syntax.specs.declared.tree.Simple.{Simple}
use Rattle.syntax.specs.Tree as Tree
use Rattle.syntax.specs.declared.tree.Stmt.TheOpen.{Stmt-F}
use Rattle.syntax.specs.declared.tree.Stmt.TheFolds.{fold-roll-Stmt}
use Rattle.syntax.specs.declared.tree.Stmt.TheVariants as SV
use Rattle.syntax.specs.Views.{expr_of, exprs_of, simple_of, declarator_of, stmt_step, stmt_of, stmts_of}
use Rattle.syntax.specs.Depth.{expr_depth, deepest, optional_depth, simple_depth, deepest_value, stmt_depth, block_depth}
use Rattle.syntax.proofs.trees.Seen.{stmt_of_block, stmt_of_transaction}
use Rattle.meaning.specs.inner.Does.{else_depth}
use Rattle.meaning.proofs.Parts.{if_is}

one : (d part whole : ℕ) → whole ≡ part + 1 → d ≡ part → d + 1 ≤ whole
one d part whole a b = omega (arith, a, b)

same : (d part whole : ℕ) → whole ≡ part → d ≡ part → d ≤ whole
same d part whole a b = omega (arith, a, b)

module _ {A : Type 0} where
  pub block_deep : (s : S.Stmt A) (ss ss' : List (S.Stmt A)) → s ≡ S.Block ss → ss' ≡ ss → block_depth (stmts_of ss') ≤ stmt_depth (stmt_of s)
  block_deep s ss ss' is a = same _ _ _ (ap (λ y. stmt_depth (stmt_of y)) is ∙ ap stmt_depth (stmt_of_block ss)) (ap (λ y. block_depth (stmts_of y)) a)

  pub transaction_deep : (s : S.Stmt A) (kind : TransactionKind) (ss ss' : List (S.Stmt A)) (at : Span) → s ≡ S.Transaction kind ss at → ss' ≡ ss → block_depth (stmts_of ss') + 1 ≤ stmt_depth (stmt_of s)
  transaction_deep s kind ss ss' at is a = one _ _ _ (ap (λ y. stmt_depth (stmt_of y)) is ∙ ap stmt_depth (stmt_of_transaction kind ss at)) (ap (λ y. block_depth (stmts_of y)) a)

  pub do_deep : (s : S.Stmt A) (a : Simple A) → s ≡ S.Do a → stmt_depth (stmt_of s) ≡ simple_depth (simple_of a)
  do_deep s a is = ap (λ y. stmt_depth (stmt_of y)) (is ∙ sym (SV.rolls-Do a)) ∙ ap stmt_depth (fold-roll-Stmt A Tree.Stmt stmt_step (Stmt-F.Do a))

  pub if_deep : (s : S.Stmt A) (c : E.Expr A) (a a' : S.Stmt A) (b : Option (S.Stmt A)) → s ≡ S.If c a b → a' ≡ a → stmt_depth (stmt_of s) ≡ max (expr_depth (expr_of c)) (max (stmt_depth (stmt_of a')) (else_depth (option_map stmt_of b))) + 1
  if_deep s c a a' None is k = let e = ap stmt_depth (if_is s c a a' None is k) in omega (arith, e)
  if_deep s c a a' (Some b) is k = ap stmt_depth (if_is s c a a' (Some b) is k)

  -- an element of a list
  pub argument_deep : (es : List (E.Expr A)) (i : ℕ) (e : E.Expr A) → i < length es → e ≡ get_or es i e → expr_depth (expr_of e) ≤ deepest (exprs_of es)
  argument_deep [] i e h is = absurd (omega (arith, h))
  argument_deep (x ∷ es) zero e h is = let k = ap (λ y. expr_depth (expr_of y)) is in omega (arith, k)
  argument_deep (x ∷ es) (suc i) e h is = let k = argument_deep es i e (omega (arith, h)) is in omega (arith, k)

  pub statement_deep : (ss : List (S.Stmt A)) (i : ℕ) (s : S.Stmt A) → i < length ss → s ≡ get_or ss i s → stmt_depth (stmt_of s) + 1 ≤ block_depth (stmts_of ss)
  statement_deep [] i s h is = absurd (omega (arith, h))
  statement_deep (x ∷ ss) zero s h is = let k = ap (λ y. stmt_depth (stmt_of y)) is in omega (arith, k)
  statement_deep (x ∷ ss) (suc i) s h is = let k = statement_deep ss i s (omega (arith, h)) is in omega (arith, k)

  pub declarator_deep : (ds : List (R.Declarator A)) (i : ℕ) (d : R.Declarator A) → i < length ds → d ≡ get_or ds i d → optional_depth (option_map expr_of d.first) ≤ deepest_value (map declarator_of ds)
  declarator_deep [] i d h is = absurd (omega (arith, h))
  declarator_deep (x ∷ ds) zero d h is = let k = ap (λ y. optional_depth (option_map expr_of y.first)) is in omega (arith, k)
  declarator_deep (x ∷ ds) (suc i) d h is = let k = declarator_deep ds i d (omega (arith, h)) is in omega (arith, k)
