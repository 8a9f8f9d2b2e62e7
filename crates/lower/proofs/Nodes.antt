-- The clean tree of a statement by the parts that are read of it, and what is picked for it there.
use Rattle.std.proofs.Common.{◌≡◌, ℕ, List, map, Option, Some, None, option_map, Result, OnOk, sym, ap, subst, ◌∙◌}
use Rattle.lex.specs.declared.token.Span.{Span}
use Rattle.syntax.specs.declared.tree.TransactionKind.{TransactionKind}
use Rattle.syntax.specs.declared.tree.Expr as E
use Rattle.syntax.specs.declared.tree.Stmt as S
use Rattle.syntax.specs.declared.tree.Stmt.TheOpen.{Stmt-F}
use Rattle.syntax.specs.declared.tree.Stmt.TheFolds.{fold-roll-Stmt}
use Rattle.syntax.specs.declared.tree.Stmt.TheVariants as SV
use Rattle.syntax.specs.declared.tree.Simple as J
use Rattle.syntax.specs.declared.tree.Declaration as D
use Rattle.syntax.specs.declared.tree.Declarator as I
use Rattle.syntax.specs.declared.tree.ForHead as H
use Rattle.syntax.specs.Tree as Tree
use Rattle.syntax.specs.Tree.{Program}
use Rattle.syntax.specs.Views.{expr_of, exprs_of, simple_of, declarator_of, start_of, stmt_step, stmt_of, stmts_of}
use Rattle.syntax.proofs.trees.Seen.{stmt_of_declare, stmt_of_block, stmt_of_print, stmt_of_if, stmt_of_if_else, stmt_of_while, stmt_of_do_while, stmt_of_for, stmt_of_return, stmt_of_transaction}
use Rattle.bytecode.specs.declared.instr.Instr.{Instr}
use Rattle.lower_spec.specs.Expressions.{LocalScope}
use Rattle.lower_spec.specs.Statements.{locals_after}
use Rattle.selection.specs.declared.locations.Exits.{Exits}
use Rattle.selection.specs.Lists.{Lists}
use Rattle.selection.specs.Statements.{stmt_code}
use Rattle.lower_exprs.specs.declared.fault.LowerFailure.{LowerFailure}
use Rattle.lower_exprs.specs.Fragments.{Adds, of_written}

module _ {A : Type 0} where
  pub simple_is : {s : S.Stmt A} {i : J.Simple A} → s ≡ S.Do i → stmt_of s ≡ Tree.Do (simple_of i)
  simple_is {i = i} is = ap stmt_of (is ∙ sym (SV.rolls-Do i)) ∙ fold-roll-Stmt A Tree.Stmt stmt_step (Stmt-F.Do i)

  pub break_is : {s : S.Stmt A} {at : Span} → s ≡ S.Break at → stmt_of s ≡ Tree.Break at
  break_is {at = at} is = ap stmt_of (is ∙ sym (SV.rolls-Break at)) ∙ fold-roll-Stmt A Tree.Stmt stmt_step (Stmt-F.Break at)

  pub continue_is : {s : S.Stmt A} {at : Span} → s ≡ S.Continue at → stmt_of s ≡ Tree.Continue at
  continue_is {at = at} is = ap stmt_of (is ∙ sym (SV.rolls-Continue at)) ∙ fold-roll-Stmt A Tree.Stmt stmt_step (Stmt-F.Continue at)

  pub return_is : {s : S.Stmt A} {e : Option (E.Expr A)} {at : Span} → s ≡ S.Return e at → stmt_of s ≡ Tree.Return (option_map expr_of e) at
  return_is {e = e} {at = at} is = ap stmt_of is ∙ stmt_of_return e at

  pub declare_is : {s : S.Stmt A} {d : D.Declaration A} {ds : List (I.Declarator A)} → s ≡ S.Declare d → ds ≡ d.declarators → stmt_of s ≡ Tree.Declare (record { ty = d.ty; declarators = map declarator_of ds })
  declare_is {d = d} is e = ap stmt_of is ∙ stmt_of_declare d ∙ (λ j. Tree.Declare (record { ty = d.ty; declarators = map declarator_of (sym e j) }))

  pub print_is : {s : S.Stmt A} {at text_at : Span} {text text' : List ℕ} {es es' : List (E.Expr A)} → s ≡ S.Print at text text_at es → text' ≡ text → es' ≡ es → stmt_of s ≡ Tree.Print at text' text_at (exprs_of es')
  print_is {at = at} {text_at = text_at} {text = text} {es = es} is f e = ap stmt_of is ∙ stmt_of_print at text text_at es ∙ (λ j. Tree.Print at (sym f j) text_at (exprs_of (sym e j)))

  pub block_is : {s : S.Stmt A} {ss ss' : List (S.Stmt A)} → s ≡ S.Block ss → ss' ≡ ss → stmt_of s ≡ Tree.Block (stmts_of ss')
  block_is {ss = ss} is e = ap stmt_of is ∙ stmt_of_block ss ∙ (λ j. Tree.Block (stmts_of (sym e j)))

  pub if_is : {s a a' : S.Stmt A} {c : E.Expr A} → s ≡ S.If c a None → a' ≡ a → stmt_of s ≡ Tree.If (expr_of c) (stmt_of a')
  if_is {a = a} {c = c} is e = ap stmt_of is ∙ stmt_of_if c a ∙ (λ j. Tree.If (expr_of c) (stmt_of (sym e j)))

  pub if_else_is : {s a b a' b' : S.Stmt A} {c : E.Expr A} → s ≡ S.If c a (Some b) → a' ≡ a → b' ≡ b → stmt_of s ≡ Tree.IfElse (expr_of c) (stmt_of a') (stmt_of b')
  if_else_is {a = a} {b = b} {c = c} is e f = ap stmt_of is ∙ stmt_of_if_else c a b ∙ (λ j. Tree.IfElse (expr_of c) (stmt_of (sym e j)) (stmt_of (sym f j)))

  pub while_is : {s a a' : S.Stmt A} {c : E.Expr A} → s ≡ S.While c a → a' ≡ a → stmt_of s ≡ Tree.While (expr_of c) (stmt_of a')
  while_is {a = a} {c = c} is e = ap stmt_of is ∙ stmt_of_while c a ∙ (λ j. Tree.While (expr_of c) (stmt_of (sym e j)))

  pub do_is : {s a a' : S.Stmt A} {c : E.Expr A} → s ≡ S.DoWhile a c → a' ≡ a → stmt_of s ≡ Tree.DoWhile (stmt_of a') (expr_of c)
  do_is {a = a} {c = c} is e = ap stmt_of is ∙ stmt_of_do_while a c ∙ (λ j. Tree.DoWhile (stmt_of (sym e j)) (expr_of c))

  pub for_is : {s a a' : S.Stmt A} {h h' : H.ForHead A} → s ≡ S.For h a → h' ≡ h → a' ≡ a → stmt_of s ≡ Tree.For (start_of h'.start) (option_map expr_of h'.condition) (option_map simple_of h'.step) (stmt_of a')
  for_is {a = a} {h = h} is f e =
      ap stmt_of is ∙ stmt_of_for h a
      ∙ (λ j. Tree.For (start_of (sym f j).start) (option_map expr_of (sym f j).condition) (option_map simple_of (sym f j).step) (stmt_of (sym e j)))

  pub transaction_is : {s : S.Stmt A} {kind : TransactionKind} {ss ss' : List (S.Stmt A)} {at : Span} → s ≡ S.Transaction kind ss at → ss' ≡ ss → stmt_of s ≡ Tree.Transaction kind (stmts_of ss') at
  transaction_is {kind = kind} {ss = ss} {at = at} is e = ap stmt_of is ∙ stmt_of_transaction kind ss at ∙ (λ j. Tree.Transaction kind (stmts_of (sym e j)) at)

module _ {s z : Tree.Stmt} where
  -- a statement's code, and the locals behind it
  pub code_there : (p : Program) (x : Exits) (scope : LocalScope) (from : ℕ) (l : Lists) {old new : List Instr} {m : Lists} {r : Result ℕ LowerFailure} → s ≡ z → Adds (of_written (stmt_code p z x scope from l)) old new m r → Adds (of_written (stmt_code p s x scope from l)) old new m r
  code_there p x scope from l {old = old} {new = new} {m = m} {r = r} is k = subst (λ (y : Tree.Stmt). Adds (of_written (stmt_code p y x scope from l)) old new m r) (sym is) k

  pub scope_there : (before after : LocalScope) (r : Result ℕ LowerFailure) → s ≡ z → OnOk r (after ≡ locals_after z before) → OnOk r (after ≡ locals_after s before)
  scope_there before after r is k = subst (λ (y : Tree.Stmt). OnOk r (after ≡ locals_after y before)) (sym is) k
