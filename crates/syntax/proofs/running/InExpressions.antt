-- What each step of an expression keeps, its value keeps.
use Rattle.std.specs.Prelude.{if◌then◌else◌}
use Rattle.std.proofs.Common.{ℕ, List, [], ◌∷◌, Option, Some, None, Bool, true, false, Result, Ok, Err}
use Rattle.lex.specs.declared.token.Scalar.{Scalar}
use Rattle.syntax.specs.declared.tree.Mode.{Mode}
use Rattle.syntax.specs.declared.tree.LogicalOp.TheVariants.{AndThen, OrElse}
use Rattle.syntax.specs.declared.thread_end.Trap.{Trap}
use Rattle.syntax.specs.declared.thread_end.Trap.TheVariants.{Index}
use Rattle.syntax.specs.declared.thread_end.Halt.TheVariants.{Astray}
use Rattle.syntax.specs.declared.value.Value.{Value}
use Rattle.syntax.specs.Tree as Tree
use Rattle.syntax.specs.Tree.{Expr, Exprs, Variable, Constant, Element, Call, Parenthesized, Cast, Unary, Binary, Logical, Conditional, InTransaction, Program}
use Rattle.syntax.specs.Names.{Local, newest, global_of}
use Rattle.syntax.specs.Actions.{Action, pure, stop, ◌>>=◌, ◌>>◌, tick, trap, or_trap, or_astray, locals, load}
use Rattle.syntax.specs.Meaning.{Lvalue, InLocal, InCell, fetch, Caller, value_transaction, lvalue_from, lvalue_of_name, element, expr, exprs}

-- a property that each word of which an expression is made keeps
pub record IsKeptInExpressions (Q : (A : Type 0) → Action A → Type 0) : Type 1 where
  pub pure_holds : {A : Type 0} (a : A) → Q A (pure a)
  pub on_holds : {A B : Type 0} {run : Action A} {rest : A → Action B} → Q A run → ((a : A) → Q B (rest a)) → Q B (run >>= rest)
  pub astray_holds : {A : Type 0} → Q A (stop Astray)
  pub trap_holds : {A : Type 0} (t : Trap) → Q A (trap t)
  pub tick_holds : Q (Unit {0}) tick
  pub locals_holds : Q (List Local) locals
  pub load_holds : (c : ℕ) → Q ℕ (load c)
  pub in_transaction_holds : (mode : Mode) {run : Action Value} → Q Value run → Q Value (value_transaction mode run)

module _ (Q : (A : Type 0) → Action A → Type 0) (kept : IsKeptInExpressions Q) where
  open kept use {pure_holds, on_holds, astray_holds, trap_holds, tick_holds, locals_holds, load_holds, in_transaction_holds}

  pub then_holds : {A B : Type 0} {run : Action A} {rest : Action B} → Q A run → Q B rest → Q B (run >> rest)
  then_holds g h = on_holds g (λ _. h)

  pub if_holds : {A : Type 0} (b : Bool) {x y : Action A} → Q A x → Q A y → Q A (if b then x else y)
  if_holds true g h = g
  if_holds false g h = h

  pub or_trap_holds : {A : Type 0} (r : Result A Trap) → Q A (or_trap r)
  or_trap_holds (Ok a) = pure_holds a
  or_trap_holds (Err t) = trap_holds t

  pub or_astray_holds : {A : Type 0} (o : Option A) → Q A (or_astray o)
  or_astray_holds (Some a) = pure_holds a
  or_astray_holds None = astray_holds

  pub fetch_holds : (at : Lvalue) → Q _ (fetch at)
  fetch_holds (InLocal i t) = on_holds locals_holds (λ mine. pure_holds _)
  fetch_holds (InCell c t) = on_holds (load_holds c) (λ w. pure_holds _)

  module _ (p : Program) (call : Caller) (h : (x : List ℕ) (vs : List Value) → Q Value (call x vs)) where
    lvalue_from_holds : (x : List ℕ) (o : Option (ℕ × Scalar)) → Q _ (lvalue_from p call x o)
    lvalue_from_holds x (Some l) = pure_holds _
    lvalue_from_holds x None = on_holds (or_astray_holds (global_of p x)) (λ g. pure_holds _)

    pub named_holds : (x : List ℕ) → Q _ (lvalue_of_name p call x)
    named_holds x = on_holds locals_holds (λ mine. lvalue_from_holds x (newest mine x))

    pub element_holds : (x : List ℕ) (k : Value) → Q _ (element p call x k)
    element_holds x k = on_holds (or_astray_holds (global_of p x)) (λ g. if_holds _ (pure_holds _) (trap_holds Index))

    mutual
      pub expr_holds : (e : Expr) → Q _ (expr p call e)
      expr_holds (Variable x) = on_holds (named_holds x.text) fetch_holds
      expr_holds (Constant n t at) = pure_holds _
      expr_holds (Element x i at) = on_holds (expr_holds i) (λ k. on_holds (element_holds x.text k) fetch_holds)
      expr_holds (Call f es at) = on_holds (exprs_holds es) (λ vs. then_holds tick_holds (h f.text vs))
      expr_holds (Parenthesized e at) = expr_holds e
      expr_holds (Cast t e at) = on_holds (expr_holds e) (λ v. pure_holds _)
      expr_holds (Unary op e at) = on_holds (expr_holds e) (λ v. or_trap_holds _)
      expr_holds (Binary op a b at) = on_holds (expr_holds a) (λ v. on_holds (expr_holds b) (λ w. or_trap_holds _))
      expr_holds (Logical AndThen a b at) = on_holds (expr_holds a) (λ v. on_holds (if_holds _ (pure_holds v) (expr_holds b)) (λ w. pure_holds _))
      expr_holds (Logical OrElse a b at) = on_holds (expr_holds a) (λ v. on_holds (if_holds _ (expr_holds b) (pure_holds v)) (λ w. pure_holds _))
      expr_holds (Conditional c a b at) = on_holds (expr_holds c) (λ v. on_holds (if_holds _ (expr_holds b) (expr_holds a)) (λ w. on_holds locals_holds (λ mine. on_holds (or_astray_holds _) (λ t. pure_holds _))))
      expr_holds (InTransaction mode keyword e at) = in_transaction_holds mode (expr_holds e)

      pub exprs_holds : (es : Exprs) → Q _ (exprs p call es)
      exprs_holds Tree.[] = pure_holds []
      exprs_holds (Tree.◌∷◌ e es) = on_holds (expr_holds e) (λ v. on_holds (exprs_holds es) (λ vs. pure_holds _))
