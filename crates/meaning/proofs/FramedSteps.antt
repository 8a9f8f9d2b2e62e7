-- Each step in which a thread goes on does the same whatever stands round it.
use Rattle.std.proofs.Common.{ℕ, zero, suc, List, [], ◌∷◌, ◌++◌, length, Option, Some, None, true, false, refl}
use Rattle.lex.specs.declared.token.Scalar.{Scalar}
use Rattle.syntax.specs.Tree as tree
use Rattle.syntax.specs.declared.value.Value.{Value}
use Rattle.syntax.specs.declared.thread_end.Trap.TheVariants.{Frames}
use Rattle.syntax.specs.Tree.{Program, Stmt, Expr, Exprs, Simple, Start, Declarator}
use Rattle.syntax.specs.Names.{Local, definition_of}
use Rattle.syntax.specs.Actions.{Action, pure, locals, put_locals, tick, or_astray, ◌>>=◌, ◌>>◌}
use Rattle.syntax.specs.Meaning.{Completion, Next, Breaks, Continues, Returns, Cancels, CancelsOuter, InLocal, call_locals, expr, exprs, stmt, after_body, for_condition, optional_step, simple, first_value, declare, start_with, result_of, calls}
use Rattle.syntax.proofs.running.Preserved.{each_expr_holds, each_simple_holds, each_stmt_holds}
use Rattle.meaning.specs.inner.Going.{Follow, Ends, ticks_left, drop_names, call_left, when_next, scope_begun, loop_begun, test_of, turn_end_of, turns_begun, either_begun, for_begun, frame_begun, call_begun}
use Rattle.meaning.specs.inner.Calls.{begin_call}
use Rattle.meaning.specs.Frames.{IsFramed}
use Rattle.meaning.proofs.Framed.{on_framed, framed_preserved}

pub pure_framed : {A : Type 0} (a : A) → IsFramed (pure a)
pure_framed a = record { alike = λ f s. refl }

ticks_framed : IsFramed ticks_left
ticks_framed = record { alike = λ f s. refl }

locals_framed : IsFramed locals
locals_framed = record { alike = λ f s. refl }

put_framed : (ls : List Local) → IsFramed (put_locals ls)
put_framed ls = record { alike = λ f s. refl }

pub tick_framed : IsFramed tick
tick_framed = framed_preserved.tick_holds

pub then_framed : {A B : Type 0} {run : Action A} {rest : Action B} → IsFramed run → IsFramed rest → IsFramed (run >> rest)
then_framed g h = on_framed g (λ _. h)

pub after_body_framed : {go : Action (Option Completion)} → IsFramed go → (end : Completion) → IsFramed (after_body go end)
after_body_framed h Next = h
after_body_framed h Breaks = pure_framed (Some Next)
after_body_framed h Continues = h
after_body_framed h (Returns v) = pure_framed (Some (Returns v))
after_body_framed h Cancels = pure_framed (Some Cancels)
after_body_framed h CancelsOuter = pure_framed (Some CancelsOuter)

pub when_next_framed : {run : Action Follow} → IsFramed run → (end : Completion) → IsFramed (when_next run end)
when_next_framed h Next = h
when_next_framed h Breaks = pure_framed (Ends Breaks)
when_next_framed h Continues = pure_framed (Ends Continues)
when_next_framed h (Returns v) = pure_framed (Ends (Returns v))
when_next_framed h Cancels = pure_framed (Ends Cancels)
when_next_framed h CancelsOuter = pure_framed (Ends CancelsOuter)

result_framed : (ty : Option Scalar) (end : Completion) → IsFramed (result_of ty end)
result_framed ty Next = pure_framed _
result_framed ty (Returns v) = pure_framed _
result_framed ty Breaks = framed_preserved.astray_holds
result_framed ty Continues = framed_preserved.astray_holds
result_framed ty Cancels = framed_preserved.astray_holds
result_framed ty CancelsOuter = framed_preserved.astray_holds

pub cut_framed : (n : ℕ) (end : Completion) → IsFramed (drop_names n end)
cut_framed n end = on_framed locals_framed (λ all. then_framed (put_framed _) (pure_framed end))

pub call_left_framed : (ty : Option Scalar) (ls : List Local) (end : Completion) → IsFramed (call_left ty ls end)
call_left_framed ty ls end = then_framed (put_framed ls) (then_framed (result_framed ty end) (pure_framed Next))

pub scope_framed : (run : Action Completion) → IsFramed (scope_begun run)
scope_framed run = on_framed locals_framed (λ outer. pure_framed _)

or_astray_framed : {A : Type 0} (o : Option A) → IsFramed (or_astray o)
or_astray_framed (Some a) = pure_framed a
or_astray_framed None = framed_preserved.astray_holds

pub loop_framed : (turn : Action (Option Completion)) → IsFramed (loop_begun turn)
loop_framed turn = on_framed ticks_framed (λ n. pure_framed _)

module _ (p : Program) (k : ℕ) where
  pub expr_framed : (e : Expr) → IsFramed (expr p (calls p k) e)
  expr_framed = each_expr_holds p (λ A run. IsFramed run) framed_preserved k

  exprs_framed : (es : Exprs) → IsFramed (exprs p (calls p k) es)
  exprs_framed Exprs.[] = pure_framed []
  exprs_framed (Exprs.◌∷◌ e es) = on_framed (expr_framed e) (λ v. on_framed (exprs_framed es) (λ vs. pure_framed _))

  simple_framed : (i : Simple) → IsFramed (simple p (calls p k) i)
  simple_framed = each_simple_holds p (λ A run. IsFramed run) framed_preserved k

  pub stmt_framed : (st : Stmt) → IsFramed (stmt p (calls p k) st)
  stmt_framed = each_stmt_holds p (λ A run. IsFramed run) framed_preserved k

  first_value_framed : (i : ℕ) (t : Scalar) (e : Option Expr) → IsFramed (first_value p (calls p k) (InLocal i t) e)
  first_value_framed i t None = pure_framed tt
  first_value_framed i t (Some e) = on_framed (expr_framed e) (λ v. on_framed locals_framed (λ mine. put_framed _))

  declare_framed : (t : Scalar) (ds : List Declarator) → IsFramed (declare p (calls p k) t ds)
  declare_framed t [] = pure_framed Next
  declare_framed t (d ∷ ds) = on_framed locals_framed (λ mine. then_framed (put_framed (mine ++ record { name = d.name.text; ty = t; word = 0 } ∷ [])) (then_framed (first_value_framed (length mine) t d.first) (declare_framed t ds)))

  start_framed : (start : Start) → IsFramed (start_with p (calls p k) start)
  start_framed tree.Nothing = pure_framed Next
  start_framed (tree.Declares d) = declare_framed d.ty d.declarators
  start_framed (tree.Does i) = simple_framed i

  holds_framed : (c : Option Expr) → IsFramed (for_condition p (calls p k) c)
  holds_framed None = pure_framed true
  holds_framed (Some e) = on_framed (expr_framed e) (λ v. pure_framed _)

  stepped_framed : (step : Option Simple) → IsFramed (optional_step p (calls p k) step)
  stepped_framed None = pure_framed None
  stepped_framed (Some i) = then_framed (simple_framed i) (pure_framed None)

  pub either_framed : (c : Expr) (a : Stmt) (b : Option Stmt) → IsFramed (either_begun p (calls p k) c a b)
  either_framed c a b = on_framed (expr_framed c) (λ v. pure_framed _)

  pub for_framed : (start : Start) (turn : Action (Option Completion)) → IsFramed (for_begun p (calls p k) start turn)
  for_framed start turn = on_framed locals_framed (λ outer. then_framed (start_framed start) (on_framed ticks_framed (λ n. pure_framed _)))

  test_framed : (st : Stmt) → IsFramed (test_of p (calls p k) st)
  test_framed (tree.While c a) = holds_framed (Some c)
  test_framed (tree.DoWhile a c) = pure_framed true
  test_framed (tree.For start c step a) = holds_framed c
  test_framed st = pure_framed false

  pub behind_framed : (st : Stmt) → IsFramed (turn_end_of p (calls p k) st)
  behind_framed (tree.DoWhile a c) = on_framed (expr_framed c) (λ v. pure_framed _)
  behind_framed (tree.For start c step a) = stepped_framed step
  behind_framed st = pure_framed None

  pub turns_framed : (st : Stmt) (n : ℕ) → IsFramed (turns_begun p (calls p k) st n)
  turns_framed st zero = record { alike = λ f s. refl }
  turns_framed st (suc n) = then_framed tick_framed (on_framed (test_framed st) (λ goes. pure_framed _))

-- a call
module _ (p : Program) where
  enters_framed : (x : List ℕ) (vs : List Value) → IsFramed (begin_call p x vs)
  enters_framed x vs = on_framed (or_astray_framed (definition_of p x)) (λ f. on_framed (or_astray_framed (call_locals f.0.parameters vs)) (λ mine. pure_framed _))

  frame_framed : (k : ℕ) (x : List ℕ) (vs : List Value) → IsFramed (frame_begun p k x vs)
  frame_framed zero x vs = framed_preserved.trap_holds Frames
  frame_framed (suc k) x vs = on_framed (enters_framed x vs) (λ b. on_framed locals_framed (λ outer. then_framed (put_framed b.mine) (pure_framed _)))

  pub call_framed : (k : ℕ) (x : List ℕ) (es : Exprs) → IsFramed (call_begun p k x es)
  call_framed k x es = then_framed tick_framed (on_framed (exprs_framed p k es) (λ vs. then_framed tick_framed (frame_framed k x vs)))

pub whole_framed : {run : Action Completion} → IsFramed run → IsFramed (run >>= (λ end. pure (Ends end)))
whole_framed h = on_framed h (λ end. pure_framed (Ends end))
