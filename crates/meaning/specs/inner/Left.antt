-- A thread's continuation, as the code represents it.
use Rattle.std.specs.Prelude.{ℕ, List, map, Option, option_map, Result}
use Rattle.syntax.specs.declared.tree.Stmt.{Stmt as OwnStmt}
use Rattle.syntax.specs.Tree.{Stmt, Block, While, DoWhile, For}
use Rattle.syntax.specs.Views.{expr_of, simple_of, start_of, stmt_of, stmts_of}
use Rattle.syntax.specs.Actions.{Answer, Action, pure, tick, ◌>>=◌, ◌>>◌}
use Rattle.syntax.specs.Meaning.{Completion, stmt, in_scope, on_next, after_body, turns}
use Rattle.meaning.specs.declared.left.Direction.{Direction}
use Rattle.meaning.specs.declared.left.Direction.TheVariants as way
use Rattle.meaning.specs.declared.left.Pending.{Pending}
use Rattle.meaning.specs.declared.left.Pending.TheVariants as task
use Rattle.meaning.specs.declared.left.Left.{Left}
use Rattle.meaning.specs.declared.left.Left.TheVariants as left
use Rattle.meaning.specs.declared.left.Stepped.{Stepped}
use Rattle.meaning.specs.declared.left.Stepped.TheVariants as to
use Rattle.meaning.specs.declared.left.StmtParts.{StmtParts}
use Rattle.meaning.specs.declared.left.StmtParts.TheVariants as parts
use Rattle.meaning.specs.declared.loops.Loop.{Loop}
use Rattle.meaning.specs.declared.loops.Loop.TheVariants as kind
use Rattle.meaning.specs.declared.source_thread.Halted.{Halted}
use Rattle.meaning.specs.declared.source_thread.SourceThread.{SourceThread}
use Rattle.program_tables.specs.declared.program.ProgramTables.{ProgramTables}
use Rattle.meaning.specs.inner.SourceThread.{MeansAs, completion_of, items_in}
use Rattle.program_tables.specs.Views.{program_in}
use Rattle.meaning.specs.inner.Does.{caller_in, does_stmts, if_of}
use Rattle.meaning.specs.inner.Going.{Follow, Ends, Goes, Nests, drop_names, call_left, when_next, scope_begun}
use Rattle.meaning.specs.inner.Going.{loop_begun}
use Rattle.meaning.specs.inner.Going.{turn_of, turn_end_of, turns_begun, body_left, follow_turn, apart_begun}
use Rattle.meaning.specs.inner.Going.{either_begun}
use Rattle.meaning.specs.inner.Going.{for_begun, gone_on}

module _ {A : Type 0} where
  abbrev pub body_in : Loop A → OwnStmt A
  body_in (kind.While c a) = a.now
  body_in (kind.DoWhile a c) = a.now
  body_in (kind.For head a) = a.now

  abbrev pub loop_in : Loop A → Stmt
  loop_in (kind.While c a) = While (expr_of c.now) (stmt_of a.now)
  loop_in (kind.DoWhile a c) = DoWhile (stmt_of a.now) (expr_of c.now)
  loop_in (kind.For head a) =
      For (start_of head.now.start) (option_map expr_of head.now.condition) (option_map simple_of head.now.step)
      (stmt_of a.now)

  -- the statement that has these parts
  abbrev pub stmt_in : StmtParts A → Stmt
  stmt_in (parts.Block ss) = Block (stmts_of ss.now)
  stmt_in (parts.Either c a b) = if_of (expr_of c.now) (stmt_of a.now) (option_map stmt_of b.now)
  stmt_in (parts.Repeats w) = loop_in w

module _ {A : Type 0} (source : ProgramTables A) where
  -- the effect of a statement in a direction, and its first step
  abbrev pub does_by : Direction → ℕ → Stmt → Action Completion
  does_by way.Whole frames s = stmt (program_in source) (caller_in source frames) s
  does_by way.Scoped frames s = in_scope (stmt (program_in source) (caller_in source frames) s)
  does_by (way.Turns n) frames s = turns n (turn_of (program_in source) (caller_in source frames) s)

  abbrev pub begun_by : Direction → ℕ → Stmt → Action Follow
  begun_by way.Whole frames s = do end ← stmt (program_in source) (caller_in source frames) s; pure (Ends end)
  begun_by way.Scoped frames s = scope_begun (stmt (program_in source) (caller_in source frames) s)
  begun_by (way.Turns n) frames s = turns_begun (program_in source) (caller_in source frames) s n

  -- the effect of a task, and its first step
  abbrev pub does_task : Pending A → Action Completion
  does_task (task.Apart frames ss) = does_stmts source frames ss.now
  does_task (task.Alone w frames s) = does_by w frames (stmt_of s.now)

  abbrev pub first_step_of : Pending A → Action Follow
  first_step_of (task.Apart frames ss) =
      pure (apart_begun (program_in source) (caller_in source frames) (stmts_of ss.now))
  first_step_of (task.Alone w frames s) = begun_by w frames (stmt_of s.now)

  -- the first step of a statement by its parts, after its tick; of a loop by its iteration
  abbrev pub loop_opened : ℕ → Action (Option Completion) → Loop A → Action Follow
  loop_opened frames turn (kind.While c a) = loop_begun turn
  loop_opened frames turn (kind.DoWhile a c) = loop_begun turn
  loop_opened frames turn (kind.For head a) =
      for_begun (program_in source) (caller_in source frames) (start_of head.now.start) turn

  abbrev pub step_by_parts : ℕ → Stmt → StmtParts A → Action Follow
  step_by_parts frames s (parts.Block ss) = scope_begun (does_stmts source frames ss.now)
  step_by_parts frames s (parts.Either c a b) =
      either_begun (program_in source) (caller_in source frames) (expr_of c.now) (stmt_of a.now)
      (option_map stmt_of b.now)
  step_by_parts frames s (parts.Repeats w) =
      loop_opened frames (turn_of (program_in source) (caller_in source frames) s) w

  abbrev pub first_step : ℕ → Stmt → StmtParts A → Action Follow
  first_step frames s q = tick >> step_by_parts frames s q

  -- n iterations of a loop, and what is left after the body of one
  abbrev pub turns_in : ℕ → Stmt → ℕ → Action Completion
  turns_in frames s n = turns n (turn_of (program_in source) (caller_in source frames) s)

  abbrev pub body_rest : ℕ → Stmt → ℕ → Completion → Action Completion
  body_rest frames s n = body_left (turn_end_of (program_in source) (caller_in source frames) s) (turns_in frames s n)

  -- what is done after something, by its completion
  abbrev pub continue_with : Left A → Completion → Action Completion
  continue_with (left.Next t) = on_next (does_task t)
  continue_with (left.Body frames s n) = body_rest frames (stmt_of s.now) n
  continue_with (left.Scope n) = drop_names n
  continue_with (left.Call ty outer) = call_left ty (items_in outer)

  -- what is left, the innermost piece last
  abbrev pub left_gone_on : List (Left A) → Completion → Action Completion
  left_gone_on ls = gone_on (map continue_with ls)

  abbrev pub follow_of : Stepped A → Follow
  follow_of (to.Ends end) = Ends (completion_of end)
  follow_of (to.Goes t) = Goes (does_task t)
  follow_of (to.Nests outer inner) = Nests (continue_with outer) (does_task inner)

  abbrev pub MeansStepped : Result (Stepped A) Halted → Answer Follow → SourceThread A → Type 0
  MeansStepped = MeansAs follow_of

  abbrev pub body_step : ℕ → Stmt → ℕ → Completion → Action Follow
  body_step frames s n end =
      after_body (turn_end_of (program_in source) (caller_in source frames) s) end
      >>= (λ next. pure (follow_turn (turns_in frames s n) next))

  -- one step, by the completion of what was done before
  abbrev pub step_of : Left A → Completion → Action Follow
  step_of (left.Next t) = when_next (first_step_of t)
  step_of (left.Body frames s n) = body_step frames (stmt_of s.now) n
  step_of (left.Scope n) = λ end. do then_ ← drop_names n end; pure (Ends then_)
  step_of (left.Call ty outer) = λ end. do then_ ← call_left ty (items_in outer) end; pure (Ends then_)
