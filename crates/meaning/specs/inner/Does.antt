-- The effects of the program's own trees, and the iterations of its loops.
use Rattle.std.specs.Prelude.{ℕ, List, Option, Some, None, option_map, if◌then◌else◌}
use Rattle.syntax.specs.declared.tree.Expr.{Expr as OwnExpr}
use Rattle.syntax.specs.declared.tree.Stmt.{Stmt as OwnStmt}
use Rattle.syntax.specs.declared.tree.ForHead.{ForHead}
use Rattle.syntax.specs.declared.value.Value.{Value}
use Rattle.syntax.specs.Numbers.{is_zero}
use Rattle.syntax.specs.Tree.{Program, Expr, Stmt, Simple, If, IfElse, Scalar, Declarator, Start}
use Rattle.syntax.specs.declared.tree.Mode.{Mode}
use Rattle.syntax.specs.declared.tree.Mode.TheVariants.{Atomic, Relaxed}
use Rattle.syntax.specs.Views.{expr_of, simple_of, stmt_of, stmts_of}
use Rattle.syntax.specs.Depth.{program_depth, expr_depth, stmt_depth, block_depth, start_depth, optional_depth}
use Rattle.syntax.specs.Depth.{optional_simple_depth}
use Rattle.syntax.specs.Views.{start_of}
use Rattle.syntax.specs.Actions.{Action, Gives, pure, locals, put_locals, ◌>>=◌, ◌>>◌}
use Rattle.syntax.specs.Meaning.{Caller, Completion, Next, calls, expr, stmt, stmts, in_scope, after_body}
use Rattle.syntax.specs.Meaning.{for_condition}
use Rattle.syntax.specs.Meaning.{optional_step}
use Rattle.syntax.specs.Meaning.{first_value, InLocal, start_with, loop, Returns}
use Rattle.meaning.specs.declared.source_thread.StmtCompletion.{StmtCompletion as OwnCompletion}
use Rattle.program_tables.specs.declared.program.ProgramTables.{ProgramTables}
use Rattle.meaning.specs.declared.loops.Loop.{Loop}
use Rattle.meaning.specs.declared.loops.Loop.TheVariants as kind
use Rattle.meaning.specs.declared.transactions.Body.{Body}
use Rattle.meaning.specs.declared.transactions.Body.TheVariants as body
use Rattle.meaning.specs.inner.SourceThread.{completion_of}
use Rattle.program_tables.specs.Views.{program_in}
use Rattle.std.specs.Prelude.{◌+◌, ◌*◌, max, Bool, true, false, [], ◌∷◌, ◌++◌, length}

-- one of two statements, or of one and nothing
abbrev pub if_of : Expr → Stmt → Option Stmt → Stmt
if_of c a None = If c a
if_of c a (Some b) = IfElse c a b

-- the loop's end if the body ends it, or else the continuation
abbrev pub left_or : Action (Option Completion) → Option OwnCompletion → Action (Option Completion)
left_or go None s = go s
left_or go (Some e) s = Gives (Some (completion_of e)) s

-- one iteration of a loop
abbrev pub while_turn : Program → Caller → Expr → Stmt → Action (Option Completion)
while_turn p call c a =
    do v ← expr p call c; if is_zero v then pure (Some Next) else (in_scope (stmt p call a) >>= after_body (pure None))

abbrev pub loop_condition : Program → Caller → Expr → Action (Option Completion)
loop_condition p call c = do v ← expr p call c; pure (if is_zero v then Some Next else None)

abbrev pub do_turn : Program → Caller → Stmt → Expr → Action (Option Completion)
do_turn p call a c = in_scope (stmt p call a) >>= after_body (loop_condition p call c)

abbrev pub for_turn : Program → Caller → Option Expr → Option Simple → Stmt → Action (Option Completion)
for_turn p call c step a =
    do
      more ← for_condition p call c
      if more then (in_scope (stmt p call a) >>= after_body (optional_step p call step)) else pure (Some Next)

-- the start of a `for`, and then its iterations
abbrev pub for_all : Program → Caller → Start → Option Expr → Option Simple → Stmt → Action Completion
for_all p call start c step a = start_with p call start >> loop (for_turn p call c step a)

-- no relaxed transaction begins inside an atomic one
abbrev pub is_forbidden : Mode → Mode → Bool
is_forbidden Atomic Relaxed = true
is_forbidden outer mode = false

-- one declared name: it is 0, and then has its first value
abbrev pub declared_one : Program → Caller → Scalar → Declarator → Action (Unit {0})
declared_one p call t d = do
  mine ← locals
  put_locals (mine ++ record { name = d.name.text; ty = t; word = 0 } ∷ [])
  first_value p call (InLocal (length mine) t) d.first

-- values after earlier ones
abbrev pub joined_to : List Value → List Value → Action (List Value)
joined_to us vs = pure (us ++ vs)

abbrev pub else_depth : Option Stmt → ℕ
else_depth None = 0
else_depth (Some b) = stmt_depth b

-- a bound on the remaining work, if at most so many more frames may be live
unfoldable pub weight : Program → ℕ → ℕ
weight p frames = frames * (8 * program_depth p + 16)

module _ {A : Type 0} where
  abbrev pub caller_in : ProgramTables A → ℕ → Caller
  caller_in source frames = calls (program_in source) frames

  abbrev pub does_expr : ProgramTables A → ℕ → OwnExpr A → Action Value
  does_expr source frames e = expr (program_in source) (caller_in source frames) (expr_of e)

  abbrev pub does_stmt : ProgramTables A → ℕ → OwnStmt A → Action Completion
  does_stmt source frames s = stmt (program_in source) (caller_in source frames) (stmt_of s)

  abbrev pub does_stmts : ProgramTables A → ℕ → List (OwnStmt A) → Action Completion
  does_stmts source frames ss = stmts (program_in source) (caller_in source frames) (stmts_of ss)

  -- the effect of a transaction: its statements have names of their own, and an operand's value is its end
  abbrev pub does_body : ProgramTables A → ℕ → Body A → Action Completion
  does_body source frames (body.Block ss) = in_scope (does_stmts source frames ss.now)
  does_body source frames (body.Value e) = do v ← does_expr source frames e.now; pure (Returns v)

  abbrev pub depth_within : Body A → ℕ
  depth_within (body.Block ss) = block_depth (stmts_of ss.now)
  depth_within (body.Value e) = expr_depth (expr_of e.now)

  abbrev pub does_turn : ProgramTables A → ℕ → Loop A → Action (Option Completion)
  does_turn source frames (kind.While c a) =
      while_turn (program_in source) (caller_in source frames) (expr_of c.now) (stmt_of a.now)
  does_turn source frames (kind.DoWhile a c) =
      do_turn (program_in source) (caller_in source frames) (stmt_of a.now) (expr_of c.now)
  does_turn source frames (kind.For head a) =
      for_turn (program_in source) (caller_in source frames) (option_map expr_of head.now.condition)
      (option_map simple_of head.now.step) (stmt_of a.now)

  abbrev pub loop_depth : Loop A → ℕ
  loop_depth (kind.While c a) = max (expr_depth (expr_of c.now)) (stmt_depth (stmt_of a.now))
  loop_depth (kind.DoWhile a c) = max (stmt_depth (stmt_of a.now)) (expr_depth (expr_of c.now))
  loop_depth (kind.For head a) =
      max (optional_depth (option_map expr_of head.now.condition))
      (max (optional_simple_depth (option_map simple_of head.now.step)) (stmt_depth (stmt_of a.now)))

  abbrev pub head_depth : ForHead A → OwnStmt A → ℕ
  head_depth head a =
      max (max (start_depth (start_of head.start)) (optional_depth (option_map expr_of head.condition)))
      (max (optional_simple_depth (option_map simple_of head.step)) (stmt_depth (stmt_of a)))
