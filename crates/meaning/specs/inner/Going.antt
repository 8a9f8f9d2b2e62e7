-- A thread's continuation at any point, and the steps in which it continues: the first step of a compound statement, of
-- a call and of each loop iteration, what is left after it, and the effect of all that is left.
use Rattle.std.specs.Prelude.{◌≡◌, ℕ, zero, suc, List, [], ◌∷◌, take, length, Option, Some, None, Bool, true, false}
use Rattle.std.specs.Prelude.{if◌then◌else◌}
use Rattle.syntax.specs.declared.thread_end.Halt.TheVariants.{Spent}
use Rattle.syntax.specs.declared.value.Value.{Value}
use Rattle.syntax.specs.declared.thread_end.Trap.TheVariants.{Frames}
use Rattle.syntax.specs.Numbers.{is_zero}
use Rattle.syntax.specs.Tree.{Scalar, Program, Expr, Exprs, Stmt, Stmts, Start, While, DoWhile, For}
use Rattle.syntax.specs.Names as Names
use Rattle.syntax.specs.Actions.{State, Gives, Action, pure, stop, tick, trap, locals, put_locals, go_on, ◌>>=◌, ◌>>◌}
use Rattle.syntax.specs.Meaning.{Caller, Completion, Next, expr, exprs, stmt, stmts, in_scope, on_next, after_body}
use Rattle.syntax.specs.Meaning.{after_turn}
use Rattle.syntax.specs.Meaning.{turns, for_condition, optional_step, start_with, result_of, calls}
use Rattle.meaning.specs.Frames.{IsFramed}
use Rattle.meaning.specs.inner.Calls.{Begins, begin_call}
use Rattle.meaning.specs.inner.Does.{do_turn, for_turn, loop_condition, while_turn}

-- how a thread continues after a step: with this end, with this run, or with a run and then, by its end, with another
pub data Follow : Type 0 where
  Ends : (end : Completion) → Follow
  Goes : (run : Action Completion) → Follow
  Nests : (outer : Completion → Action Completion) (inner : Action Completion) → Follow

abbrev pub follows : Follow → Action Completion
follows (Ends end) = pure end
follows (Goes run) = run
follows (Nests outer inner) = inner >>= outer

-- the remaining ticks
abbrev pub ticks_left : Action ℕ
ticks_left s = Gives s.ticks s

-- only the first n names remain
abbrev pub drop_names : ℕ → Completion → Action Completion
drop_names n end = do all ← locals; put_locals (take n all); pure end

-- a function is left: its caller's names are back, and its value is discarded
abbrev pub call_left : Option Scalar → List Names.Local → Completion → Action Completion
call_left ty outer end = do put_locals outer; result_of ty end; pure Next

-- a step that runs if the statement before completed normally
abbrev pub when_next : Action Follow → Completion → Action Follow
when_next run Next = run
when_next run end = pure (Ends end)

-- a run's own names come after the existing ones
abbrev pub scope_begun : Action Completion → Action Follow
scope_begun run = do outer ← locals; pure (Nests (drop_names (length outer)) run)

-- as many iterations as there are ticks
abbrev pub loop_begun : Action (Option Completion) → Action Follow
loop_begun turn = do n ← ticks_left; pure (Goes (turns n turn))

-- what follows the body of an iteration, by its completion: if the loop continues, this and the remaining iterations
abbrev pub body_left : Action (Option Completion) → Action Completion → Completion → Action Completion
body_left behind rest end = after_body behind end >>= after_turn rest

abbrev pub follow_turn : Action Completion → Option Completion → Follow
follow_turn rest None = Goes rest
follow_turn rest (Some end) = Ends end

module _ (p : Program) (call : Caller) where
  -- one iteration of a statement that is a loop: its test before the body, the body, and what follows if the loop
  -- continues
  abbrev pub turn_of : Stmt → Action (Option Completion)
  turn_of (While c a) = while_turn p call c a
  turn_of (DoWhile a c) = do_turn p call a c
  turn_of (For start c step a) = for_turn p call c step a
  turn_of s = pure (Some Next)

  abbrev pub test_of : Stmt → Action Bool
  test_of (While c a) = for_condition p call (Some c)
  test_of (DoWhile a c) = pure true
  test_of (For start c step a) = for_condition p call c
  test_of s = pure false

  abbrev pub body_of : Stmt → Action Completion
  body_of (While c a) = in_scope (stmt p call a)
  body_of (DoWhile a c) = in_scope (stmt p call a)
  body_of (For start c step a) = in_scope (stmt p call a)
  body_of s = pure Next

  abbrev pub turn_end_of : Stmt → Action (Option Completion)
  turn_end_of (DoWhile a c) = loop_condition p call c
  turn_end_of (For start c step a) = optional_step p call step
  turn_end_of s = pure None

  -- an iteration after its tick: if the test holds, the body comes, and then n more iterations
  abbrev pub turn_begun : Stmt → ℕ → Action Follow
  turn_begun s n = do
    goes ← test_of s
    pure (if goes then Nests (body_left (turn_end_of s) (turns n (turn_of s))) (body_of s) else Ends Next)

  abbrev pub turns_begun : Stmt → ℕ → Action Follow
  turns_begun s zero = stop Spent
  turns_begun s (suc n) = tick >> turn_begun s n

  -- the first of several statements, and then the others
  abbrev pub apart_begun : Stmts → Follow
  apart_begun Stmts.[] = Ends Next
  apart_begun (Stmts.◌∷◌ s ss) = Nests (on_next (stmts p call ss)) (stmt p call s)

  -- one of two statements, or of one and nothing
  abbrev pub otherwise : Option Stmt → Follow
  otherwise None = Ends Next
  otherwise (Some s) = Goes (in_scope (stmt p call s))

  abbrev pub either_begun : Expr → Stmt → Option Stmt → Action Follow
  either_begun c a b = do v ← expr p call c; pure (if is_zero v then otherwise b else Goes (in_scope (stmt p call a)))

  abbrev pub for_begun : Start → Action (Option Completion) → Action Follow
  for_begun start turn = do
    outer ← locals
    start_with p call start
    n ← ticks_left
    pure (Nests (drop_names (length outer)) (turns n turn))

-- the effect of a call, and of a statement that is only a call
abbrev pub call_of : Program → Caller → List ℕ → Exprs → Action Value
call_of p call x es = do vs ← exprs p call es; tick; call x vs

abbrev pub call_alone : Program → Caller → List ℕ → Exprs → Action Completion
call_alone p call x es = do tick; call_of p call x es; pure Next

-- a body with its own names; the caller's are restored after it
abbrev pub frame_at : Program → ℕ → Begins → Action Follow
frame_at p k b = do
  outer ← locals
  put_locals b.mine
  pure (Nests (call_left b.ty outer) (stmts p (calls p k) b.body))

-- a function is entered, if at most so many more frames may be live
abbrev pub frame_begun : Program → ℕ → List ℕ → List Value → Action Follow
frame_begun p zero x vs = trap Frames
frame_begun p (suc k) x vs = begin_call p x vs >>= frame_at p k

-- the first step of a statement that is only a call: its arguments, the call's tick, and then the function
abbrev pub call_begun : Program → ℕ → List ℕ → Exprs → Action Follow
call_begun p k x es = do tick; vs ← exprs p (calls p k) es; tick; frame_begun p k x vs

-- what is left, the innermost piece last: each continues from the completion of the pieces after it
abbrev pub gone_on : List (Completion → Action Completion) → Completion → Action Completion
gone_on [] = pure
gone_on (piece ∷ pieces) = λ end. gone_on pieces end >>= piece

-- a step of a piece: it does what the piece does next, whatever its surroundings
pub record IsStep (piece : Completion → Action Completion) (end : Completion) (run : Action Follow) : Type 0 where
  pub does : (s : State) → piece end s ≡ go_on (run s) follows
  pub framed : IsFramed run
