-- Each step of what is left does what is left next, whatever stands round it.
use Rattle.std.proofs.Common.{◌≡◌, ℕ, ◌-◌, ◌<◌, ◌≤◌, List, [], ◌∷◌, length, drop, take, get_or, refl, sym, ap, ◌∙◌, subst, option_map, arith}
use Rattle.std.proofs.lemmas.List.{take_all}
use Rattle.syntax.specs.declared.tree.Stmt.{Stmt as OwnStmt}
use Rattle.syntax.specs.Tree.{Exprs, Program, Stmt}
use Rattle.syntax.specs.Views.{expr_of, start_of, stmt_of, stmts_of}
use Rattle.syntax.specs.Actions.{State, pure, go_on, tick}
use Rattle.syntax.specs.Meaning.{Caller, Completion, Next, stmt, stmts, in_scope, on_next, after_body, after_turn, loop}
use Rattle.meaning.specs.declared.left.Direction.{Direction}
use Rattle.meaning.specs.declared.left.Direction.TheVariants as way
use Rattle.meaning.specs.declared.left.Pending.{Pending}
use Rattle.meaning.specs.declared.left.Pending.TheVariants as task
use Rattle.meaning.specs.declared.left.Left.{Left}
use Rattle.meaning.specs.declared.left.Left.TheVariants as left
use Rattle.meaning.specs.declared.left.StmtParts.{StmtParts}
use Rattle.meaning.specs.declared.left.StmtParts.TheVariants as parts
use Rattle.meaning.specs.declared.loops.Loop.{Loop}
use Rattle.meaning.specs.declared.loops.Loop.TheVariants as kind
use Rattle.program_tables.specs.declared.program.ProgramTables.{ProgramTables}
use Rattle.meaning.specs.inner.SourceThread.{items_in}
use Rattle.program_tables.specs.Views.{program_in}
use Rattle.meaning.specs.inner.Does.{caller_in, does_stmts}
use Rattle.meaning.specs.Frames.{IsFramed}
use Rattle.meaning.specs.inner.Going.{Ends, Nests, apart_begun, follows, drop_names, call_alone, call_begun, call_left, scope_begun, loop_begun, turn_of, turn_end_of, follow_turn, IsStep}
use Rattle.meaning.specs.inner.Left.{first_step_of, begun_by, does_by, does_task, loop_in, first_step, step_by_parts, continue_with, stmt_in, step_of, turns_in}
use Rattle.meaning.proofs.Calling.{call_is}
use Rattle.meaning.proofs.Framed.{on_framed}
use Rattle.meaning.proofs.FramedSteps.{after_body_framed, behind_framed, call_framed, call_left_framed, cut_framed, either_framed, for_framed, loop_framed, pure_framed, scope_framed, stmt_framed, then_framed, tick_framed, turns_framed, when_next_framed, whole_framed}
use Rattle.meaning.proofs.Going.{apart_is, either_is, for_is, on_both, same_end, turned_is, turns_is}

-- the first of statements, and then the others
module _ {A : Type 0} (p : Program) (call : Caller) where
  pub apart_none : (ss : List (OwnStmt A)) → length ss < 1 → Ends Next ≡ apart_begun p call (stmts_of ss)
  apart_none [] h = refl
  apart_none (x ∷ ss) h = absurd (omega (arith, h))

  pub apart_first : (ss : List (OwnStmt A)) (x : OwnStmt A) → 1 ≤ length ss → x ≡ get_or ss 0 x →
      Nests (on_next (stmts p call (stmts_of (take (length ss - 1) (drop 1 ss))))) (stmt p call (stmt_of x)) ≡ apart_begun p call (stmts_of ss)
  apart_first [] x h is = absurd (omega (arith, h))
  apart_first (y ∷ ss) x h is =
      let all : take (length (y ∷ ss) - 1) (drop 1 (y ∷ ss)) ≡ ss = take_all (length (y ∷ ss) - 1) ss (omega arith) in
      λ i. Nests (on_next (stmts p call (stmts_of (all i)))) (stmt p call (stmt_of (is i)))

module _ {A : Type 0} (source : ProgramTables A) where
  by_framed : (w : Direction) (frames : ℕ) (s : Stmt) → IsFramed (begun_by source w frames s)
  by_framed way.Whole frames s = whole_framed (stmt_framed (program_in source) frames s)
  by_framed way.Scoped frames s = scope_framed _
  by_framed (way.Turns n) frames s = turns_framed (program_in source) frames s n

  begun_framed : (t : Pending A) → IsFramed (first_step_of source t)
  begun_framed (task.Apart frames ss) = pure_framed _
  begun_framed (task.Alone w frames s) = by_framed w frames (stmt_of s.now)

  step_framed : (l : Left A) (e : Completion) → IsFramed (step_of source l e)
  step_framed (left.Next t) e = when_next_framed (begun_framed t) e
  step_framed (left.Body frames s n) e = on_framed (after_body_framed (behind_framed (program_in source) frames (stmt_of s.now)) e) (λ o. pure_framed (follow_turn (turns_in source frames (stmt_of s.now) n) o))
  step_framed (left.Scope n) e = whole_framed (cut_framed n e)
  step_framed (left.Call ty outer) e = whole_framed (call_left_framed ty (items_in outer) e)

  by_is : (w : Direction) (frames : ℕ) (st : Stmt) (s : State) → does_by source w frames st s ≡ go_on (begun_by source w frames st s) follows
  by_is way.Whole frames st s = same_end (stmt (program_in source) (caller_in source frames) st s)
  by_is way.Scoped frames st s = refl
  by_is (way.Turns n) frames st s = turns_is (program_in source) (caller_in source frames) st n s

  task_is : (t : Pending A) (s : State) → does_task source t s ≡ go_on (first_step_of source t s) follows
  task_is (task.Apart frames ss) s = apart_is (program_in source) (caller_in source frames) (stmts_of ss.now) s
  task_is (task.Alone w frames st) s = by_is w frames (stmt_of st.now) s

  resumed_is : (l : Left A) (e : Completion) (s : State) → continue_with source l e s ≡ go_on (step_of source l e s) follows
  resumed_is (left.Next t) Next s = task_is t s
  resumed_is (left.Next t) e s = refl
  resumed_is (left.Body frames st n) e s =
      let rest = turns_in source frames (stmt_of st.now) n in
      on_both (after_body (turn_end_of (program_in source) (caller_in source frames) (stmt_of st.now)) e s) (after_turn rest) (λ o. pure (follow_turn rest o)) follows (λ o now. turned_is rest o now)
  resumed_is (left.Scope n) e s = same_end (drop_names n e s)
  resumed_is (left.Call ty outer) e s = same_end (call_left ty (items_in outer) e s)

  pub own_step : (l : Left A) (e : Completion) → IsStep (continue_with source l) e (step_of source l e)
  own_step l e = record { does = resumed_is l e; framed = step_framed l e }

  -- a statement by its parts
  module _ (frames : ℕ) where
    looped_framed : (st : Stmt) (w : Loop A) → IsFramed (step_by_parts source frames st (parts.Repeats w))
    looped_framed st (kind.While c a) = loop_framed _
    looped_framed st (kind.DoWhile a c) = loop_framed _
    looped_framed st (kind.For head a) = for_framed (program_in source) frames (start_of head.now.start) _

    parted_framed : (st : Stmt) (q : StmtParts A) → IsFramed (step_by_parts source frames st q)
    parted_framed st (parts.Block ss) = scope_framed _
    parted_framed st (parts.Either c a b) = either_framed (program_in source) frames (expr_of c.now) (stmt_of a.now) (option_map stmt_of b.now)
    parted_framed st (parts.Repeats w) = looped_framed st w

    looped_is : (w : Loop A) (s : State) → stmt (program_in source) (caller_in source frames) (loop_in w) s ≡ go_on (first_step source frames (loop_in w) (parts.Repeats w) s) follows
    looped_is (kind.While c a) s =
        let turn = turn_of (program_in source) (caller_in source frames) (loop_in (kind.While c a)) in on_both (tick s) (λ _. loop turn) (λ _. loop_begun turn) follows (λ u now. refl)
    looped_is (kind.DoWhile a c) s =
        let turn = turn_of (program_in source) (caller_in source frames) (loop_in (kind.DoWhile a c)) in on_both (tick s) (λ _. loop turn) (λ _. loop_begun turn) follows (λ u now. refl)
    looped_is (kind.For head a) s = for_is (program_in source) (caller_in source frames) (start_of head.now.start) (turn_of (program_in source) (caller_in source frames) (loop_in (kind.For head a))) s

    parted_is : (q : StmtParts A) (s : State) → stmt (program_in source) (caller_in source frames) (stmt_in q) s ≡ go_on (first_step source frames (stmt_in q) q s) follows
    parted_is (parts.Block ss) s = on_both (tick s) (λ _. in_scope (does_stmts source frames ss.now)) (λ _. scope_begun (does_stmts source frames ss.now)) follows (λ u now. refl)
    parted_is (parts.Either c a b) s = either_is (program_in source) (caller_in source frames) (expr_of c.now) (stmt_of a.now) (option_map stmt_of b.now) s
    parted_is (parts.Repeats w) s = looped_is w s

    pub open_step : (l : Left A) (t : Pending A) (st : Stmt) (q : StmtParts A) (e : Completion) → l ≡ left.Next t → e ≡ Next → does_task source t ≡ stmt (program_in source) (caller_in source frames) st → st ≡ stmt_in q → IsStep (continue_with source l) e (first_step source frames st q)
    open_step l t st q e is next does parts = record {
      does = λ s.
          ap (λ k. continue_with source k e s) is ∙ ap (λ d. continue_with source (left.Next t) d s) next ∙ ap (λ run. run s) does
          ∙ subst (λ k. stmt (program_in source) (caller_in source frames) k s ≡ go_on (first_step source frames k q s) follows) (sym parts) (parted_is q s);
      framed = then_framed tick_framed (parted_framed st q);
    }

    -- one that is nothing but a call
    pub call_step : (l : Left A) (t : Pending A) (st : Stmt) (x : List ℕ) (es : Exprs) (e : Completion) → l ≡ left.Next t → e ≡ Next → does_task source t ≡ stmt (program_in source) (caller_in source frames) st → stmt (program_in source) (caller_in source frames) st ≡ call_alone (program_in source) (caller_in source frames) x es → IsStep (continue_with source l) e (call_begun (program_in source) frames x es)
    call_step l t st x es e is next does calls = record {
      does = λ s.
          ap (λ k. continue_with source k e s) is ∙ ap (λ d. continue_with source (left.Next t) d s) next ∙ ap (λ run. run s) (does ∙ calls)
          ∙ call_is (program_in source) frames x es s;
      framed = call_framed (program_in source) frames x es;
    }
