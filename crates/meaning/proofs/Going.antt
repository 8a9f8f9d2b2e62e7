-- Statements and turns of loops are done step by step: the first step, and then what is left behind it.
use Rattle.std.proofs.Common.{◌≡◌, ℕ, zero, suc, length, Option, Some, None, Bool, true, false, refl, sym, ap, ◌∙◌}
use Rattle.std.specs.Prelude.{if◌then◌else◌, not}
use Rattle.syntax.specs.Tree as tree
use Rattle.syntax.specs.Tree.{Program, Stmt, Stmts, Expr, Start}
use Rattle.syntax.specs.Numbers.{is_zero}
use Rattle.syntax.specs.declared.value.Value.{Value}
use Rattle.syntax.specs.Actions.{State, Answer, Gives, Stops, Action, pure, go_on, tick, ◌>>=◌, ◌>>◌}
use Rattle.syntax.specs.Meaning.{Caller, Completion, Next, expr, stmt, stmts, in_scope, after_body, after_turn, turns, loop, for_condition, optional_step, start_with}
use Rattle.meaning.specs.inner.Does.{if_of, loop_condition}
use Rattle.meaning.specs.inner.Going.{Ends, Goes, Nests, follows, drop_names, apart_begun, otherwise, either_begun, for_begun, turn_of, turn_begun, turns_begun, body_left, follow_turn}
use Rattle.meaning.proofs.Sequences.{twice}

-- runs that do the same behind an answer
on_same : {X Y : Type 0} (r : Answer X) (f g : X → Action Y) → ((x : X) (s : State) → f x s ≡ g x s) → go_on r f ≡ go_on r g
on_same (Gives x s) f g h = h x s
on_same (Stops why s) f g h = refl

-- behind a tick and the like
pub on_both : {X Y Z : Type 0} (r : Answer X) (f : X → Action Z) (g : X → Action Y) (rest : Y → Action Z) → ((x : X) (s : State) → f x s ≡ go_on (g x s) rest) → go_on r f ≡ go_on (go_on r g) rest
on_both r f g rest h = on_same r f (λ x. g x >>= rest) h ∙ twice r g rest

pub same_answer : {X : Type 0} (r : Answer X) → go_on r pure ≡ r
same_answer (Gives x s) = refl
same_answer (Stops why s) = refl

pub same_end : (r : Answer Completion) → r ≡ go_on (go_on r (λ end. pure (Ends end))) follows
same_end (Gives end s) = refl
same_end (Stops why s) = refl

pub turned_is : (rest : Action Completion) (o : Option Completion) (s : State) → after_turn rest o s ≡ follows (follow_turn rest o) s
turned_is rest None s = refl
turned_is rest (Some end) s = refl

-- a body where the test holds, and what comes behind it
goes_is : (body : Action Completion) (behind : Action (Option Completion)) (rest : Action Completion) (goes : Bool) (s : State) →
    go_on ((if goes then (body >>= after_body behind) else pure (Some Next)) s) (after_turn rest) ≡ follows (if goes then Nests (body_left behind rest) body else Ends Next) s
goes_is body behind rest true s = sym (twice (body s) (after_body behind) (after_turn rest))
goes_is body behind rest false s = refl

tested_turn : (body : Action Completion) (behind : Action (Option Completion)) (rest : Action Completion) (r : Answer Bool) →
    go_on (go_on r (λ goes. if goes then (body >>= after_body behind) else pure (Some Next))) (after_turn rest) ≡ go_on (go_on r (λ goes. pure (if goes then Nests (body_left behind rest) body else Ends Next))) follows
tested_turn body behind rest (Gives goes s) = goes_is body behind rest goes s
tested_turn body behind rest (Stops why s) = refl

while_tests : (body : Action Completion) (z : Bool) (s : State) → (if z then pure (Some Next) else (body >>= after_body (pure None))) s ≡ (if not z then (body >>= after_body (pure None)) else pure (Some Next)) s
while_tests body true s = refl
while_tests body false s = refl

while_is : (body : Action Completion) (r : Answer Value) →
    go_on r (λ v. if is_zero v then pure (Some Next) else (body >>= after_body (pure None))) ≡ go_on (go_on r (λ v. pure (not (is_zero v)))) (λ goes. if goes then (body >>= after_body (pure None)) else pure (Some Next))
while_is body (Gives v s) = while_tests body (is_zero v) s
while_is body (Stops why s) = refl

module _ (p : Program) (call : Caller) where
  pub apart_is : (ss : Stmts) (s : State) → stmts p call ss s ≡ follows (apart_begun p call ss) s
  apart_is Stmts.[] s = refl
  apart_is (Stmts.◌∷◌ st ss) s = refl

  one_is : (a : Stmt) (b : Option Stmt) (other : Action Completion) (z : Bool) (s : State) → other s ≡ follows (otherwise p call b) s →
      (if z then other else in_scope (stmt p call a)) s ≡ follows (if z then otherwise p call b else Goes (in_scope (stmt p call a))) s
  one_is a b other true s h = h
  one_is a b other false s h = refl

  pub either_is : (c : Expr) (a : Stmt) (b : Option Stmt) (s : State) → stmt p call (if_of c a b) s ≡ go_on (go_on (tick s) (λ _. either_begun p call c a b)) follows
  either_is c a None s =
      on_both (tick s) (λ _. expr p call c >>= (λ v. if is_zero v then pure Next else in_scope (stmt p call a))) (λ _. either_begun p call c a None) follows
      (λ u now. on_both (expr p call c now) (λ v. if is_zero v then pure Next else in_scope (stmt p call a)) (λ v. pure (if is_zero v then otherwise p call None else Goes (in_scope (stmt p call a)))) follows
      (λ v then_. one_is a None (pure Next) (is_zero v) then_ refl))
  either_is c a (Some b) s =
      on_both (tick s) (λ _. expr p call c >>= (λ v. if is_zero v then in_scope (stmt p call b) else in_scope (stmt p call a))) (λ _. either_begun p call c a (Some b)) follows
      (λ u now. on_both (expr p call c now) (λ v. if is_zero v then in_scope (stmt p call b) else in_scope (stmt p call a)) (λ v. pure (if is_zero v then otherwise p call (Some b) else Goes (in_scope (stmt p call a)))) follows
      (λ v then_. one_is a (Some b) (in_scope (stmt p call b)) (is_zero v) then_ refl))

  for_opened : (n : ℕ) (turn : Action (Option Completion)) (r : Answer Completion) →
      go_on (go_on r (λ _. loop turn)) (drop_names n) ≡ go_on (go_on r (λ _ now. Gives (Nests (drop_names n) (turns now.ticks turn)) now)) follows
  for_opened n turn (Gives e s) = refl
  for_opened n turn (Stops why s) = refl

  pub for_is : (start : Start) (turn : Action (Option Completion)) (s : State) →
      go_on (tick s) (λ _. in_scope (start_with p call start >> loop turn)) ≡ go_on (go_on (tick s) (λ _. for_begun p call start turn)) follows
  for_is start turn s =
      on_both (tick s) (λ _. in_scope (start_with p call start >> loop turn)) (λ _. for_begun p call start turn) follows
      (λ u now. for_opened (length now.locals) turn (start_with p call start now))

  turn_is : (st : Stmt) (n : ℕ) (s : State) → go_on (turn_of p call st s) (after_turn (turns n (turn_of p call st))) ≡ go_on (turn_begun p call st n s) follows
  turn_is (tree.While c a) n s =
      let rest = turns n (turn_of p call (tree.While c a)) in
      ap (λ r. go_on r (after_turn rest)) (while_is (in_scope (stmt p call a)) (expr p call c s)) ∙ tested_turn (in_scope (stmt p call a)) (pure None) rest (for_condition p call (Some c) s)
  turn_is (tree.DoWhile a c) n s = tested_turn (in_scope (stmt p call a)) (loop_condition p call c) (turns n (turn_of p call (tree.DoWhile a c))) (Gives true s)
  turn_is (tree.For start c step a) n s = tested_turn (in_scope (stmt p call a)) (optional_step p call step) (turns n (turn_of p call (tree.For start c step a))) (for_condition p call c s)
  turn_is st n s = refl

  pub turns_is : (st : Stmt) (n : ℕ) (s : State) → turns n (turn_of p call st) s ≡ go_on (turns_begun p call st n s) follows
  turns_is st zero s = refl
  turns_is st (suc n) s = on_both (tick s) (λ _. turn_of p call st >>= after_turn (turns n (turn_of p call st))) (λ _. turn_begun p call st n) follows (λ u now. turn_is st n now)
