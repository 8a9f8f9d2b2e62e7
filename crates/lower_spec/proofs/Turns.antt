-- The turns of loops: they gain no ticks, so a loop is one turn and then the loop again.
use Rattle.std.proofs.Common.{ℕ, ◌≤◌, Bool, true, false, Option, Some, None, arith}
use Rattle.std.specs.Prelude.{if◌then◌else◌}
use Rattle.syntax.specs.Tree.{Expr, Simple, Stmt, Program}
use Rattle.syntax.specs.Numbers.{is_zero}
use Rattle.syntax.specs.Actions.{State, Action, state_of, pure, ◌>>=◌}
use Rattle.syntax.specs.Meaning.{Completion, Next, Breaks, Continues, Returns, Cancels, CancelsOuter, in_scope, after_body, Caller, expr, simple, stmt, for_condition, optional_step, calls}
use Rattle.syntax.proofs.running.Ticks.{on_falls, ticks_never_grow, simples_never_grow}

abbrev pub while_turn : Program → Caller → Expr → Stmt → Action (Option Completion)
while_turn p call c st = expr p call c >>= λ v. if is_zero v then pure (Some Next) else (in_scope (stmt p call st) >>= after_body (pure None))

abbrev pub do_turn : Program → Caller → Stmt → Expr → Action (Option Completion)
do_turn p call st c = in_scope (stmt p call st) >>= after_body (expr p call c >>= λ v. pure (if is_zero v then Some Next else None))

abbrev pub for_turn : Program → Caller → Option Expr → Option Simple → Stmt → Action (Option Completion)
for_turn p call c step st = for_condition p call c >>= λ more. if more then (in_scope (stmt p call st) >>= after_body (optional_step p call step)) else pure (Some Next)

-- it gains no ticks
abbrev pub Falls : {A : Type 0} → Action A → Type 0
Falls run = (s : State) → (state_of (run s)).ticks ≤ s.ticks

on_falling : {A B : Type 0} (run : Action A) (rest : A → Action B) → Falls run → ((a : A) → Falls (rest a)) → Falls (run >>= rest)
on_falling run rest g h s = on_falls s.ticks (run s) rest (g s) h

scoped_falls : (run : Action Completion) → Falls run → Falls (in_scope run)
scoped_falls run g s = on_falls s.ticks (run s) _ (g s) (λ end t. omega arith)

if_falls : {A : Type 0} (b : Bool) (x y : Action A) → Falls x → Falls y → Falls (if b then x else y)
if_falls true x y g h s = g s
if_falls false x y g h s = h s

after_body_falls : (go : Action (Option Completion)) → Falls go → (end : Completion) → Falls (after_body go end)
after_body_falls go g Next s = g s
after_body_falls go g Continues s = g s
after_body_falls go g Breaks s = omega arith
after_body_falls go g (Returns v) s = omega arith
after_body_falls go g Cancels s = omega arith
after_body_falls go g CancelsOuter s = omega arith

module _ (p : Program) (k : ℕ) where
  body_falls : (st : Stmt) (go : Action (Option Completion)) → Falls go → Falls (in_scope (stmt p (calls p k) st) >>= after_body go)
  body_falls st go g = on_falling (in_scope (stmt p (calls p k) st)) (after_body go) (scoped_falls (stmt p (calls p k) st) ((ticks_never_grow p k).1 st)) (after_body_falls go g)

  pub while_falls : (c : Expr) (st : Stmt) → Falls (while_turn p (calls p k) c st)
  while_falls c st = on_falling (expr p (calls p k) c) _ ((ticks_never_grow p k).0 c) (λ v. if_falls (is_zero v) (pure (Some Next)) (in_scope (stmt p (calls p k) st) >>= after_body (pure None)) (λ s. omega arith) (body_falls st (pure None) (λ s. omega arith)))

  pub do_falls : (st : Stmt) (c : Expr) → Falls (do_turn p (calls p k) st c)
  do_falls st c = body_falls st _ (on_falling (expr p (calls p k) c) _ ((ticks_never_grow p k).0 c) (λ v s. omega arith))

  holds_fall : (c : Option Expr) → Falls (for_condition p (calls p k) c)
  holds_fall None s = omega arith
  holds_fall (Some e) s = on_falls s.ticks (expr p (calls p k) e s) _ ((ticks_never_grow p k).0 e s) (λ v t. omega arith)

  stepped_falls : (o : Option Simple) → Falls (optional_step p (calls p k) o)
  stepped_falls None s = omega arith
  stepped_falls (Some st) s = on_falls s.ticks (simple p (calls p k) st s) (λ e. pure {A = Option Completion} None) (simples_never_grow p k st s) (λ e t. omega arith)

  pub for_falls : (c : Option Expr) (step : Option Simple) (st : Stmt) → Falls (for_turn p (calls p k) c step st)
  for_falls c step st = on_falling (for_condition p (calls p k) c) _ (holds_fall c) (λ more. if_falls more (in_scope (stmt p (calls p k) st) >>= after_body (optional_step p (calls p k) step)) (pure (Some Next)) (body_falls st (optional_step p (calls p k) step) (stepped_falls step)) (λ s. omega arith))
