-- No expression and no statement gains ticks.
use Rattle.std.proofs.Common.{ℕ, zero, suc, ◌≤◌, List, [], ◌∷◌, ◌++◌, Option, Some, None, arith}
use Rattle.syntax.specs.declared.tree.Mode.{Mode}
use Rattle.syntax.specs.declared.tree.Mode.TheVariants.{Atomic, Relaxed}
use Rattle.syntax.specs.declared.tree.TransactionKind.{TransactionKind}
use Rattle.syntax.specs.declared.tree.TransactionKind.TheVariants.{Plain, Outer}
use Rattle.syntax.specs.declared.thread_end.Halt.TheVariants.{Trapped}
use Rattle.syntax.specs.Names.{Local}
use Rattle.syntax.specs.Behaviours.{Memory}
use Rattle.syntax.specs.Actions.{Context, Outside, Inside, State, Answer, Gives, Stops, state_of, Action, stop, go_on, ◌>>=◌, spend, tick, load_at, store_at, may_print_at, write}
use Rattle.syntax.specs.Tree.{Program, Simple}
use Rattle.syntax.specs.Meaning.{simple, calls, Completion, after_turn, turns, Left, left_by, close_inner, close, enter, mode_of, begin_at}
use Rattle.syntax.specs.Laws.{TicksNeverGrow}
use Rattle.syntax.proofs.running.Preserved.{IsAlwaysPreserved, each_expr_holds, each_simple_holds, each_stmt_holds}

record Falls {A : Type 0} (run : Action A) : Type 0 where
  falls : (s : State) → (state_of (run s)).ticks ≤ s.ticks

pub on_falls : {A B : Type 0} (n : ℕ) (r : Answer A) (rest : A → Action B) → (state_of r).ticks ≤ n → ((a : A) (t : State) → (state_of (rest a t)).ticks ≤ t.ticks) → (state_of (go_on r rest)).ticks ≤ n
on_falls n (Gives a t) rest c h = let later = h a t in omega (arith, c, later)
on_falls n (Stops why t) rest c h = c

spend_falls : (n : ℕ) (s : State) → n ≤ s.ticks → (state_of (spend n s)).ticks ≤ s.ticks
spend_falls zero s h = omega arith
spend_falls (suc n) s h = omega (arith, h)

load_falls : (p : Context) (c : ℕ) (s : State) → (state_of (load_at p c s)).ticks ≤ s.ticks
load_falls (Outside f l) c s = omega arith
load_falls (Inside mode m) c s = omega arith

store_falls : (p : Context) (c w : ℕ) (s : State) → (state_of (store_at p c w s)).ticks ≤ s.ticks
store_falls (Outside f l) c w s = omega arith
store_falls (Inside mode m) c w s = omega arith

may_print_falls : (p : Context) (s : State) → (state_of (may_print_at p s)).ticks ≤ s.ticks
may_print_falls (Outside f l) s = omega arith
may_print_falls (Inside Relaxed m) s = omega arith
may_print_falls (Inside Atomic m) s = omega arith

after_turn_falls : (rest : Action Completion) → ((s : State) → (state_of (rest s)).ticks ≤ s.ticks) → (o : Option Completion) (s : State) → (state_of (after_turn rest o s)).ticks ≤ s.ticks
after_turn_falls rest h None s = h s
after_turn_falls rest h (Some end) s = omega arith

turns_fall : (turn : Action (Option Completion)) → Falls turn → (n : ℕ) (s : State) → (state_of (turns n turn s)).ticks ≤ s.ticks
turns_fall turn h zero s = omega arith
turns_fall turn h (suc n) s =
    on_falls s.ticks (tick s) (λ _. turn >>= after_turn (turns n turn)) (spend_falls s.ticks s (omega arith))
    (λ _ t. on_falls t.ticks (turn t) (after_turn (turns n turn)) (h.falls t) (after_turn_falls (turns n turn) (turns_fall turn h n)))

leave_falls : (n k : ℕ) (now : State) (founds lefts : List Memory) (left : Left) → now.ticks ≤ n → k ≤ n → (state_of (go_on (spend k (record now { context = Outside founds lefts })) (λ u then_. Gives left.end (record then_ { locals = left.locals; context = Outside founds (lefts ++ left.memory ∷ []) })))).ticks ≤ n
leave_falls n zero now founds lefts left h k = h
leave_falls n (suc k) now founds lefts left h below = omega (arith, below)

close_falls : (n : ℕ) (kind : TransactionKind) (m : Memory) (founds lefts : List Memory) (mine : List Local) (r : Answer Completion) → (state_of r).ticks ≤ n → (state_of (close kind founds lefts mine m r)).ticks ≤ n
close_falls n kind m founds lefts mine (Gives end now) c = leave_falls n now.ticks now founds lefts (left_by kind mine m end now) c c
close_falls n kind m founds lefts mine (Stops (Trapped k) now) c = c
close_falls n kind m founds lefts mine r c = c

close_inner_falls : (n : ℕ) (outer : Mode) (kind : TransactionKind) (m : Memory) (mine : List Local) (r : Answer Completion) → (state_of r).ticks ≤ n → (state_of (close_inner outer kind mine m r)).ticks ≤ n
close_inner_falls n outer kind m mine (Gives end now) c = c
close_inner_falls n outer kind m mine (Stops why now) c = c

begin_falls : (p : Context) (s : State) → (state_of (begin_at p s)).ticks ≤ s.ticks
begin_falls (Outside founds lefts) s = spend_falls s.ticks s (omega arith)
begin_falls (Inside mode m) s = omega arith

inside : (kind : TransactionKind) (m : Memory) → State → State
inside kind m s = record s { context = Inside (mode_of kind) m }

enter_falls : (kind : TransactionKind) (run : Action Completion) → Falls run → (p : Context) (s : State) → (state_of (enter p kind run s)).ticks ≤ s.ticks
unfolding inside
enter_falls kind run h (Outside [] lefts) s = omega arith
enter_falls kind run h (Outside (m ∷ founds) lefts) s = close_falls s.ticks kind m founds lefts s.locals (run (inside kind m s)) (h.falls (inside kind m s))
enter_falls kind run h (Inside Relaxed m) s = close_inner_falls s.ticks Relaxed kind m s.locals (run (inside kind m s)) (h.falls (inside kind m s))
enter_falls (Plain Atomic) run h (Inside Atomic m) s = close_inner_falls s.ticks Atomic (Plain Atomic) m s.locals (run (inside (Plain Atomic) m s)) (h.falls (inside (Plain Atomic) m s))
enter_falls Outer run h (Inside Atomic m) s = close_inner_falls s.ticks Atomic Outer m s.locals (run (inside Outer m s)) (h.falls (inside Outer m s))
enter_falls (Plain Relaxed) run h (Inside Atomic m) s = omega arith

on_falling : {A B : Type 0} {run : Action A} {rest : A → Action B} → Falls run → ((a : A) → Falls (rest a)) → Falls (run >>= rest)
on_falling {run = run} {rest = rest} g h = record { falls = λ s. on_falls s.ticks (run s) rest (g.falls s) (λ a t. (h a).falls t) }

falls_preserved : IsAlwaysPreserved (λ A run. Falls run)
falls_preserved = record {
  pure_holds = λ a. record { falls = λ s. omega arith };
  on_holds = on_falling;
  astray_holds = record { falls = λ s. omega arith };
  trap_holds = λ t. record { falls = λ s. on_falls s.ticks (tick s) (λ _. stop (Trapped t)) (spend_falls s.ticks s (omega arith)) (λ _ u. omega arith) };
  tick_holds = record { falls = λ s. spend_falls s.ticks s (omega arith) };
  locals_holds = record { falls = λ s. omega arith };
  put_locals_holds = λ ls. record { falls = λ s. omega arith };
  load_holds = λ c. record { falls = λ s. load_falls s.context c s };
  store_holds = λ c w t cell below. record { falls = λ s. store_falls s.context c w s };
  may_print_holds = record { falls = λ s. may_print_falls s.context s };
  print_piece_holds = λ text shown. record { falls = λ s. on_falls s.ticks (tick s) (λ _. write text) (spend_falls s.ticks s (omega arith)) (λ _ u. omega arith) };
  loop_holds = λ h. record { falls = λ s. turns_fall _ h s.ticks s };
  transaction_holds = λ kind h. record { falls = λ s. enter_falls kind _ h s.context s };
  begin_value_holds = record { falls = λ s. begin_falls s.context s };
}

pub ticks_never_grow : TicksNeverGrow
ticks_never_grow p frames =
    (λ e s. (each_expr_holds p (λ A run. Falls run) falls_preserved frames e).falls s, λ st s. (each_stmt_holds p (λ A run. Falls run) falls_preserved frames st).falls s)

-- nor does a simple statement
pub simples_never_grow : (p : Program) (frames : ℕ) (st : Simple) (s : State) → (state_of (simple p (calls p frames) st s)).ticks ≤ s.ticks
simples_never_grow p frames st s = (each_simple_holds p (λ A run. Falls run) falls_preserved frames st).falls s
