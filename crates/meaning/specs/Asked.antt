-- Functions that are evaluated on a memory: each is called without arguments, in a transaction over it.
use Rattle.std.specs.Prelude.{◌≡◌, ℕ, List, [], true, false}
use Rattle.syntax.specs.declared.thread_end.Halt.TheVariants.{Spent, Trapped}
use Rattle.syntax.specs.declared.thread_end.Trap.{Trap}
use Rattle.syntax.specs.declared.tree.Mode.TheVariants.{Atomic}
use Rattle.syntax.specs.declared.value.Value.{Value}
use Rattle.syntax.specs.Tree.{Program}
use Rattle.syntax.specs.Numbers.{is_zero}
use Rattle.syntax.specs.Behaviours.{Memory}
use Rattle.syntax.specs.Actions.{Answer, Gives, Inside, State, Stops}
use Rattle.syntax.specs.Meaning.{calls, invoke}
use Rattle.syntax.specs.Views.{program_of}
use Rattle.meaning.specs.declared.asked.AskedProgram.{AskedProgram}
use Rattle.meaning.specs.declared.asked.Reply.{Reply}
use Rattle.meaning.specs.declared.asked.Reply.TheVariants as reply

-- in an atomic transaction over this memory
abbrev pub state_over : Memory → (ticks : ℕ) → State
state_over m n = record { ticks = n; locals = []; context = Inside Atomic m; text = [] }

-- the call of the function of this name there, as the first of 64 frames
abbrev pub asked_over : Program → (name : List ℕ) → Memory → (ticks : ℕ) → Answer Value
asked_over p x m n = invoke p (calls p 63) x [] (state_over m n)

-- a function holds of a memory, with so many ticks: it returns a value that is not 0
pub record HoldsWithin (p : Program) (x : List ℕ) (m : Memory) (n : ℕ) : Type 0 where
  pub value : Value
  pub after : State
  pub gives : asked_over p x m n ≡ Gives value after
  pub not_zero : is_zero value ≡ false

-- it returns 0, or it traps
pub data FailsWithin (p : Program) (x : List ℕ) (m : Memory) (n : ℕ) : Type 0 where
  GivesZero : (v : Value) (s : State) → asked_over p x m n ≡ Gives v s → is_zero v ≡ true → FailsWithin p x m n
  Traps : (k : Trap) (s : State) → asked_over p x m n ≡ Stops (Trapped k) s → FailsWithin p x m n

-- it needs more ticks
pub record TakesMore (p : Program) (x : List ℕ) (m : Memory) (n : ℕ) : Type 0 where
  pub state : State
  pub spent : asked_over p x m n ≡ Stops Spent state

abbrev pub IsReply : Program → (name : List ℕ) → Memory → (ticks : ℕ) → Reply → Type 0
IsReply p x m n reply.Holds = HoldsWithin p x m n
IsReply p x m n reply.Fails = FailsWithin p x m n
IsReply p x m n reply.Spent = TakesMore p x m n

abbrev pub program_asked : {A : Type 0} → AskedProgram A → Program
program_asked asked = program_of asked.source.unit.now
