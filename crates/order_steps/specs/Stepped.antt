-- Orders of transactions as lists of the machine's steps.
use Rattle.std.specs.Prelude.{◌≡◌, ◌⊎◌, ℕ, ◌%◌, ◌≤◌, ◌+◌, ◌-◌, ◌<◌, ◌^◌, List, Some, length, map, replicate, slice_set}
use Rattle.std.specs.List.{AllByRecursion, slice_get}
use Rattle.syntax.specs.Behaviours.{Ended, Means, Memory, Stopped, ThreadEnd}
use Rattle.syntax.specs.declared.thread_end.Halt.TheVariants.{Trapped, Wants}
use Rattle.syntax.specs.declared.thread_end.Status.{Status}
use Rattle.syntax.specs.declared.thread_end.Status.TheVariants.{Running, Ended as HasEnded, Trapped as HasTrapped}
use Rattle.syntax.specs.Names.{bounds, initial_memory}
use Rattle.syntax.specs.Threads.{thread}
use Rattle.syntax.specs.Tree.{Program}
use Rattle.bytecode.specs.Effects.{Effect, FitsCells}
use Rattle.bytecode.specs.Sequential.{Sequential, meaning}
use Rattle.machine.specs.Drops.{drops}
use Rattle.machine.specs.Resting.{IsThreadAtRest}
use Rattle.machine.specs.Turns.{AreSpansOf, IsTurnOf, Span, steps_in}
use Rattle.machine.specs.Worlds.{Part, World, Reached, new_world, run}
use Rattle.machine.specs.Serializable.{world_after}
use Rattle.states.specs.Comes.{AllBegin}
use Rattle.states.specs.Leads.{OrderLeads}
use Rattle.states.specs.Rests.{Rests, Turn, end_at_rest, text_at_rest}
use Rattle.states.specs.Shown.{IsOrderAmong, NoneIsSpent, ToldOfThread, memory_in, told_at_rest, told_in}
use Rattle.order_steps.specs.Resting.{RestsAs, WorldRests}

-- some number of steps of thread t alone leave these words and the thread at rest as next: no other part changes, the
-- lock is the same or two higher, and no step aborts an attempt
pub record ComesToRest {C : Type 0} (code : C → Effect C) (w : World C) (t : ℕ) (left : Memory)
    (next : Sequential C) : Type 0 where
  pub steps : ℕ
  pub part : Part C
  pub lock : ℕ
  pub world : run code (replicate steps t) w
      ≡ record { lock = lock; words = left; parts = slice_set w.parts t part }
  pub rests : RestsAs code next part.thread
  pub locked : (lock ≡ w.lock) ⊎ (lock ≡ w.lock + 2)
  pub undropped : drops code t (replicate steps t) w ≡ 0
  -- it is not at rest on the way
  pub turn : IsTurnOf code w t steps

-- From every world whose lock is free, in which thread t rests as k, whatever the states of the other threads: a turn
-- of it is some number of its steps alone.
abbrev pub GetsOn : {C : Type 0} → (C → Effect C) → List ℕ → Type 0
GetsOn {C} code bounds =
    (w : World C) (t : ℕ) (p : Part C) (k : Sequential C) (left : Memory) (next : Sequential C) →
    w.lock % 2 ≡ 0 → length w.words ≡ length bounds → slice_get w.parts t ≡ Some p → RestsAs code k p.thread →
    Turn code k w.words left next → ComesToRest code w t left next

-- the steps are turns of an order, each made by its thread alone
abbrev pub AreStepsOf : {C : Type 0} → (C → Effect C) → (ℕ → C) → Memory → (threads : ℕ) → (order : List ℕ) → List ℕ →
    Type 0
AreStepsOf code init m0 threads order ts =
    (spans : List Span) × AreSpansOf code init m0 threads order spans × (ts ≡ steps_in spans)

-- an order of transactions is a list of the machine's steps, which do not stop
abbrev pub OrdersAreSteps : {C : Type 0} → (C → Effect C) → (ℕ → C) → Program → Type 0
OrdersAreSteps {C} code init p =
    (ks : List (Sequential C)) (order : List ℕ) (last : Memory) (rest : List (Sequential C)) →
    AllBegin (Rests code (bounds p) init) 0 ks →
    OrderLeads end_at_rest (Turn code) order (initial_memory p) ks last rest → length order < 2 ^ 63 - 1 →
    (ts : List ℕ) × WorldRests code last rest (world_after code init (initial_memory p) (length ks) ts)
    × Reached code init (initial_memory p) (length ks) (world_after code init (initial_memory p) (length ks) ts)
    × ((t : ℕ) → drops code t ts (new_world init (initial_memory p) (length ks)) ≡ 0)
    × AreStepsOf code init (initial_memory p) (length ks) order ts

-- each turn ends at its thread's first state at rest, so the turns of an order are determined
abbrev pub TurnsAreDetermined : {C : Type 0} → (C → Effect C) → (ℕ → C) → Type 0
TurnsAreDetermined code init =
    (m0 : Memory) (threads : ℕ) (order : List ℕ) (xs ys : List Span) → AreSpansOf code init m0 threads order xs →
    AreSpansOf code init m0 threads order ys → xs ≡ ys

-- the report of a thread of the machine that has no attempt and can make no further progress by itself
abbrev pub end_when_idle : Status → ThreadEnd
end_when_idle Running = Stopped Wants
end_when_idle HasEnded = Ended
end_when_idle (HasTrapped cause) = Stopped (Trapped cause)

abbrev pub told_when_idle : {C : Type 0} → Part C → ToldOfThread
told_when_idle p = (p.thread.text, end_when_idle p.thread.status)

-- after an order of the source, threads rest
pub record LeadsToRest {C : Type 0} (code : C → Effect C) (init : ℕ → C) (p : Program) (count ticks : ℕ)
    (order : List ℕ) : Type 0 where
  pub ks : List (Sequential C)
  pub many : length ks ≡ count
  pub begin : AllBegin (Rests code (bounds p) init) 0 ks
  pub last : Memory
  pub rest : List (Sequential C)
  pub leads : OrderLeads end_at_rest (Turn code) order (initial_memory p) ks last rest
  pub memory : memory_in p count ticks order ≡ last
  pub told : told_in p count ticks order ≡ map (told_at_rest end_at_rest text_at_rest) rest

-- each order in which no thread is spent leads to threads at rest that show the same as it
abbrev pub SourceOrdersLead : {C : Type 0} → (C → Effect C) → (ℕ → C) → Program → Type 0
SourceOrdersLead code init p =
    (count ticks : ℕ) (order : List ℕ) → count ≤ 2 ^ 32 → IsOrderAmong count order →
    NoneIsSpent (told_in p count ticks order) → LeadsToRest code init p count ticks order

-- A list of steps that do not stop leaves a free lock, the memory of an order, and the order's report of each thread.
-- No step aborts an attempt, and the steps are the order's turns.
pub record IsStepped {C : Type 0} (code : C → Effect C) (init : ℕ → C) (p : Program) (count ticks : ℕ)
    (order : List ℕ) : Type 0 where
  pub trace : List ℕ
  pub reached : Reached code init (initial_memory p) count (world_after code init (initial_memory p) count trace)
  pub even : (world_after code init (initial_memory p) count trace).lock % 2 ≡ 0
  pub memory : (world_after code init (initial_memory p) count trace).words ≡ memory_in p count ticks order
  pub told : map told_when_idle (world_after code init (initial_memory p) count trace).parts
      ≡ told_in p count ticks order
  pub idle : AllByRecursion (λ (x : Part C). IsThreadAtRest code x.thread)
      (world_after code init (initial_memory p) count trace).parts
  pub undropped : (t : ℕ) → drops code t trace (new_world init (initial_memory p) count) ≡ 0
  pub turns : AreStepsOf code init (initial_memory p) count order trace

-- each order of the source in which no thread is spent is a list of the machine's steps
abbrev pub SourceOrdersAreSteps : {C : Type 0} → (C → Effect C) → (ℕ → C) → Program → Type 0
SourceOrdersAreSteps code init p =
    (count ticks : ℕ) (order : List ℕ) → count ≤ 2 ^ 32 → IsOrderAmong count order →
    NoneIsSpent (told_in p count ticks order) → length order < 2 ^ 63 - 1 → IsStepped code init p count ticks order

-- the same of every program that a code means whose cells it fits
abbrev pub MachineDoesAll : {C : Type 0} → (C → Effect C) → (ℕ → C) → Type 0
MachineDoesAll code init =
    (p : Program) → FitsCells code (bounds p) → Means (bounds p) (meaning code init) (thread p) →
    SourceOrdersAreSteps code init p
