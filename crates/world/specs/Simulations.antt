-- A world of the machine as its contracts see it: the code, and the steps that were made. All else follows from these.
use Rattle.std.specs.Prelude.{◌≡◌, ◌+◌, ◌%◌, ◌⊎◌, ℕ, Bool, true, false, List, ◌∷◌, ◌++◌, Option, None, Some, option_map}
use Rattle.std.specs.Prelude.{take}
use Rattle.std.specs.List.{slice_get}
use Rattle.syntax.specs.Behaviours.{Behaviour, Means, Step}
use Rattle.syntax.specs.Threads.{thread}
use Rattle.syntax.specs.Tree.{Program}
use Rattle.syntax.specs.declared.thread_end.Status.{Status}
use Rattle.bytecode.specs.Beginning.{beginning}
use Rattle.bytecode.specs.Code.{Code, Configuration, effect}
use Rattle.bytecode.specs.Initial.{initial_of}
use Rattle.bytecode.specs.Sequential.{meaning}
use Rattle.bytecode.specs.Valid.{bounds_of}
use Rattle.norec_core.specs.Accesses.{stops}
use Rattle.machine.specs.declared.event.Event.{Event}
use Rattle.machine.specs.declared.event.Event.TheVariants as event
use Rattle.machine.specs.declared.event.StepShown.{StepShown}
use Rattle.machine.specs.Alone.{ReachesEnd}
use Rattle.machine.specs.Computes.{AttemptsCompute}
use Rattle.machine.specs.Drops.{DropsAreBounded, DropsComeAfterTakings, DropsComeOfChanges}
use Rattle.machine.specs.Holders.{HoldersNeverAbort}
use Rattle.machine.specs.Merges.{run_of}
use Rattle.machine.specs.OneOrder.{IsInOneOrder}
use Rattle.machine.specs.Serializable.{IsOpaque, merge_after, world_after}
use Rattle.machine.specs.States.{thread_has_lock}
use Rattle.machine.specs.Strict.{IsStrictlySerializable}
use Rattle.machine.specs.Tallies as tallies
use Rattle.machine.specs.Tallies.{BeginsFree, IsOpenAfter, IsOverAfter, IsUndisturbed}
use Rattle.machine.specs.Threads.{access, step_with}
use Rattle.machine.specs.Worlds.{Part, Reached, World, answer, new_world, step}

-- a code, the number of threads that run it, and the thread of each step that was made
pub record Simulation : Type 0 where
  pub code : Code
  pub threads : ℕ
  pub trace : List ℕ

-- the world that the steps lead to
abbrev pub world_of : Simulation → World Configuration
world_of s = world_after (effect s.code) (beginning s.code) (initial_of s.code) s.threads s.trace

-- thread t in a world
abbrev pub part_of : Simulation → ℕ → Option (Part Configuration)
part_of s t = slice_get (world_of s).parts t

-- a world after further steps
abbrev pub further : Simulation → List ℕ → Simulation
further s ts = record s { trace = s.trace ++ ts }

-- a world after only the first n of its steps
abbrev pub earlier : Simulation → ℕ → Simulation
earlier s n = record s { trace = take n s.trace }

-- the next step of a thread would swap the lock from its last even value
abbrev pub stops_next : Code → Option (Part Configuration) → Bool
stops_next code None = false
stops_next code (Some p) = stops (access (effect code) p.thread)

abbrev pub stops_at : Simulation → ℕ → Bool
stops_at s t = stops_next s.code (part_of s t)

-- the events of a thread's next step
abbrev pub event_next : Code → World Configuration → Option (Part Configuration) → Event
event_next code w None = event.Quiet
event_next code w (Some p) =
    (step_with (effect code) p.thread (answer w.lock w.words (access (effect code) p.thread))).event

abbrev pub event_at : Simulation → ℕ → Event
event_at s t = event_next s.code (world_of s) (part_of s t)

-- the display of a thread's next step
abbrev pub shown_by : Code → World Configuration → Part Configuration → StepShown
shown_by code w p =
    let a = access (effect code) p.thread in
    let reply = answer w.lock w.words a in
    record {
      status = p.thread.status;
      place = p.thread.configuration.place;
      access = a;
      answer = reply;
      event = (step_with (effect code) p.thread reply).event;
    }

abbrev pub shown_next : Code → World Configuration → Option (Part Configuration) → Option StepShown
shown_next code w o = option_map (shown_by code w) o

abbrev pub shown_at : Simulation → ℕ → Option StepShown
shown_at s t = shown_next s.code (world_of s) (part_of s t)

-- a thread's status, and the text it has printed
abbrev pub status_at : Simulation → ℕ → Option Status
status_at s t = option_map (λ (p : Part Configuration). p.thread.status) (part_of s t)

abbrev pub output_at : Simulation → ℕ → Option (List ℕ)
output_at s t = option_map (λ (p : Part Configuration). p.thread.text) (part_of s t)

-- The thread that has the lock. If there is none, the lock is even.
abbrev pub IsHolder : World Configuration → Option ℕ → Type 0
IsHolder w None =
    (w.lock % 2 ≡ 0)
    × ((t : ℕ) (p : Part Configuration) → slice_get w.parts t ≡ Some p → thread_has_lock p.thread ≡ false)
IsHolder w (Some t) =
    (w.lock % 2 ≡ 1)
    × ((p : Part Configuration) × (slice_get w.parts t ≡ Some p) × (thread_has_lock p.thread ≡ true))

-- the number of accesses to the lock or the words in a thread's next step
abbrev pub cost_next : Code → Option (Part Configuration) → ℕ
cost_next code o = tallies.cost_next (effect code) o

-- the number of accesses to the lock or the words in these steps of all threads, from a world on
abbrev pub accesses_in : Code → List ℕ → World Configuration → ℕ
accesses_in code ts w = tallies.accesses_in (effect code) ts w

abbrev pub accesses_of : Simulation → ℕ
accesses_of s = accesses_in s.code s.trace (new_world (beginning s.code) (initial_of s.code) s.threads)

-- the transactions that have taken effect, in their order, each with the memories that it found and left
abbrev pub transactions_of : Simulation → List Step
transactions_of s =
    run_of (merge_after (effect s.code) (beginning s.code) (initial_of s.code) s.threads s.trace)

-- The growth in the accesses of all threads over an undisturbed transaction: no thread has the lock, thread t is about
-- to begin an outermost one, and then this begin, steps of t in its attempt and local steps of other threads follow.
abbrev pub CountsAccesses : Simulation → Type 0
CountsAccesses s = (t : ℕ) (p : Part Configuration) (us : List ℕ) (k : ℕ) →
    BeginsFree (effect s.code) (world_of s) t p →
    IsUndisturbed (effect s.code) t us (step (effect s.code) (world_of s) t) →
    accesses_of (further s (t ∷ us)) ≡ accesses_of s + k →
    IsOpenAfter (effect s.code) (world_of s) t p k (world_of (further s (t ∷ us)))
    ⊎ IsOverAfter (effect s.code) (world_of s) t p k (world_of (further s (t ∷ us)))

-- Properties of every world: none of its steps stops, its transactions are in real-time order, each attempt has a
-- moment, and later runs extend earlier ones. This holds for the code, and for every program that the code means. If a
-- thread has no attempt, the transactions that it begins from here on come after all that has taken effect. All
-- attempts, including the aborted ones, are in one order, which is real-time order. Each attempt, even one that will
-- abort, is in the state that its code's meaning reaches on the memory of its moment. A thread has aborted at most once
-- for each transaction of another thread that took the lock, and once more while the lock is held. Each step made, and
-- the next one of each thread, aborts an attempt only if validation loaded the word of an entry of the read log and
-- found another one, and if the lock was taken since the last snapshot. From here on a thread that has the lock never
-- aborts, and an undisturbed transaction makes the accesses that the code's meaning counts.
pub record IsExplained (s : Simulation) : Type 0 where
  pub reached : Reached (effect s.code) (beginning s.code) (initial_of s.code) s.threads (world_of s)
  pub code : IsOpaque (effect s.code) (beginning s.code) (meaning (effect s.code) (beginning s.code)) (bounds_of s.code)
      (initial_of s.code) s.threads s.trace
  pub programs : (program : Behaviour) →
      Means (bounds_of s.code) (meaning (effect s.code) (beginning s.code)) program →
      IsOpaque (effect s.code) (beginning s.code) program (bounds_of s.code) (initial_of s.code) s.threads s.trace
  pub strict : (program : Behaviour) → Means (bounds_of s.code) (meaning (effect s.code) (beginning s.code)) program →
      (us : List ℕ) → IsStrictlySerializable (effect s.code) (beginning s.code) program (bounds_of s.code)
      (initial_of s.code) s.threads s.trace us
  pub order : IsInOneOrder (effect s.code) (beginning s.code) (initial_of s.code) s.threads s.trace
  pub attempts : AttemptsCompute (effect s.code) (beginning s.code) (initial_of s.code) (world_of s)
  pub drops : DropsAreBounded (effect s.code) (beginning s.code) (initial_of s.code) s.threads s.trace
  pub changes : (n : ℕ) → DropsComeOfChanges (effect s.code) (world_of (earlier s n))
  pub takings : (n : ℕ) → DropsComeAfterTakings (effect s.code) (world_of (earlier s n))
  pub holders : HoldersNeverAbort (effect s.code) (world_of s)
  pub counts : CountsAccesses s

-- The behaviour of a program alone, if the code means its threads, is that of a world of one thread after some number
-- of steps, and later ones leave it unchanged.
abbrev pub EndsAlone : Code → Type 0
EndsAlone code = (program : Program) (run : List Step) (n : ℕ) →
    Means (bounds_of code) (meaning (effect code) (beginning code)) (thread program) →
    ReachesEnd (effect code) (beginning code) (thread program) (initial_of code) run n
