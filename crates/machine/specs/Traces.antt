-- Lists of steps with each thread's responses: the world of a trace.
use Rattle.std.specs.Prelude.{◌≡◌, ◌++◌, ℕ, false, List, [], ◌∷◌, Option, None, Some, replicate, slice_set}
use Rattle.std.specs.List.{slice_get}
use Rattle.bytecode.specs.Effects.{Effect}
use Rattle.machine.specs.Answered.{Heard, hearing}
use Rattle.machine.specs.Serializable.{world_after}
use Rattle.machine.specs.Threads.{access}
use Rattle.machine.specs.Worlds.{Part, World, answer, new_world, step}
use Rattle.norec_core.specs.Accesses.{stops}

-- the responses after one step of thread t
abbrev pub heard_of : {C : Type 0} → (C → Effect C) → World C → List (List Heard) → ℕ → Option (Part C) →
    Option (List Heard) → List (List Heard)
heard_of code w heard t (Some p) (Some hs) = slice_set heard t
    (hs ++ hearing (access code p.thread) (answer w.lock w.words (access code p.thread)))
heard_of code w heard t None o = heard
heard_of code w heard t (Some p) None = heard

abbrev pub heard_run : {C : Type 0} → (C → Effect C) → List ℕ → World C → List (List Heard) → List (List Heard)
heard_run code [] w heard = heard
heard_run code (t ∷ ts) w heard = heard_run code ts (step code w t)
    (heard_of code w heard t (slice_get w.parts t) (slice_get heard t))

-- the step is of a thread, and does not stop
abbrev pub DoesNotStop : {C : Type 0} → (C → Effect C) → Option (Part C) → Type 0
DoesNotStop code None = ⊥
DoesNotStop code (Some p) = stops (access code p.thread) ≡ false

-- each step of a trace is of a thread, and does not stop
abbrev pub RunsOn : {C : Type 0} → (C → Effect C) → List ℕ → World C → Type 0
RunsOn code [] w = Unit {0}
RunsOn code (t ∷ ts) w = DoesNotStop code (slice_get w.parts t) × RunsOn code ts (step code w t)

-- a world and its responses are those of a trace
pub record IsTraced {C : Type 0} (code : C → Effect C) (init : ℕ → C) (m0 : List ℕ) (threads : ℕ) (w : World C)
    (heard : List (List Heard)) : Type 0 where
  pub trace : List ℕ
  pub runs_on : RunsOn code trace (new_world init m0 threads)
  pub world : w ≡ world_after code init m0 threads trace
  pub answers : heard ≡ heard_run code trace (new_world init m0 threads) (replicate threads [])
