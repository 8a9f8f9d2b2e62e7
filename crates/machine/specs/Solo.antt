-- A thread that runs alone while the others do not step, whatever their states.
use Rattle.std.specs.Prelude.{◌≡◌, ◌≢◌, ◌⊎◌, ◌<◌, ◌+◌, ◌-◌, ◌%◌, ◌^◌, ℕ, true, false, List, [], ◌∷◌, None, Some, length}
use Rattle.std.specs.Prelude.{◌≤◌, if◌then◌else◌, replicate, slice_set}
use Rattle.std.specs.List.{slice_get}
use Rattle.syntax.specs.Behaviours.{Memory}
use Rattle.syntax.specs.Orders.{last_left}
use Rattle.syntax.specs.declared.thread_end.Status.{Status}
use Rattle.syntax.specs.declared.thread_end.Status.TheVariants.{Running}
use Rattle.bytecode.specs.Effects.{Effect}
use Rattle.bytecode.specs.Sequential.{Sequential, outside, steps}
use Rattle.norec_core.specs.Attempts.{Attempt}
use Rattle.machine.specs.Threads.{Thread}
use Rattle.machine.specs.Worlds.{Part, World, Reached, run}
use Rattle.machine.specs.Drops.{drops}
use Rattle.machine.specs.Open.{inside, inside_of}

-- a thread outside transactions
abbrev pub outside_thread : {C : Type 0} → C → List ℕ → Status → Thread C
outside_thread c text status = record {
  configuration = c;
  attempt = None;
  trapping = false;
  text = text;
  status = status;
}

-- n steps of a thread's meaning from outside transactions, with these words as the only memory to find
abbrev pub meaning_on : {C : Type 0} → (C → Effect C) → Memory → C → List ℕ → Status → ℕ → Sequential C
meaning_on code words c text status n = steps code n (outside c (words ∷ []) [] text status)

-- a meaning has terminated or trapped, or needs one more memory
abbrev pub GoesNoFurther : {C : Type 0} → Sequential C → Type 0
GoesNoFurther r = (r.wants ≡ true) ⊎ (r.status ≢ Running)

-- some number of steps of thread t alone do what its meaning has done: they leave it in that state, outside
-- transactions, and the words are the last memory left
pub record GoesAs {C : Type 0} (code : C → Effect C) (w : World C) (t : ℕ) (r : Sequential C) : Type 0 where
  pub steps : ℕ
  pub part : Part C
  pub lock : ℕ
  -- no other part changes
  pub world : run code (replicate steps t) w
      ≡ record { lock = lock; words = last_left w.words r.lefts; parts = slice_set w.parts t part }
  pub thread : part.thread ≡ outside_thread r.configuration r.text r.status
  -- two higher if a transaction took it
  pub locked : (lock ≡ w.lock) ⊎ (lock ≡ w.lock + 2)
  -- no step aborts an attempt
  pub undropped : drops code t (replicate steps t) w ≡ 0

-- From every world whose lock is free, even an unreachable one, a thread outside transactions that steps alone reaches
-- the state at which its meaning on these words can make no further progress.
abbrev pub RunsAlone : {C : Type 0} → (C → Effect C) → List ℕ → Type 0
RunsAlone {C} code bounds =
    (w : World C) (t : ℕ) (p : Part C) (c : C) (text : List ℕ) (status : Status) (n : ℕ) → w.lock % 2 ≡ 0 →
    length w.words ≡ length bounds → slice_get w.parts t ≡ Some p → p.thread ≡ outside_thread c text status →
    GoesNoFurther (meaning_on code w.words c text status n) → GoesAs code w t (meaning_on code w.words c text status n)

-- a meaning from the state of thread p on
abbrev pub meaning_from : {C : Type 0} → (C → Effect C) → World C → Part C → ℕ → Sequential C
meaning_from code w p n = meaning_on code w.words p.thread.configuration p.thread.text p.thread.status n

-- In every reached world whose lock is free, and not near its last value, a thread without an attempt makes progress
-- alone: none of its steps stops before its meaning on these words can make no further progress.
abbrev pub SoloProgress : {C : Type 0} → (C → Effect C) → (ℕ → C) → Memory → Type 0
SoloProgress {C} code init m0 =
    (threads : ℕ) (w : World C) (t : ℕ) (p : Part C) (n : ℕ) → Reached code init m0 threads w → w.lock % 2 ≡ 0 →
    w.lock + 2 < 2 ^ 64 - 1 → slice_get w.parts t ≡ Some p → p.thread.attempt ≡ None →
    GoesNoFurther (meaning_from code w p n) →
    (g : GoesAs code w t (meaning_from code w p n)) × Reached code init m0 threads (run code (replicate g.steps t) w)

-- no step from a reached world stops if the lock ends below its last value
abbrev pub StaysReached : {C : Type 0} → (C → Effect C) → (ℕ → C) → Memory → Type 0
StaysReached {C} code init m0 =
    (threads : ℕ) (w : World C) (ts : List ℕ) → Reached code init m0 threads w → (run code ts w).lock < 2 ^ 64 - 1 →
    Reached code init m0 threads (run code ts w)

-- a meaning from the state of attempt a of thread p on, in a transaction that found these words; there is no other
-- memory to find
abbrev pub meaning_within : {C : Type 0} → (C → Effect C) → World C → Part C → Attempt C → ℕ → Sequential C
meaning_within code w p a n =
    steps code n (inside p.thread.configuration (inside_of code w.words a.saved a.writes a.inner a.kept) [] []
    p.thread.text)

-- some number of steps of thread t alone abort its attempt, once: it is at its begin, and nothing else has changed
pub record DropsOnce {C : Type 0} (code : C → Effect C) (w : World C) (t : ℕ) (p : Part C)
    (a : Attempt C) : Type 0 where
  pub steps : ℕ
  pub part : Part C
  pub world : run code (replicate steps t) w ≡ record w { parts = slice_set w.parts t part }
  pub thread : part.thread ≡ outside_thread a.saved p.thread.text Running
  pub once : drops code t (replicate steps t) w ≡ 1

-- some number of steps of thread t alone leave it inside its attempt, in its meaning's state; no other part changes
pub record StaysInside {C : Type 0} (code : C → Effect C) (w : World C) (t : ℕ) (r : Sequential C) : Type 0 where
  pub steps : ℕ
  pub part : Part C
  pub attempt : Attempt C
  -- the lock is taken, or free as before
  pub world : run code (replicate steps t) w ≡ record {
    lock = if attempt.kept then w.lock + 1 else w.lock;
    words = w.words;
    parts = slice_set w.parts t part;
  }
  pub in_attempt : part.thread.attempt ≡ Some attempt
  pub configuration : part.thread.configuration ≡ r.configuration
  pub text : part.thread.text ≡ r.text
  pub inside : r.inside ≡ Some (inside_of code w.words attempt.saved attempt.writes attempt.inner attempt.kept)
  pub undropped : drops code t (replicate steps t) w ≡ 0

-- some number of steps of thread t alone end its transaction as its meaning does, and continue as it does outside
pub record EndsAs {C : Type 0} (code : C → Effect C) (w : World C) (t : ℕ) (r : Sequential C) : Type 0 where
  pub over : r.inside ≡ None
  pub goes : GoesAs code w t r

-- thread t alone does what its meaning does from its attempt on, for n or more instructions
pub record GoesOnAsMeant {C : Type 0} (code : C → Effect C) (w : World C) (t : ℕ) (p : Part C) (a : Attempt C)
    (n : ℕ) : Type 0 where
  pub instructions : ℕ
  pub enough : n ≤ instructions
  pub comes : StaysInside code w t (meaning_within code w p a instructions)
      ⊎ EndsAs code w t (meaning_within code w p a instructions)

-- In every reached world whose lock is free, a thread with an open attempt, alone, aborts it once, or continues it as
-- its meaning does, however far: it commits or cancels it, or traps, if the meaning does, and otherwise stays inside it
-- forever.
abbrev pub AttemptEnds : {C : Type 0} → (C → Effect C) → (ℕ → C) → Memory → Type 0
AttemptEnds {C} code init m0 =
    (threads : ℕ) (w : World C) (t : ℕ) (p : Part C) (a : Attempt C) (n : ℕ) → Reached code init m0 threads w →
    w.lock % 2 ≡ 0 → slice_get w.parts t ≡ Some p → p.thread.attempt ≡ Some a →
    DropsOnce code w t p a ⊎ GoesOnAsMeant code w t p a n
