-- How often attempts abort: at most as often as other threads have taken the lock.
use Rattle.std.specs.Prelude.{◌≡◌, ◌<◌, ◌≤◌, ◌+◌, ◌%◌, ◌==◌, ℕ, List, [], ◌∷◌, Option, None, Some, if◌then◌else◌}
use Rattle.std.specs.List.{slice_get}
use Rattle.syntax.specs.Behaviours.{Memory}
use Rattle.bytecode.specs.Effects.{Effect}
use Rattle.norec_core.specs.Attempts.{Attempt, Completed}
use Rattle.machine.specs.Threads.{access, step_with}
use Rattle.machine.specs.Merges.{Entry, IsMerge}
use Rattle.machine.specs.Worlds.{Part, World, answer, new_world, step}
use Rattle.machine.specs.Serializable.{HasChanged, world_after}

-- an attempt aborts: it no longer exists, and nothing took effect
abbrev pub drop_count : {C : Type 0} → Option (Attempt C) → Option (Attempt C) → Option Completed → ℕ
drop_count (Some a) None None = 1
drop_count _ _ _ = 0

-- whether the part's next step aborts its attempt
abbrev pub dropped_in : {C : Type 0} → (C → Effect C) → World C → Option (Part C) → ℕ
dropped_in code w None = 0
dropped_in code w (Some p) =
    let n = step_with code p.thread (answer w.lock w.words (access code p.thread)) in
    drop_count p.thread.attempt n.thread.attempt n.completed

-- how often a thread aborts in these steps
abbrev pub drops : {C : Type 0} → (C → Effect C) → ℕ → List ℕ → World C → ℕ
drops code t [] w = 0
drops code t (u ∷ us) w =
    (if u == t then dropped_in code w (slice_get w.parts u) else 0) + drops code t us (step code w u)

-- how many transactions of other threads have taken the lock and have taken effect
abbrev pub taken_by_others : ℕ → List Entry → ℕ
taken_by_others t [] = 0
taken_by_others t (e ∷ es) =
    (if e.thread == t then 0 else if e.item.took_lock then 1 else 0) + taken_by_others t es

-- A thread has aborted at most as often as other threads have taken the lock: once for each of their transactions that
-- took it, and once more while it is held.
abbrev pub DropsAreBounded : {C : Type 0} → (C → Effect C) → (ℕ → C) → Memory → ℕ → List ℕ → Type 0
DropsAreBounded {C} code init m0 threads ts =
    (es : List Entry) → IsMerge (world_after code init m0 threads ts).parts es → (t : ℕ) (p : Part C) →
    slice_get (world_after code init m0 threads ts).parts t ≡ Some p →
    drops code t ts (new_world init m0 threads) ≤ taken_by_others t es + (world_after code init m0 threads ts).lock % 2

-- if a step aborts an attempt, the lock has been taken since the attempt's last snapshot
abbrev pub DropsComeAfterTakings : {C : Type 0} → (C → Effect C) → World C → Type 0
DropsComeAfterTakings {C} code w = (t : ℕ) (p : Part C) (a : Attempt C) → slice_get w.parts t ≡ Some p →
    p.thread.attempt ≡ Some a →
    (step_with code p.thread (answer w.lock w.words (access code p.thread))).thread.attempt ≡ None →
    (step_with code p.thread (answer w.lock w.words (access code p.thread))).completed ≡ None → a.snapshot < w.lock

-- if a step aborts an attempt, validation has loaded the word of an entry of its read log, and it differs
abbrev pub DropsComeOfChanges : {C : Type 0} → (C → Effect C) → World C → Type 0
DropsComeOfChanges {C} code w = (t : ℕ) (p : Part C) (a : Attempt C) → slice_get w.parts t ≡ Some p →
    p.thread.attempt ≡ Some a →
    (step_with code p.thread (answer w.lock w.words (access code p.thread))).thread.attempt ≡ None →
    (step_with code p.thread (answer w.lock w.words (access code p.thread))).completed ≡ None → HasChanged a w.words
