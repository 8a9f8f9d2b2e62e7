-- The place of an attempt's moment if the attempt began at lock value n or later.
use Rattle.std.specs.Prelude.{◌≡◌, ◌<◌, ◌≤◌, ◌+◌, ℕ, true, List, ◌∷◌, ◌++◌, Some, length}
use Rattle.std.specs.List.{slice_get}
use Rattle.syntax.specs.Behaviours.{Behaviour, Memory}
use Rattle.norec_core.specs.Attempts.{Attempt}
use Rattle.machine.specs.Explained.{HasMoment, IsExplainedBy}
use Rattle.machine.specs.Merges.{Entry}
use Rattle.machine.specs.Worlds.{Part, World}

-- every step of the run that took the lock at a value below n comes before the moment
abbrev pub StandsPast : ℕ → List Entry → List Entry → Type 0
StandsPast n es before = (front : List Entry) (e : Entry) (back : List Entry) → es ≡ front ++ e ∷ back →
    e.item.took_lock ≡ true → e.item.snapshot + 1 < n → length front < length before

abbrev pub BeginsPast : {C : Type 0} → Behaviour → List ℕ → Memory → ℕ → World C → List Entry → Type 0
BeginsPast {C} does bounds m0 threads w es =
    IsExplainedBy does bounds m0 threads w es → (t : ℕ) (p : Part C) (a : Attempt C) → slice_get w.parts t ≡ Some p →
    p.thread.attempt ≡ Some a → (n : ℕ) → n ≤ a.first
    → (m : HasMoment m0 t a.snapshot a.reads es) × StandsPast n es m.before
