-- Progress of a thread that has the lock.
use Rattle.std.specs.Prelude.{◌≡◌, ◌⊎◌, ℕ, true, List, ◌∷◌, ◌++◌, Some}
use Rattle.std.specs.List.{slice_get}
use Rattle.bytecode.specs.Effects.{Effect}
use Rattle.norec_core.specs.Attempts.{Attempt}
use Rattle.machine.specs.Explained.{HasLock}
use Rattle.machine.specs.Worlds.{Part, Record, World, run}

-- Thread p had the lock for a; q is the same thread later. It still has the lock, at the same snapshot, and nothing has
-- taken effect meanwhile.
pub record HasLockStill {C : Type 0} (p : Part C) (a : Attempt C) (q : Part C) : Type 0 where
  pub attempt : Attempt C
  pub has : HasLock q attempt
  pub snapshot : attempt.snapshot ≡ a.snapshot
  pub records : q.records ≡ p.records

-- its next transaction to take effect is the one for which it took the lock
pub record HasTakenEffect {C : Type 0} (p : Part C) (a : Attempt C) (q : Part C) : Type 0 where
  pub made : Record
  pub later : List Record
  pub records : q.records ≡ p.records ++ made ∷ later
  pub snapshot : made.snapshot ≡ a.snapshot
  pub took_lock : made.took_lock ≡ true

-- Whatever steps follow this world, a thread that has the lock here reaches one of the two.
abbrev pub HoldersNeverAbort : {C : Type 0} → (C → Effect C) → World C → Type 0
HoldersNeverAbort {C} code w = (us : List ℕ) (t : ℕ) (p q : Part C) (a : Attempt C) → slice_get w.parts t ≡ Some p →
    HasLock p a → slice_get (run code us w).parts t ≡ Some q → HasLockStill p a q ⊎ HasTakenEffect p a q
