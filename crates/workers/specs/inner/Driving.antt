-- The loops of workers in progress, as the code that drives them has them.
use Rattle.std.specs.Prelude.{◌≡◌, ◌⊎◌, ℕ, List, [], ◌∷◌, Option, None, Some}
use Rattle.std.specs.declared.thread.PromisedHandle.{PromisedHandle}
use Rattle.atomic_table.specs.Seated.{TableId}
use Rattle.shared_words.specs.Setup.{Setup}
use Rattle.workers.specs.declared.hall.Hall.{Hall}
use Rattle.workers.specs.declared.worker.Worker.{Worker}
use Rattle.workers.specs.declared.run.Driven.{Driven}
use Rattle.workers.specs.declared.run.OfHall.{OfHall}
use Rattle.workers.specs.declared.run.RunMemory.{RunMemory}
use Rattle.workers.specs.declared.run.RunMemory.TheVariants.{Words, LockHeld}
use Rattle.workers.specs.Driving.{IsEndOfLoop}
use Rattle.workers.specs.Workers.{IsWorkerOf}

-- something in a list has this number
abbrev pub HasNumber : {X : Type 0} → (X → ℕ) → List X → ℕ → Type 0
HasNumber number [] n = ⊥
HasNumber number (x ∷ xs) n = (number x ≡ n) ⊎ HasNumber number xs n

-- the words, if no thread has the lock; otherwise the thread that has it
abbrev pub TellsMemory : RunMemory → List ℕ → Option ℕ → Type 0
TellsMemory (Words v) cells held = (v.items ≡ cells) × (held ≡ None)
TellsMemory (LockHeld n) cells held = held ≡ Some n

-- A is the allocator
module _ {A : Type 0} where
  abbrev pub driven_number : Driven A → ℕ
  driven_number d = d.worker.number

  abbrev pub handle_number : PromisedHandle (Driven A) (OfHall A) → ℕ
  handle_number h = h.promise.number

  abbrev pub AreDrivenOf : TableId → Setup → ℕ → List (Driven A) → Type 0
  AreDrivenOf z key all [] = Unit {0}
  AreDrivenOf z key all (d ∷ ds) =
      (IsWorkerOf z key d.worker × IsEndOfLoop key all d.stopped d.worker) × AreDrivenOf z key all ds

  -- workers that have made no step
  abbrev pub AreFresh : List (Worker A) → Type 0
  AreFresh [] = Unit {0}
  AreFresh (w ∷ ws) = (w.steps ≡ 0) × AreFresh ws

  -- each handle's thread returns a worker of this hall, after this many steps
  abbrev pub AllPromise : Hall A → ℕ → List (PromisedHandle (Driven A) (OfHall A)) → Type 0
  AllPromise hall all [] = Unit {0}
  AllPromise hall all (h ∷ hs) = ((h.promise.hall.now ≡ hall) × (h.promise.budget ≡ all)) × AllPromise hall all hs
