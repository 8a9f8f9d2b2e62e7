-- Steps of a worker that are not yet counted.
use Rattle.std.specs.Prelude.{◌≡◌, ◌+◌, ◌<◌, ◌^◌, ℕ}
use Rattle.atomic_table.specs.Seated.{TableId}
use Rattle.shared_words.specs.Setup.{Setup}
use Rattle.workers.specs.declared.worker.Worker.{Worker}
use Rattle.workers.specs.Works.{GoesOnFrom}
use Rattle.workers.specs.Workers.{IsWorkerAt}

-- A is the allocator
module _ {A : Type 0} where
  -- a worker of the table that has made some number of steps, and can count n more
  abbrev pub CanStep : TableId → Setup → ℕ → Worker A → Type 0
  CanStep z key n w = (steps : ℕ) × IsWorkerAt z key steps w × (steps + n < 2 ^ 64)

  -- a worker has continued as `StepsOn` says, by n steps that are not yet counted
  abbrev pub StepsBy : TableId → Setup → ℕ → Worker A → Worker A → Type 0
  StepsBy z key n a b =
      (b.number ≡ a.number) × (b.steps ≡ a.steps) × ((steps : ℕ) (was : IsWorkerAt z key steps a) →
      (is : IsWorkerAt z key (steps + n) b) × GoesOnFrom key.code was.1.part was.1.now is.1.part is.1.now)
