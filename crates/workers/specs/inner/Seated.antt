-- A seat that loads for the reads of its thread.
use Rattle.std.specs.Prelude.{◌≡◌, ◌+◌, ◌<◌, ◌^◌, ℕ}
use Rattle.atomic_table.specs.Seated.{TableId}
use Rattle.bytecode.specs.Code.{Code}
use Rattle.bytecode.specs.Valid.{cells_of}
use Rattle.machine.specs.Loads.{Counted}
use Rattle.shared_words.specs.Rule.{SeatView}
use Rattle.shared_words.specs.Setup.{Setup}
use Rattle.workers.specs.Works.{GoesOnFrom, Works}

-- from whatever work the thread has done by then, this many more steps lead to this
abbrev pub LeadsSeated : Setup → Code → SeatView → Counted → ℕ → SeatView → Counted → Type 0
LeadsSeated key code me from n now at =
    key.code ≡ code → (number steps : ℕ) (was : Works key number from.thread steps from.accesses me) →
    (is : Works key number at.thread (steps + n) at.accesses now) × GoesOnFrom key.code was.part was.now is.part is.now

-- the seat is one of the table, its thread has made some number of steps, and m more can be counted
pub record CanStepSeated (table : TableId) (key : Setup) (code : Code) (seat : TableId) (me : SeatView) (from : Counted)
    (m : ℕ) : Type 0 where
  pub words : table.words ≡ cells_of code + 1
  pub code_is : key.code ≡ code
  pub seat_is : seat ≡ table
  pub number : ℕ
  pub steps : ℕ
  pub works : Works key number from.thread steps from.accesses me
  pub room : steps + m < 2 ^ 64
