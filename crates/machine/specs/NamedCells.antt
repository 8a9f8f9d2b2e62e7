-- A thread names only cells of the memory.
use Rattle.std.specs.Prelude.{◌≡◌, ◌<◌, ◌%◌, ℕ, List, Option, None, Some}
use Rattle.std.specs.List.{slice_get, AllByRecursion}
use Rattle.bytecode.specs.Effects.{Effect}
use Rattle.norec_core.specs.declared.step.Access.{Access}
use Rattle.norec_core.specs.declared.step.Access.TheVariants.{Local, LoadLock, LoadWord, Swap, StoreWord, StoreLock}
use Rattle.norec_core.specs.Attempts.{Attempt, Checkpoint}
use Rattle.machine.specs.Threads.{access}
use Rattle.machine.specs.Worlds.{Part, World}

-- these pairs are of cells of the memory
abbrev pub AreOfCells : ℕ → List (ℕ × ℕ) → Type 0
AreOfCells cells ps = AllByRecursion (λ (q : ℕ × ℕ). q.0 < cells) ps

-- both logs of an attempt name only cells of the memory, and so does the write log as it was at each inner begin
pub record LogsFit {C : Type 0} (cells : ℕ) (a : Attempt C) : Type 0 where
  pub reads : AreOfCells cells a.reads
  pub writes : AreOfCells cells a.writes
  pub marks : AllByRecursion (λ (k : Checkpoint C). AreOfCells cells k.writes) a.inner

abbrev pub LogsFitIf : {C : Type 0} → ℕ → Option (Attempt C) → Type 0
LogsFitIf cells None = Unit {0}
LogsFitIf cells (Some a) = LogsFit cells a

-- the access names a cell
abbrev pub AccessFits : ℕ → Access → Type 0
AccessFits cells Local = Unit {0}
AccessFits cells LoadLock = Unit {0}
AccessFits cells (LoadWord ad) = ad < cells
AccessFits cells (Swap from) = Unit {0}
AccessFits cells (StoreWord ad v) = ad < cells
AccessFits cells (StoreLock n) = Unit {0}

-- the access names a cell, or swaps from an even value, which has a successor
abbrev pub IsMakeable : ℕ → Access → Type 0
IsMakeable cells Local = Unit {0}
IsMakeable cells LoadLock = Unit {0}
IsMakeable cells (LoadWord a) = a < cells
IsMakeable cells (Swap from) = from % 2 ≡ 0
IsMakeable cells (StoreWord a v) = a < cells
IsMakeable cells (StoreLock n) = Unit {0}

-- each attempt's logs name cells, and so does each thread's next access
abbrev pub NamesCells : {C : Type 0} → (C → Effect C) → ℕ → World C → Type 0
NamesCells {C} code cells w = (t : ℕ) (p : Part C) → slice_get w.parts t ≡ Some p →
    LogsFitIf cells p.thread.attempt × AccessFits cells (access code p.thread)
