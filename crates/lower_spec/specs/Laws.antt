-- Theorems on lowered code.
use Rattle.std.specs.Prelude.{◌≡◌, ◌≢◌, ◌<◌, ◌^◌, ℕ, List}
use Rattle.std.specs.List.{AllByRecursion}
use Rattle.syntax.specs.declared.thread_end.Halt.TheVariants.{Astray}
use Rattle.syntax.specs.Tree.{Program}
use Rattle.syntax.specs.Names.{initial_memory, bounds}
use Rattle.syntax.specs.Behaviours.{Memory, IsMemory, Stopped}
use Rattle.syntax.specs.Threads.{thread}
use Rattle.syntax.specs.Typing.{IsTypedProgram}
use Rattle.separation.specs.Touching.{IsAccepted}
use Rattle.bytecode.specs.Code.{Code, effect}
use Rattle.bytecode.specs.Valid.{bounds_of, IsValid}
use Rattle.bytecode.specs.Effects.{FitsCells}
use Rattle.lower_spec.specs.Programs.{IsLowered}
use Rattle.lower_spec.specs.Means.{MeansItsProgram}

-- no thread that finds memories of the program goes wrong
abbrev pub NeverGoesAstray : Program → Type 0
NeverGoesAstray p =
    (t : ℕ) (founds : List Memory) → t < 2 ^ 32 → AllByRecursion (IsMemory (bounds p)) founds →
    (n : ℕ) → (thread p t founds n).end ≢ Stopped Astray

abbrev pub LoweredCodeMeans : Type 0
LoweredCodeMeans =
    (p : Program) (code : Code) → IsTypedProgram p → IsLowered p code → NeverGoesAstray p → MeansItsProgram p code

-- the cells of a lowering of a program are the program's
abbrev pub LoweredCodeHasItsCells : Type 0
LoweredCodeHasItsCells = (p : Program) (code : Code) → IsLowered p code → bounds_of code ≡ bounds p

-- a lowering of an accepted program means it, as no thread of the program goes wrong
abbrev pub AcceptedCodeMeans : Type 0
AcceptedCodeMeans = (p : Program) (code : Code) → IsAccepted p → IsLowered p code → MeansItsProgram p code

-- what the machine's theorems require of a code, of the initial memory and of a program
pub record MeetsMachine (p : Program) (code : Code) : Type 0 where
  pub fits : FitsCells (effect code) (bounds p)
  pub starts : IsMemory (bounds p) (initial_memory p)
  pub means : MeansItsProgram p code

abbrev pub AcceptedCodeMeetsMachine : Type 0
AcceptedCodeMeetsMachine =
    (p : Program) (code : Code) → IsAccepted p → IsLowered p code → IsValid code → MeetsMachine p code
