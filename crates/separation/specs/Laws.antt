-- Laws of touching functions, and of accepted programs.
use Rattle.std.specs.Prelude.{◌≢◌, ℕ, List, codes}
use Rattle.syntax.specs.Tree.{Span, Program}
use Rattle.syntax.specs.declared.thread_end.Halt.TheVariants.{Astray}
use Rattle.syntax.specs.Behaviours.{Memory, Stopped}
use Rattle.syntax.specs.Threads.{thread}
use Rattle.separation.specs.Touching.{IsTouchingSet, IsTouching, IsAccepted, IsSeparationFault}

-- the touching functions are themselves a touching set, and so the least one
abbrev pub TouchingIsTouchingSet : Type 0
TouchingIsTouchingSet = (p : Program) → IsTouchingSet p (IsTouching p)

-- if there is a fault of separation, worker touches
abbrev pub FaultTouches : Type 0
FaultTouches = (p : Program) (n : ℕ) (at : Span) → IsSeparationFault n at p → IsTouching p (codes "worker")

-- no thread of an accepted program goes wrong, for any thread number, pre-states and ticks
abbrev pub NeverAstray : Type 0
NeverAstray =
    (p : Program) → IsAccepted p → (t : ℕ) (founds : List Memory) (n : ℕ) → (thread p t founds n).end ≢ Stopped Astray
