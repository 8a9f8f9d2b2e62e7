-- The observables of a thread.
use Rattle.std.specs.Prelude.{Vec, ℕ, List, map}
use Rattle.syntax.specs.declared.thread_end.Halt.TheVariants as halt
use Rattle.syntax.specs.Behaviours as Behaviours
use Rattle.std.specs.List.{AllByRecursion}
use Rattle.syntax.specs.Tree.{Program}
use Rattle.syntax.specs.Names.{bounds}
use Rattle.syntax.specs.Behaviours.{Memory, IsMemory, Outcome}
use Rattle.meaning.specs.declared.outcome.ThreadEnd.{ThreadEnd}
use Rattle.meaning.specs.declared.outcome.ThreadEnd.TheVariants as end
use Rattle.meaning.specs.declared.outcome.ThreadOutcome.{ThreadOutcome}

abbrev pub thread_end_in : ThreadEnd → Behaviours.ThreadEnd
thread_end_in end.Ended = Behaviours.Ended
thread_end_in (end.Trapped k) = Behaviours.Stopped (halt.Trapped k)
thread_end_in end.Wants = Behaviours.Stopped halt.Wants
thread_end_in end.Spent = Behaviours.Stopped halt.Spent

module _ {A : Type 0} where
  abbrev pub memories_in : List (Vec ℕ A) → List Memory
  memories_in ms = map (λ v. v.items) ms

  -- each of these is a memory of the program: it has a word of the cell's type for each cell
  abbrev pub AreMemories : Program → List (Vec ℕ A) → Type 0
  AreMemories p ms = AllByRecursion (IsMemory (bounds p)) (memories_in ms)

  abbrev pub outcome_in : ThreadOutcome A → Outcome
  outcome_in o = record { lefts = memories_in o.lefts.items; text = o.text.items; end = thread_end_in o.end }
