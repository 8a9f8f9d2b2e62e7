-- Observations of a whole thread.
use Rattle.std.specs.Prelude.{ℕ, List, map, string_bytes, Vec}
use Rattle.syntax.specs.Behaviours as behaviours
use Rattle.syntax.specs.Behaviours.{Memory, Outcome}
use Rattle.atomic_code.specs.declared.whole.AtomicThreadEnd.{AtomicThreadEnd}
use Rattle.atomic_code.specs.declared.whole.AtomicThreadEnd.TheVariants as end
use Rattle.atomic_code.specs.declared.whole.AtomicThreadOutcome.{AtomicThreadOutcome}

abbrev pub thread_end_in : AtomicThreadEnd → behaviours.ThreadEnd
thread_end_in end.Ended = behaviours.Ended
thread_end_in (end.Stopped why) = behaviours.Stopped why

module _ {A : Type 0} where
  abbrev pub memories_in : List (Vec ℕ A) → List Memory
  memories_in ms = map (λ v. v.items) ms

  abbrev pub outcome_in : AtomicThreadOutcome A → Outcome
  outcome_in o = record { lefts = memories_in o.lefts.items; text = string_bytes o.text; end = thread_end_in o.end }
