-- Threads whose transactions follow a schedule.
use Rattle.std.specs.Prelude.{◌≡◌, ℕ, ◌<◌, ◌≤◌, List, map, All}
use Rattle.syntax.specs.Tree.{Program}
use Rattle.syntax.specs.Names.{initial_memory}
use Rattle.syntax.specs.Behaviours.{Outcome, ThreadEnd}
use Rattle.syntax.specs.Orders.{in_order}
use Rattle.syntax.specs.Threads.{thread}
use Rattle.meaning.specs.declared.outcome.ThreadReport.{ThreadReport}
use Rattle.meaning.specs.declared.outcome.SourceOutcome.{SourceOutcome}
use Rattle.meaning.specs.declared.outcome.MeaningFault.{MeaningFault}
use Rattle.meaning.specs.declared.outcome.MeaningFault.TheVariants as fault
use Rattle.meaning.specs.Outcomes.{thread_end_in}

-- the observables of a thread: its text and its end
abbrev pub text_and_end : Outcome → List ℕ × ThreadEnd
text_and_end o = (o.text, o.end)

module _ {A : Type 0} where
  abbrev pub report_in : ThreadReport A → List ℕ × ThreadEnd
  report_in r = (r.text.items, thread_end_in r.end)

  -- so many threads under this schedule, each with so many ticks: the final memory, and the observables of each thread
  pub record IsInOrder (p : Program) (count ticks : ℕ) (order : List ℕ) (o : SourceOutcome A) : Type 0 where
    pub memory : o.memory.items ≡ (in_order (thread p) (initial_memory p) count ticks order).memory
    pub threads : map report_in o.threads.items
        ≡ map text_and_end (in_order (thread p) (initial_memory p) count ticks order).threads

abbrev pub IsThreadCount : ℕ → Type 0
IsThreadCount threads = (1 ≤ threads) × (threads ≤ 64)

-- each entry is the number of one of so many threads
abbrev pub NamesThreads : ℕ → List ℕ → Type 0
NamesThreads threads order = All (λ t. t < threads) order

abbrev pub number_in : MeaningFault → ℕ
number_in fault.OutOfMemory = 0
number_in fault.Stranger = 55
number_in fault.WrongThreads = 72

-- what a fault implies of a schedule; an allocation failure implies nothing
abbrev pub IsFaultOfOrder : (threads : ℕ) → List ℕ → MeaningFault → Type 0
IsFaultOfOrder threads order fault.OutOfMemory = Unit {0}
IsFaultOfOrder threads order fault.Stranger = IsThreadCount threads × (NamesThreads threads order → ⊥)
IsFaultOfOrder threads order fault.WrongThreads = IsThreadCount threads → ⊥
