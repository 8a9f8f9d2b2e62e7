-- Running the threads of a source's text in an order, one whole transaction after another.
use Rattle.std.specs.Prelude.{◌≡◌, ℕ, List, Option, map, None, Some, false}
use Rattle.std.specs.List.{slice_get}
use Rattle.syntax.specs.Tree.{Program}
use Rattle.syntax.specs.Names.{globals, initial_memory}
use Rattle.syntax.specs.declared.thread_end.Status.{Status}
use Rattle.syntax.specs.Behaviours.{Stands, Step}
use Rattle.syntax.specs.Orders.{in_order}
use Rattle.syntax.specs.Threads.{IsSourceRun, thread}
use Rattle.syntax.specs.Grammar.{ParsedSource}
use Rattle.meaning.specs.InOrder.{NamesThreads}
use Rattle.report.specs.Printed.{ThreadShown, Printed}
use Rattle.serving.specs.Checks.{IsSourceOf}
use Rattle.serving.specs.Reports.{has_spent, is_stopped}
use Rattle.serving.specs.Shows.{order_shown, shown_globals, thread_shown}

-- what a report shows of this many threads in an order, each with this many ticks
pub record IsOrderOf (p : Program) (count ticks : ℕ) (order : List ℕ) (shown : Printed) : Type 0 where
  pub named : NamesThreads count order
  pub shows : shown ≡ order_shown p (in_order (thread p) (initial_memory p) count ticks order)

-- likewise, each with some number of ticks that spends none: with more of them the report is the same
pub record IsUnspentOrder (p : Program) (count : ℕ) (order : List ℕ) (shown : Printed) : Type 0 where
  pub ticks : ℕ
  pub run : IsOrderOf p count ticks order shown
  pub unspent : has_spent shown ≡ false

-- likewise, each with this many ticks, or with as many as it takes if none are given
abbrev pub IsOrderWith : Program → (count : ℕ) → (ticks : Option ℕ) → (order : List ℕ) → Printed → Type 0
IsOrderWith p count (Some ticks) order shown = IsOrderOf p count ticks order shown
IsOrderWith p count None order shown = IsUnspentOrder p count order shown

-- the text spells a program, and this is what the report of its threads in this order shows
pub record RunsInOrder (count ticks : ℕ) (order text : List ℕ) (shown : Printed) : Type 0 where
  pub source : ParsedSource
  pub spelled : IsSourceOf text source
  pub run : IsOrderOf source.program count ticks order shown

pub record RunsInOrderWith (count : ℕ) (ticks : Option ℕ) (order text : List ℕ) (shown : Printed) : Type 0 where
  pub source : ParsedSource
  pub spelled : IsSourceOf text source
  pub run : IsOrderWith source.program count ticks order shown

-- the text spells a program, and this is what the report of its threads shows in some order, each with some number of
-- ticks
pub record RunsInSomeOrder (count : ℕ) (text : List ℕ) (shown : Printed) : Type 0 where
  pub ticks : ℕ
  pub order : List ℕ
  pub in_order : RunsInOrder count ticks order text shown

-- In some order, each with some number of ticks, this many threads leave the globals shown. Each thread that is shown
-- to have ended or trapped shows this there. The order is that of a run of the source. Each thread, even one that still
-- runs, has printed what the source's thread prints in that run with some number of ticks of its own, on the memories
-- that it finds there, and on the last one if it is inside a transaction.
pub record LeavesSomeOrder (p : Program) (count : ℕ) (shown : Printed) : Type 0 where
  pub ticks : ℕ
  pub order : List ℕ
  pub named : NamesThreads count order
  pub globals : shown.globals
      ≡ shown_globals (globals p) (in_order (thread p) (initial_memory p) count ticks order).memory
  pub each : (t : ℕ) (this : ThreadShown) → slice_get shown.threads t ≡ Some this → is_stopped this.end ≡ false →
      slice_get (map thread_shown (in_order (thread p) (initial_memory p) count ticks order).threads) t ≡ Some this
  pub run : List Step
  pub is_run : IsSourceRun p count run
  pub order_is : order ≡ map (λ (s : Step). s.thread) run
  pub prints : (t : ℕ) (this : ThreadShown) → slice_get shown.threads t ≡ Some this →
      (status : Status) × Stands (thread p) (initial_memory p) run t this.text status
