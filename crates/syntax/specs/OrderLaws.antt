-- Runs of the source correspond to orders, and orders to runs.
use Rattle.std.specs.Prelude.{◌≡◌, ℕ, ◌<◌, ◌≤◌, List, ◌++◌, map, length, Some, All}
use Rattle.std.specs.List.{slice_get}
use Rattle.syntax.specs.Tree.{Program}
use Rattle.syntax.specs.Names.{initial_memory}
use Rattle.syntax.specs.Behaviours.{Memory, Step, founds_of, lefts_of, last_memory}
use Rattle.syntax.specs.Orders.{in_order}
use Rattle.syntax.specs.Threads.{thread, IsSourceRun}

-- A run whose threads make their steps within this many ticks is an order, that of its steps: the threads leave the
-- run's last memory, and each does what it does with its pre-states in the run.
pub record IsItsOrder (p : Program) (threads ticks : ℕ) (run : List Step) : Type 0 where
  pub memory : (in_order (thread p) (initial_memory p) threads ticks (map (λ (s : Step). s.thread) run)).memory
      ≡ last_memory (initial_memory p) run
  pub each : (t : ℕ) → t < threads →
      slice_get (in_order (thread p) (initial_memory p) threads ticks (map (λ (s : Step). s.thread) run)).threads t
      ≡ Some (thread p t (founds_of t run) ticks)
  pub count : length (in_order (thread p) (initial_memory p) threads ticks (map (λ (s : Step). s.thread) run)).threads
      ≡ threads

abbrev pub RunsAreOrders : Type 0
RunsAreOrders =
    (p : Program) (threads ticks : ℕ) (run : List Step) → IsSourceRun p threads run →
    ((t : ℕ) → t < threads → (thread p t (founds_of t run) ticks).lefts ≡ lefts_of t run) →
    IsItsOrder p threads ticks run

-- An order is a run of the source: its memory is the run's last one, and each thread does what it does with its
-- pre-states in the run, and with one more if it has begun a transaction without a post-state.
pub record ShowsRun (p : Program) (threads ticks : ℕ) (order : List ℕ) : Type 0 where
  pub run : List Step
  pub is_run : IsSourceRun p threads run
  pub memory : (in_order (thread p) (initial_memory p) threads ticks order).memory ≡ last_memory (initial_memory p) run
  pub count : length (in_order (thread p) (initial_memory p) threads ticks order).threads ≡ threads
  pub each : (t : ℕ) → t < threads → (extra : List Memory) × (length extra ≤ 1)
      × (slice_get (in_order (thread p) (initial_memory p) threads ticks order).threads t
      ≡ Some (thread p t (founds_of t run ++ extra) ticks))
      × ((thread p t (founds_of t run ++ extra) ticks).lefts ≡ lefts_of t run)

abbrev pub OrdersAreRuns : Type 0
OrdersAreRuns =
    (p : Program) (threads ticks : ℕ) (order : List ℕ) → All (λ t. t < threads) order → ShowsRun p threads ticks order
