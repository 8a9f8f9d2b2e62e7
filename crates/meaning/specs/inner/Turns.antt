-- Threads that take turns.
use Rattle.std.specs.Prelude.{◌≡◌, ◌≢◌, ◌⊎◌, ℕ, ◌+◌, List, [], ◌∷◌, ◌++◌, map, length, drop}
use Rattle.syntax.specs.Tree.{Program}
use Rattle.syntax.specs.declared.thread_end.Halt.TheVariants.{Wants}
use Rattle.syntax.specs.Behaviours.{Memory, Behaviour, Outcome, Stopped}
use Rattle.syntax.specs.Orders.{Progress, last_left}
use Rattle.syntax.specs.Threads.{first_state, thread, worker_run}
use Rattle.meaning.specs.Outcomes.{memories_in, thread_end_in}
use Rattle.program_tables.specs.declared.program.ProgramTables.{ProgramTables}
use Rattle.program_tables.specs.Views.{program_in}
use Rattle.meaning.specs.inner.Standing.{rest}
use Rattle.meaning.specs.declared.orders.Standing.{Standing}
use Rattle.meaning.specs.declared.orders.OrderProgress.{OrderProgress}

-- the behaviour of a program's threads; a name of its own helps only the prover
unfoldable pub does_in : Program → Behaviour
does_in p = thread p

-- a turn of a thread, from the current memory and those that it has found: if it needs one, it finds the current one,
-- and the memory that it leaves next becomes the current one
unfoldable pub TakesTurn : Program → (ticks t : ℕ) → Memory → List Memory → Memory → List Memory → Type 0
TakesTurn p ticks t m founds n further =
    let does = does_in p t in
    (((does founds ticks).end ≢ Stopped Wants) × (n ≡ m) × (further ≡ founds))
    ⊎ (((does founds ticks).end ≡ Stopped Wants)
    × (n ≡ last_left m (drop (length (does founds ticks).lefts) (does further ticks).lefts))
    × (further ≡ founds ++ m ∷ []))

module _ {A : Type 0} where
  -- the observables of a thread, as the turns record them
  abbrev pub seen_in : Standing A → Outcome
  seen_in s = record {
    lefts = memories_in s.thread.shown.lefts.items ++ memories_in s.further.lefts.items;
    text = s.thread.shown.text.items ++ s.further.text.items;
    end = thread_end_in s.end;
  }

  -- A thread that has found memories: it continues as it would from its beginning, whatever it finds later; and its
  -- observables are those of a run with the memories that it has found.
  pub record IsKnown (source : ProgramTables A) (ticks t : ℕ) (s : Standing A) : Type 0 where
    pub stands : (further : List Memory) → rest source s.thread further
        ≡ worker_run (program_in source) t (first_state (memories_in s.founds.items ++ further) ticks)
    pub seen : seen_in s ≡ does_in (program_in source) t (memories_in s.founds.items) ticks

  -- each thread from this one on continues as it would from its beginning, and its observables are those of that run
  unfoldable pub AreKnown : ProgramTables A → (ticks t : ℕ) → List (Standing A) → Type 0
  AreKnown source ticks t [] = Unit {0}
  AreKnown source ticks t (s ∷ threads) = IsKnown source ticks t s × AreKnown source ticks (t + 1) threads

  abbrev pub founds_in : List (Standing A) → List (List Memory)
  founds_in threads = map (λ s. memories_in s.founds.items) threads

  -- the current memory, and the memories that each thread has found
  abbrev pub progress : OrderProgress A → Progress
  progress way = record { memory = way.memory.items; founds = founds_in way.threads.items }
