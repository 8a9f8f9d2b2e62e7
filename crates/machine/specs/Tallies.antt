-- The number of accesses that an undisturbed outermost transaction makes, counted by its code's meaning.
use Rattle.std.specs.Prelude.{◌≡◌, ◌≢◌, ◌+◌, ◌-◌, drop, ◌*◌, ◌%◌, ◌==◌, ◌⊎◌, ℕ, zero, suc, Bool, true, false, List, []}
use Rattle.std.specs.Prelude.{◌∷◌, ◌++◌, Option, None, Some, length, if◌then◌else◌}
use Rattle.std.specs.List.{slice_get}
use Rattle.syntax.specs.Behaviours.{Memory}
use Rattle.syntax.specs.declared.thread_end.Status.TheVariants.{Running}
use Rattle.bytecode.specs.Effects.{Effect}
use Rattle.bytecode.specs.Effects.Effect.{Pure, Print, Begin, Read, Write, Commit, Cancel, CancelOuter, Irrevocable}
use Rattle.bytecode.specs.Effects.Effect.{Traps, End}
use Rattle.bytecode.specs.Sequential.{Sequential, next, start}
use Rattle.norec_core.specs.declared.step.Phase.{Phase}
use Rattle.norec_core.specs.declared.step.Phase.TheVariants.{AtOperation, ReadsLock, ValidatesTime, ValidatesEntry}
use Rattle.norec_core.specs.declared.step.Phase.TheVariants.{Stores}
use Rattle.norec_core.specs.Accesses.{cost}
use Rattle.norec_core.specs.Attempts.{Attempt}
use Rattle.machine.specs.Threads.{access}
use Rattle.machine.specs.Worlds.{Part, Record, World, run, step}

-- the work of an outermost transaction so far, by its code's meaning
pub record Tally : Type 0 where
  pub reads : ℕ  -- of cells that it had not written then, before an irrevocable
  pub kept_reads : ℕ  -- of cells that it had not written then, after an irrevocable
  pub written : List ℕ  -- the cells that it has written, each once, without what a cancel has undone
  pub inner : List (List ℕ)  -- the cells written at the begin of each inner transaction, the innermost first
  pub kept : Bool  -- whether an irrevocable was carried out

abbrev pub empty_tally : Tally
empty_tally = record { reads = 0; kept_reads = 0; written = []; inner = []; kept = false }

abbrev pub is_among : ℕ → List ℕ → Bool
is_among a [] = false
is_among a (b ∷ cells) = if b == a then true else is_among a cells

-- the tally with one more read, of a cell that the transaction has written itself or of another
abbrev pub with_read : Tally → (own kept : Bool) → Tally
with_read t true kept = t
with_read t false true = record t { kept_reads = suc t.kept_reads }
with_read t false false = record t { reads = suc t.reads }

abbrev pub with_cell : ℕ → List ℕ → List ℕ
with_cell a cells = if is_among a cells then cells else cells ++ a ∷ []

abbrev pub with_commit : Tally → List (List ℕ) → Tally
with_commit t [] = t
with_commit t (cells ∷ outer) = record t { inner = outer }

abbrev pub with_cancel : Tally → List (List ℕ) → Tally
with_cancel t [] = t
with_cancel t (cells ∷ outer) = record t { written = cells; inner = outer }

-- the tally after an instruction inside the transaction
abbrev pub tally_step : {C : Type 0} → Tally → Effect C → Tally
tally_step t (Pure c) = t
tally_step t (Print piece c) = t
tally_step t (Begin c d) = record t { inner = t.written ∷ t.inner }
tally_step t (Read a k) = with_read t (is_among a t.written) t.kept
tally_step t (Write a v c) = record t { written = with_cell a t.written }
tally_step t (Commit c) = with_commit t t.inner
tally_step t Cancel = with_cancel t t.inner
tally_step t (CancelOuter n) = with_cancel t (drop (n - 1) t.inner)
tally_step t (Irrevocable c) = record t { kept = true }
tally_step t (Traps cause) = t
tally_step t End = t

-- the code's thread after n instructions, and its tally
abbrev pub tally_after : {C : Type 0} → (C → Effect C) → ℕ → Sequential C → Tally → Sequential C × Tally
tally_after code zero s t = (s, t)
tally_after code (suc n) s t = tally_after code n (next code s) (tally_step t (code s.configuration))

-- one access for the begin, two for each read, and after an irrevocable its swap and one for each later read
abbrev pub accesses_so_far : Tally → ℕ
accesses_so_far t = 1 + 2 * t.reads + (if t.kept then 1 + t.kept_reads else 0)

-- a commit swaps the lock, stores each word and releases the lock; if nothing was written, it makes no access
abbrev pub commit_accesses : List ℕ → ℕ
commit_accesses [] = 0
commit_accesses (a ∷ cells) = length (a ∷ cells) + 2

-- All accesses of a transaction that ends with this tally. If the lock is kept, a commit stores each word and releases
-- it; a trap only releases it.
abbrev pub accesses : Tally → (commits : Bool) → ℕ
accesses t true = accesses_so_far t + (if t.kept then length t.written + 1 else commit_accesses t.written)
accesses t false = accesses_so_far t + (if t.kept then 1 else 0)

abbrev pub is_commit : {C : Type 0} → Effect C → Bool
is_commit (Commit c) = true
is_commit _ = false

-- A transaction that begins at c and finds this memory: after some instructions it is still inside, with this tally.
pub record IsTallied {C : Type 0} (code : C → Effect C) (c : C) (found : Memory) (s : Sequential C)
    (tally : Tally) : Type 0 where
  pub instructions : ℕ
  pub counts : tally_after code instructions (next code (start c (found ∷ []))) empty_tally ≡ (s, tally)
  pub inside : s.inside ≢ None

-- how many accesses a thread's next step makes
abbrev pub cost_next : {C : Type 0} → (C → Effect C) → Option (Part C) → ℕ
cost_next code None = 0
cost_next code (Some p) = cost (access code p.thread)

-- how many accesses these steps of all threads make
abbrev pub accesses_in : {C : Type 0} → (C → Effect C) → List ℕ → World C → ℕ
accesses_in code [] w = 0
accesses_in code (t ∷ ts) w = cost_next code (slice_get w.parts t) + accesses_in code ts (step code w t)

-- thread t is about to begin an outermost transaction, and no thread has the lock
pub record BeginsFree {C : Type 0} (code : C → Effect C) (w : World C) (t : ℕ) (p : Part C) : Type 0 where
  pub here : slice_get w.parts t ≡ Some p
  pub free : w.lock % 2 ≡ 0
  pub outside : p.thread.attempt ≡ None
  pub running : p.thread.status ≡ Running
  pub first : C
  pub cancelled : C
  pub begins : code p.thread.configuration ≡ Begin first cancelled

abbrev pub IsInside : {C : Type 0} → World C → ℕ → Type 0
IsInside {C} w t = (p : Part C) × (a : Attempt C) × (slice_get w.parts t ≡ Some p) × (p.thread.attempt ≡ Some a)

-- Each of these steps is one of t inside its attempt, or one of another thread that makes no access.
abbrev pub IsUndisturbed : {C : Type 0} → (C → Effect C) → ℕ → List ℕ → World C → Type 0
IsUndisturbed code t [] w = Unit {0}
IsUndisturbed code t (u ∷ us) w =
    (((u ≡ t) × IsInside w t) ⊎ ((u ≢ t) × (cost_next code (slice_get w.parts u) ≡ 0)))
    × IsUndisturbed code t us (step code w u)

-- the number of accesses made by the attempt's current operation
abbrev pub accesses_at : Bool → Phase → ℕ
accesses_at kept AtOperation = 0
accesses_at kept (ReadsLock v) = 1
accesses_at kept ValidatesTime = 0
accesses_at kept (ValidatesEntry time i) = 0
accesses_at kept (Stores i) = if kept then i else suc i

-- After k accesses the thread is inside its attempt, and the meaning is in the same state.
pub record IsOpenAfter {C : Type 0} (code : C → Effect C) (w : World C) (t : ℕ) (first : Part C) (k : ℕ)
    (v : World C) : Type 0 where
  pub part : Part C
  pub attempt : Attempt C
  pub meant : Sequential C
  pub tally : Tally
  pub here : slice_get v.parts t ≡ Some part
  pub in_attempt : part.thread.attempt ≡ Some attempt
  pub tallies : IsTallied code first.thread.configuration w.words meant tally
  pub stands : meant.configuration ≡ part.thread.configuration
  pub count : k ≡ accesses_so_far tally + accesses_at tally.kept attempt.phase

-- After k accesses the transaction has taken effect: it has left its record, and the meaning's next instruction has
-- also ended it and reaches the thread's state.
pub record IsOverAfter {C : Type 0} (code : C → Effect C) (w : World C) (t : ℕ) (first : Part C) (k : ℕ)
    (v : World C) : Type 0 where
  pub part : Part C
  pub made : Record
  pub meant : Sequential C
  pub tally : Tally
  pub here : slice_get v.parts t ≡ Some part
  pub over : part.thread.attempt ≡ None
  pub records : part.records ≡ first.records ++ made ∷ []
  pub tallies : IsTallied code first.thread.configuration w.words meant tally
  pub ends : (next code meant).inside ≡ None
  pub stands : (next code meant).configuration ≡ part.thread.configuration
  pub count : k ≡ accesses tally (is_commit (code meant.configuration))

-- Steps of thread t, from an outermost begin under a free lock, without accesses of other threads in between: they
-- never abort the attempt, and make exactly as many accesses as the meaning's tally says, on the way and in all.
abbrev pub CountsByMeaning : {C : Type 0} → (C → Effect C) → World C → ℕ → Type 0
CountsByMeaning {C} code w t =
    (p : Part C) (us : List ℕ) → BeginsFree code w t p → IsUndisturbed code t us (step code w t) →
    IsOpenAfter code w t p (accesses_in code (t ∷ us) w) (run code (t ∷ us) w)
    ⊎ IsOverAfter code w t p (accesses_in code (t ∷ us) w) (run code (t ∷ us) w)
