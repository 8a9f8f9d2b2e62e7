-- How many accesses small transactions make alone: by their meaning's tally, and by the machine's steps, both computed.
use Rattle.std.proofs.Common.{◌≡◌, ◌⊎◌, inl, inr, ℕ, zero, suc, false, List, [], ◌∷◌, Option, None, Some, refl}
use Rattle.syntax.specs.Behaviours.{Memory}
use Rattle.syntax.specs.declared.thread_end.Status.TheVariants.{Running}
use Rattle.bytecode.specs.Sequential.{Sequential, next, start}
use Rattle.machine.specs.Alone.{zeros}
use Rattle.machine.specs.Tallies.{BeginsFree, IsOpenAfter, IsOverAfter, IsUndisturbed, Tally, accesses, accesses_in, empty_tally, is_commit, tally_step}
use Rattle.machine.specs.Serializable.{world_after}
use Rattle.machine.specs.Worlds.{Part, World, new_world, run, step}
use Rattle.machine.proofs.samples.Fits.{fits}
use Rattle.machine.proofs.samples.Rows.{count_code, inner_cancel_code, inner_code, middle_code, trap_code, two_prints_code}
use Rattle.machine.proofs.samples.Samples.{Configuration, Instruction, begins, effects_of}
use Rattle.machine.proofs.samples.Samples.Instruction.{Close, Const, Open, Read, Ret, Undo, Write}
use Rattle.machine.proofs.tallies.Spans.{counts_by_meaning}

abbrev by_end : {X : Type 0} → Option X → ℕ → ℕ → ℕ
by_end None ended inside = ended
by_end (Some x) ended inside = inside

-- by the tally of at most n instructions inside
abbrev tallied_in : List Instruction → ℕ → Sequential Configuration → Tally → ℕ
tallied_in code zero s t = 0
tallied_in code (suc n) s t = by_end (next (effects_of code) s).inside (accesses t (is_commit (effects_of code s.configuration)))
    (tallied_in code n (next (effects_of code) s) (tally_step t (effects_of code s.configuration)))

-- the code's first instruction is the begin
abbrev meant : List Instruction → Memory → ℕ
meant code m = tallied_in code 30 (next (effects_of code) (start (begins 0) (m ∷ []))) empty_tally

-- by so many steps of the machine's thread, the last of which are past its end
abbrev made : List Instruction → Memory → ℕ
made code m = accesses_in (effects_of code) (zeros 30) (new_world begins m 1)

abbrev Costs : List Instruction → Memory → ℕ → Type 0
Costs code m n = (meant code m ≡ n) × (made code m ≡ n)

-- a read, a write and a commit: 1 + 2 + 3
counting : Costs count_code (7 ∷ []) 6
counting = (refl, refl)

-- two reads alone: 1 + 4
abbrev reading_code : List Instruction
reading_code = Open 4 ∷ Read 1 0 ∷ Read 2 0 ∷ Close ∷ Ret ∷ []

reading : Costs reading_code (7 ∷ []) 5
reading = (refl, refl)

-- one cell written twice, and read in between: 1 + 3
abbrev writing_code : List Instruction
writing_code = Open 6 ∷ Const 1 3 ∷ Write 0 1 ∷ Read 2 0 ∷ Write 0 2 ∷ Close ∷ Ret ∷ []

writing : Costs writing_code (7 ∷ []) 4
writing = (refl, refl)

-- a cancelled transaction that has read: 1 + 2
abbrev undone_code : List Instruction
undone_code = Open 4 ∷ Read 1 0 ∷ Write 0 1 ∷ Undo ∷ Ret ∷ []

undone : Costs undone_code (7 ∷ []) 3
undone = (refl, refl)

-- what a cancelled inner transaction wrote serves no read after it: 1 + 2 + 4
inner_undone : Costs inner_cancel_code (1 ∷ 0 ∷ []) 7
inner_undone = (refl, refl)

-- what two cancelled levels wrote is not stored, and what was written before serves the read: 1 + 4
levels_undone : Costs middle_code (1 ∷ 0 ∷ []) 5
levels_undone = (refl, refl)

-- a read, an irrevocable, and a commit of one cell: 1 + 2 + 1 + 2
printing : Costs two_prints_code (4 ∷ []) 6
printing = (refl, refl)

-- a read after an irrevocable, a cancelled inner transaction, and a commit of one cell: 1 + 1 + 1 + 2
kept_undone : Costs inner_code (4 ∷ 7 ∷ []) 5
kept_undone = (refl, refl)

-- a trap with the lock kept, after a read: 1 + 1 + 1 + 1
trapping : Costs trap_code (2147483647 ∷ 0 ∷ []) 4
trapping = (refl, refl)

-- The law at work: thread 1 makes a local step inside thread 0's transaction, which makes one access.
abbrev idle_code : List Instruction
idle_code = Const 1 5 ∷ Open 3 ∷ Close ∷ Ret ∷ []

abbrev at_begin : World Configuration
at_begin = world_after (effects_of idle_code) begins [] 2 (0 ∷ [])

abbrev thread_0 : Part Configuration
thread_0 = record {
  thread = record { configuration = record { place = 1; registers = 0 ∷ 5 ∷ 0 ∷ 0 ∷ [] }; attempt = None; trapping = false; text = []; status = Running };
  base = [];
  records = [];
}

begins_free : BeginsFree (effects_of idle_code) at_begin 0 thread_0
begins_free = record {
  here = refl;
  free = refl;
  outside = refl;
  running = refl;
  first = record { place = 2; registers = 0 ∷ 5 ∷ 0 ∷ 0 ∷ [] };
  cancelled = record { place = 3; registers = 0 ∷ 5 ∷ 0 ∷ 0 ∷ [] };
  begins = refl;
}

undisturbed : IsUndisturbed (effects_of idle_code) 0 (1 ∷ 0 ∷ []) (step (effects_of idle_code) at_begin 0)
undisturbed = (inr ((λ e. cc), refl), (inl (refl, (_, _, refl, refl)), tt))

idle_counts : IsOpenAfter (effects_of idle_code) at_begin 0 thread_0 1 (run (effects_of idle_code) (0 ∷ 1 ∷ 0 ∷ []) at_begin)
    ⊎ IsOverAfter (effects_of idle_code) at_begin 0 thread_0 1 (run (effects_of idle_code) (0 ∷ 1 ∷ 0 ∷ []) at_begin)
idle_counts = counts_by_meaning (effects_of idle_code) begins [] [] tt (fits [] idle_code refl) 2 (0 ∷ []) 0 thread_0 (1 ∷ 0 ∷ []) begins_free undisturbed
