-- All attempts in one order: the transactions that took effect, and between them the aborted attempts and those that
-- have not ended. The claims about live and aborted attempts are thus opacity (Guerraoui and Kapałka, PPoPP 2008).
use Rattle.std.specs.Prelude.{◌≡◌, ◌⊎◌, ℕ, suc, false, List, [], ◌∷◌, ◌++◌, Option, None, Some}
use Rattle.std.specs.List.{slice_get}
use Rattle.syntax.specs.Behaviours.{IsChained, IsSubsequence, Memory}
use Rattle.bytecode.specs.Effects.{Effect}
use Rattle.norec_core.specs.Attempts.{Attempt, Completed}
use Rattle.machine.specs.Computes.{ComputesOn}
use Rattle.machine.specs.Merges.{Entry, IsMerge, insert, insert_made, run_of}
use Rattle.machine.specs.Serializable.{StandsAfter, attempt_of, merge_after, seen_after, world_after}
use Rattle.machine.specs.Threads.{access, step_with}
use Rattle.machine.specs.Worlds.{Part, Record, World, answer, new_world, record_of, step}

-- an attempt that does not take effect, as a transaction: it leaves what it found, the memory at its last snapshot
abbrev pub idle_record : {C : Type 0} → Memory → Attempt C → Record
idle_record base a = record { snapshot = a.snapshot; took_lock = false; found = base; left = base }

-- the record of the attempt that ends in a step, if one does: its transaction takes effect, or it aborts
abbrev pub end_record : {C : Type 0} → Memory → Option Completed → (before after : Option (Attempt C)) → Option Record
end_record base (Some x) o o' = Some (record_of base x)
end_record base None (Some a) None = Some (idle_record base a)
end_record base None (Some a) (Some b) = None
end_record base None None o' = None

abbrev pub ended_in : {C : Type 0} → (C → Effect C) → World C → Option (Part C) → Option Record
ended_in code w None = None
ended_in code w (Some p) =
    let n = step_with code p.thread (answer w.lock w.words (access code p.thread)) in
    end_record p.base n.completed p.thread.attempt n.thread.attempt

-- the merge including the aborted attempts, which keeps equals in the order in which they ended
abbrev pub attempts_merge : {C : Type 0} → (C → Effect C) → List ℕ → World C → List Entry → List Entry
attempts_merge code [] w es = es
attempts_merge code (t ∷ ts) w es =
    attempts_merge code ts (step code w t) (insert_made t (ended_in code w (slice_get w.parts t)) es)

abbrev pub attempts_after : {C : Type 0} → (C → Effect C) → (ℕ → C) → Memory → ℕ → List ℕ → List Entry
attempts_after code init m0 threads ts = attempts_merge code ts (new_world init m0 threads) []

-- all that had ended when thread t loaded the first snapshot of its attempt
abbrev pub ended_by : {C : Type 0} → (C → Effect C) → ℕ → List ℕ → World C → List Entry → List Entry → List Entry
ended_by code t [] w es seen = seen
ended_by code t (u ∷ us) w es seen =
    ended_by code t us (step code w u) (insert_made u (ended_in code w (slice_get w.parts u)) es)
    (seen_after (attempt_of (slice_get w.parts t)) (attempt_of (slice_get (step code w u).parts t)) es seen)

abbrev pub ended_before : {C : Type 0} → (C → Effect C) → (ℕ → C) → Memory → ℕ → List ℕ → ℕ → List Entry
ended_before code init m0 threads ts t = ended_by code t ts (new_world init m0 threads) [] []

-- an entry that did not take the lock, and left what it found
abbrev pub IsIdle : Entry → Type 0
IsIdle e = (e.item.took_lock ≡ false) × (e.item.left ≡ e.item.found)

-- these entries in their order, and idle ones between them
abbrev pub WithIdle : List Entry → List Entry → Type 0
WithIdle [] [] = Unit {0}
WithIdle (e ∷ es) [] = ⊥
WithIdle [] (x ∷ all) = IsIdle x × WithIdle [] all
WithIdle (e ∷ es) (x ∷ all) = ((e ≡ x) × WithIdle es all) ⊎ (IsIdle x × WithIdle (e ∷ es) all)

-- an attempt that has not ended, inserted into the order as if it aborted now
pub record MayDropNow {C : Type 0} (m0 : Memory) (t : ℕ) (p : Part C) (a : Attempt C) (seen all : List Entry)
    : Type 0 where
  pub in_time : StandsAfter (record { thread = t; item = idle_record p.base a }) seen all
  pub chained : IsChained m0 (run_of (insert (record { thread = t; item = idle_record p.base a }) all))

-- an attempt of thread t, if it has one, inserted into the order as if it aborted now
abbrev pub insert_open : {C : Type 0} → ℕ → Memory → Option (Attempt C) → List Entry → List Entry
insert_open t base None es = es
insert_open t base (Some a) es = insert (record { thread = t; item = idle_record base a }) es

-- the attempts of all these threads, of which the first has number t
abbrev pub insert_live : {C : Type 0} → ℕ → List (Part C) → List Entry → List Entry
insert_live t [] es = es
insert_live t (p ∷ ps) es = insert_live (suc t) ps (insert_open t p.base p.thread.attempt es)

-- all attempts, including those that have not ended
abbrev pub with_live : {C : Type 0} → (C → Effect C) → (ℕ → C) → Memory → ℕ → List ℕ → List Entry
with_live code init m0 threads ts =
    insert_live 0 (world_after code init m0 threads ts).parts (attempts_after code init m0 threads ts)

-- the entry occurs in the list, after all of these with their multiplicity
pub record IsBehind (e : Entry) (seen all : List Entry) : Type 0 where
  pub before : List Entry
  pub after : List Entry
  pub place : all ≡ before ++ e ∷ after
  pub earlier : IsSubsequence seen before

-- All attempts that have not ended are inserted into the order at once, as if each aborted now. It is still an order:
-- those that have ended keep their sequence, each finds what the one before it left, and each that has not ended comes
-- after all that had ended when it loaded its first snapshot.
pub record MayAllDropNow {C : Type 0} (code : C → Effect C) (init : ℕ → C) (m0 : Memory) (threads : ℕ) (ts : List ℕ)
    : Type 0 where
  pub effective : WithIdle (merge_after code init m0 threads ts) (with_live code init m0 threads ts)
  pub ended : IsSubsequence (attempts_after code init m0 threads ts) (with_live code init m0 threads ts)
  pub chained : IsChained m0 (run_of (with_live code init m0 threads ts))
  pub in_time : (t : ℕ) (p : Part C) (a : Attempt C) →
      slice_get (world_after code init m0 threads ts).parts t ≡ Some p → p.thread.attempt ≡ Some a →
      IsBehind (record { thread = t; item = idle_record p.base a }) (ended_before code init m0 threads ts t)
      (with_live code init m0 threads ts)

-- One order of all attempts that have ended. Those that took effect are the run in it; each finds what the one before
-- it left, and an aborted one leaves that unchanged. Each attempt is in the state that its code's meaning reaches on
-- the memory that it finds there, whether it takes effect or will abort. An attempt that ends in the next step comes
-- after all that had ended when it loaded its first snapshot; so would one that has not ended yet, or all of these at
-- once. More steps insert further attempts, and move none.
pub record IsInOneOrder {C : Type 0} (code : C → Effect C) (init : ℕ → C) (m0 : Memory) (threads : ℕ) (ts : List ℕ)
    : Type 0 where
  pub effective : WithIdle (merge_after code init m0 threads ts) (attempts_after code init m0 threads ts)
  pub chained : IsChained m0 (run_of (attempts_after code init m0 threads ts))
  pub computes : (t : ℕ) (p : Part C) (a : Attempt C) →
      slice_get (world_after code init m0 threads ts).parts t ≡ Some p → p.thread.attempt ≡ Some a →
      (es : List Entry) → IsMerge (world_after code init m0 threads ts).parts es → ComputesOn code init es t p a p.base
  pub in_time : (t : ℕ) (x : Record) → ended_in code (world_after code init m0 threads ts)
      (slice_get (world_after code init m0 threads ts).parts t) ≡ Some x →
      StandsAfter (record { thread = t; item = x }) (ended_before code init m0 threads ts t)
      (attempts_after code init m0 threads ts)
  pub live : (t : ℕ) (p : Part C) (a : Attempt C) →
      slice_get (world_after code init m0 threads ts).parts t ≡ Some p → p.thread.attempt ≡ Some a →
      MayDropNow m0 t p a (ended_before code init m0 threads ts t) (attempts_after code init m0 threads ts)
  pub together : MayAllDropNow code init m0 threads ts
  pub extended : (us : List ℕ) →
      IsSubsequence (attempts_after code init m0 threads ts) (attempts_after code init m0 threads (ts ++ us))
