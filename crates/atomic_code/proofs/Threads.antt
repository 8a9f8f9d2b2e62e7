-- Threads of a code, at their beginning and later.
use Rattle.std.proofs.Common.{◌≡◌, ◌+◌, ◌<◌, ◌^◌, ℕ, List, [], None, Some, refl, sym, subst, arith}
use Rattle.syntax.specs.declared.thread_end.Status.{Status}
use Rattle.syntax.specs.declared.thread_end.Status.TheVariants.{Running, Ended as HasEnded, Trapped as HasTrapped}
use Rattle.syntax.specs.Behaviours.{Memory}
use Rattle.bytecode.specs.Code.{Code, Configuration}
use Rattle.bytecode.specs.Beginning.{beginning}
use Rattle.bytecode.specs.Valid.{IsValid}
use Rattle.frames.specs.Open.{MayStand}
use Rattle.frames.proofs.Keeping.{begins_stay_open}
use Rattle.atomic_code.specs.Threads.{AtomicThread, AtomicThreadState, RunsAtomically, StandsAtomically, IsAtomicThreadOf}
use Rattle.atomic_code.specs.Carried.{CarriesOn, BreaksOff, end_by}
use Rattle.atomic_code.specs.inner.Carrying.{Refused}
use Rattle.atomic_code.proofs.Carrying.{goes_until}

pub runs_at_first : (code : Code) → IsValid code → (c : Configuration) (text : List ℕ) (t : ℕ) → t < 2 ^ 32 → c ≡ beginning code t →
    RunsAtomically code (record { configuration = c; open_in = None; text = text; status = Running })
runs_at_first code v c text t h e = record { stands = subst (λ d. MayStand code d []) (sym e) ((begins_stay_open code v).none_yet t h); memories = tt }

pub thread_at_first : (code : Code) → IsValid code → (c : Configuration) (text : List ℕ) (t : ℕ) → t < 2 ^ 32 → c ≡ beginning code t →
    IsAtomicThreadOf code (record { configuration = c; open_in = None; text = text; status = Running })
unfolding IsAtomicThreadOf
thread_at_first code v c text t h e = runs_at_first code v c text t h e

-- a thread that runs
pub runs_of : (code : Code) (k : AtomicThread) → k.status ≡ Running → IsAtomicThreadOf code k → RunsAtomically code k
unfolding IsAtomicThreadOf
runs_of code k running h = subst (StandsAtomically code k) running h

pub is_thread_of : (code : Code) (k : AtomicThread) → StandsAtomically code k k.status → IsAtomicThreadOf code k
unfolding IsAtomicThreadOf
is_thread_of code k h = h

-- a thread without an end runs
pub runs_by : (s : Status) → None ≡ end_by s → s ≡ Running
runs_by Running e = refl
runs_by HasEnded e = absurd (cc)
runs_by (HasTrapped cause) e = absurd (cc)

-- one that breaks off
module _ (code : Code) (v : IsValid code) (f : Memory) (most : ℕ) (k : AtomicThread) (made : ℕ) (l : AtomicThread) (h : Refused code (Some f) most k made l) where
  pub breaks_off : (before after : AtomicThreadState) → k ≡ before.thread → after.thread ≡ l → after.steps ≡ before.steps + made → BreaksOff code f most before after
  breaks_off before after same there e = (
    made,
    h.fewer,
    e,
    subst (λ z. CarriesOn code f made before.thread made None z) (sym there) (subst (λ z. CarriesOn code f made z made None l) same (record {
      few = omega arith;
      does = h.carried.does;
      goes = λ n below. goes_until code v (Some f) k l made n h.carried (omega arith);
      pauses = λ lt g. absurd (omega arith);
    })),
  )

  pub breaks_of : IsAtomicThreadOf code l
  unfolding IsAtomicThreadOf
  breaks_of = subst (StandsAtomically code l) (sym h.carried.running) h.carried.runs
