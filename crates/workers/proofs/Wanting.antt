-- Which steps of a thread may want memory, whatever room there is.
use Rattle.std.proofs.Common.{◌≡◌, ◌∙◌, ℕ, ℤ, Option, None, Some, refl, sym, ap, subst}
use Rattle.std.specs.Prelude.{IfSome, IsSomeAnd}
use Rattle.syntax.specs.declared.thread_end.Status.TheVariants.{Running}
use Rattle.bytecode.specs.Effects.{Effect}
use Rattle.bytecode.specs.Effects.Effect.{Begin, Print, Read}
use Rattle.bytecode.specs.Code.{Code, Configuration, effect, going, onward, setting}
use Rattle.frames.specs.Doings.{IsDoingAt, piece_of}
use Rattle.frames.specs.Open.{saved_in}
use Rattle.frames.specs.declared.doing.Doing.TheVariants as doing
use Rattle.norec_core.specs.Attempts.{Attempt}
use Rattle.norec_core.specs.Cores.{IsComparing, IsStoring, IsWaiting, MayLog}
use Rattle.norec_core.specs.declared.step.Op.{Op}
use Rattle.norec_core.specs.declared.step.Op.TheVariants as op
use Rattle.norec_core.specs.declared.step.Phase.{Phase}
use Rattle.norec_core.specs.declared.step.Phase.TheVariants.{AtOperation, ReadsLock, Stores, ValidatesEntry, ValidatesTime}
use Rattle.norec_core.specs.declared.step.Stop.TheVariants.{OutOfMemory}
use Rattle.machine.specs.States.{ComparesNext, IsValidated, Ready, StandsAt, StoresNext, ThreadState, WaitsNext, WantsRoom, asks, asks_by}
use Rattle.machine.specs.Threads.{Thread}
use Rattle.workers.specs.Works.{Because}

-- nothing is ready, and there is no room
abbrev no_room : Configuration → Ready
no_room c = record { asked = None; saved = saved_in c; read_room = 0; write_room = 0; call_room = 0; text_room = 0 }

module _ (code : Code) (th : Thread Configuration) where
  wants : (x : Effect Configuration) → effect code th.configuration ≡ x →
      WantsRoom code th.configuration (no_room th.configuration) th.attempt x → Because OutOfMemory code th
  wants x e h = (no_room th.configuration, subst (WantsRoom code th.configuration (no_room th.configuration) th.attempt) (sym e) h)

  pub begin_wants : (to : ℕ) → IsDoingAt code th.configuration (doing.Begin to) → Because OutOfMemory code th
  begin_wants to d = wants (Begin (onward th.configuration) (going th.configuration to)) d tt

  pub text_wants : (k : ℕ) → IsDoingAt code th.configuration (doing.PrintText k) → Because OutOfMemory code th
  text_wants k d = wants (Print (piece_of code (doing.PrintText k)) (onward th.configuration)) d (λ some. some)

  pub number_wants : (z : ℤ) → IsDoingAt code th.configuration (doing.PrintNumber z) → Because OutOfMemory code th
  number_wants z d = wants (Print (piece_of code (doing.PrintNumber z)) (onward th.configuration)) d (λ some. some)

  pub read_wants : (m cell : ℕ) → IsDoingAt code th.configuration (doing.Read m cell) → IfSome th.attempt (λ a. MayLog a.phase) →
      Because OutOfMemory code th
  read_wants m cell d may = wants (Read cell (setting th.configuration m)) d.0 (refl, may)

-- an attempt that stands at a read, and is neither under validation nor stores, may log what it reads
module _ (code : Code) (s : ThreadState) (m cell : ℕ) (running : s.thread.status ≡ Running)
    (d : IsDoingAt code s.thread.configuration (doing.Read m cell)) (no_wait : WaitsNext code s → ⊥)
    (no_compare : (time index : ℕ) → ComparesNext code s time index → ⊥) (no_store : (index : ℕ) → StoresNext s index → ⊥) where
  asked : (a : Attempt Configuration) → s.thread.attempt ≡ Some a → asks (effect code) s.thread ≡ Some (op.Read cell)
  asked a e = ap (λ o. asks_by s.thread o (effect code s.thread.configuration)) e ∙ ap (asks_by s.thread (Some a)) d.0

  operation : (a : Attempt Configuration) → s.thread.attempt ≡ Some a → IsSomeAnd (asks (effect code) s.thread) IsValidated
  operation a e = subst (λ o. IsSomeAnd o IsValidated) (sym (asked a e)) tt

  by_phase : (a : Attempt Configuration) → s.thread.attempt ≡ Some a → (p : Phase) → a.phase ≡ p → MayLog p
  by_phase a e AtOperation is = tt
  by_phase a e (ReadsLock word) is = tt
  by_phase a e ValidatesTime is = absurd (no_wait (record {
    running = running;
    operation = operation a e;
    waits = subst (λ o. IsSomeAnd o (λ b. IsWaiting b)) (sym e) is;
  }))
  by_phase a e (ValidatesEntry time index) is = absurd (no_compare time index (record {
    running = running;
    operation = operation a e;
    compares = subst (λ o. IsSomeAnd o (λ b. IsComparing time index b)) (sym e) is;
  }))
  by_phase a e (Stores index) is = absurd (no_store index (record {
    running = running;
    stores = subst (λ o. IsSomeAnd o (λ b. IsStoring index b)) (sym e) is;
  }))

  by_attempt : (o : Option (Attempt Configuration)) → s.thread.attempt ≡ o → IfSome o (λ a. MayLog a.phase)
  by_attempt None e = tt
  by_attempt (Some a) e = by_phase a e a.phase refl

  pub may_log : IfSome s.thread.attempt (λ a. MayLog a.phase)
  may_log = by_attempt s.thread.attempt refl
