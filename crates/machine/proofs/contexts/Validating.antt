-- Validation makes the machine's steps.
use Rattle.std.proofs.Common.{◌≡◌, ◌<◌, ◌^◌, ℕ, false, Option, None, Some, refl, sym, ◌∙◌, ap, subst}
use Rattle.std.specs.Prelude.{IfSome, IsSomeAnd}
use Rattle.syntax.specs.declared.thread_end.Status.TheVariants.{Running}
use Rattle.nesting.specs.Begins.{Saved}
use Rattle.bytecode.specs.Code.{Code, effect}
use Rattle.frames.specs.Open.{CanRestore, begin_configuration, BeginsStayOpen}
use Rattle.norec_core.specs.declared.step.Access.{Access}
use Rattle.norec_core.specs.declared.step.Access.TheVariants.{LoadLock}
use Rattle.norec_core.specs.declared.step.Answer.{Answer}
use Rattle.norec_core.specs.declared.step.Answer.TheVariants.{Value}
use Rattle.norec_core.specs.declared.step.Op.{Op}
use Rattle.norec_core.specs.declared.step.Op.TheVariants as op
use Rattle.norec_core.specs.declared.step.OpOutcome.TheVariants as outcome
use Rattle.norec_core.specs.Attempts.{Attempt}
use Rattle.norec_core.specs.Phases.{core_access, core_step, entry_access}
use Rattle.norec_core.specs.Cores.{ComparesWith, CoreState, IsAskedAgain, IsDropped, IsWaiting}
use Rattle.norec_core.proofs.Validating.{comparing_access, waiting_access}
use Rattle.machine.specs.declared.event.Event.TheVariants as event
use Rattle.machine.specs.Threads.{step_with}
use Rattle.machine.specs.States.{IsValidated, asks}
use Rattle.machine.specs.inner.Contexts.{PlainContext, Makes, RunsInContext, machine_thread}
use Rattle.machine.proofs.contexts.Makes.{core_makes, may_go_back}
use Rattle.machine.proofs.contexts.Operations.{WritesWord}
use Rattle.machine.proofs.contexts.Reading.{some_and}
use Rattle.machine.proofs.contexts.Words.{FitsRegister}

-- such an operation saves nothing, and writes no word
no_begin : (o : Op) → IsValidated o → {X : Type 0} → o ≡ op.Begin → X
no_begin o v e = absurd (subst IsValidated e v)

writes : (o : Op) → IsValidated o → WritesWord o
writes (op.Read cell) v = tt
writes op.Commit v = tt
writes op.Irrevocable v = tt
writes op.Begin v = tt
writes (op.Write cell w) v = absurd v
writes op.Cancel v = tt
writes (op.CancelOuter levels) v = tt
writes op.Release v = tt

module _ (code : Code) (law : BeginsStayOpen code) (k : PlainContext) (running : k.status ≡ Running) (runs : RunsInContext code k) (operation : IsSomeAnd (asks (effect code) (machine_thread k)) IsValidated) where
  asked : (o : Op) × (asks (effect code) (machine_thread k) ≡ Some o) × IsValidated o
  asked = some_and IsValidated (asks (effect code) (machine_thread k)) operation

  abbrev o : Op
  o = asked.0

  core_waits : IsSomeAnd k.core.attempt (λ a. IsWaiting a) → core_access k.core.attempt o ≡ LoadLock
  core_waits w =
      let u = some_and (λ a. IsWaiting a) k.core.attempt w in
      ap (λ (z : Option (Attempt Saved)). core_access z o) u.1 ∙ waiting_access u.0 o u.2

  core_compares : (time index : ℕ) (entry : Option (ℕ × ℕ)) → IsSomeAnd k.core.attempt (λ a. ComparesWith time index entry a) → core_access k.core.attempt o ≡ entry_access entry
  core_compares time index entry w =
      let u = some_and (λ a. ComparesWith time index entry a) k.core.attempt w in
      ap (λ (z : Option (Attempt Saved)). core_access z o) u.1 ∙ comparing_access u.0 o time index entry u.2

  -- a step after which the operation goes on
  module _ (y : Answer) (l : PlainContext) (step : (q : Op) → IsAskedAgain k.core y q l.core) (configuration : l.configuration ≡ k.configuration) (status : l.status ≡ k.status) (trapping : l.trapping ≡ false) (text : l.text ≡ k.text) where
    goes : (x : Access) → core_access k.core.attempt o ≡ x → FitsRegister x y → Makes code (step_with (effect code) (machine_thread k) y) l event.Quiet
    goes x e word =
        let n = step o in
        core_makes code law k o y running runs asked.1 (λ h. no_begin o asked.2 h) (writes o asked.2) (subst (λ (z : Access). FitsRegister z y) (sym e) word) l outcome.Going event.Quiet
        (sym n.outcome) n.attempt (subst (λ (z : Option Saved). IfSome z (λ w. l.core.saved ≡ w)) (sym n.back) tt)
        (record { configuration = configuration; status = status; trapping = trapping; text = text; event = refl })

    pub waits_makes : IsSomeAnd k.core.attempt (λ a. IsWaiting a) → Makes code (step_with (effect code) (machine_thread k) y) l event.Quiet
    waits_makes w = goes LoadLock (core_waits w) tt

    pub compares_makes : (time index : ℕ) (entry : ℕ × ℕ) → IsSomeAnd k.core.attempt (λ a. ComparesWith time index (Some entry) a) → FitsRegister (entry_access (Some entry)) y → Makes code (step_with (effect code) (machine_thread k) y) l event.Quiet
    compares_makes time index entry w word = goes (entry_access (Some entry)) (core_compares time index (Some entry) w) word

    pub validates_makes : (time index : ℕ) → IsSomeAnd k.core.attempt (λ a. ComparesWith time index None a) → Makes code (step_with (effect code) (machine_thread k) y) l event.Quiet
    validates_makes time index w = goes LoadLock (core_compares time index None w) tt

  -- a step that drops the attempt
  module _ (time index : ℕ) (entry : ℕ × ℕ) (compares : IsSomeAnd k.core.attempt (λ a. ComparesWith time index (Some entry) a)) (word : ℕ) (fits : word < 2 ^ 64) where
    drops_word : FitsRegister (core_access k.core.attempt o) (Value word)
    drops_word = subst (λ (x : Access). FitsRegister x (Value word)) (sym (core_compares time index (Some entry) compares)) fits

    stays : (d : CoreState) (n : IsDropped k.core (Value word) o d) → IfSome (core_step k.core.saved k.core.attempt o (Value word)).back (λ z. d.saved ≡ z)
    stays d n = subst (λ (z : Option Saved). IfSome z (λ w. d.saved ≡ w)) (sym n.back) refl

    pub drops_back : (d : CoreState) → ((q : Op) → IsDropped k.core (Value word) q d) → CanRestore k.configuration d.saved
    drops_back d step =
        let n = step o in
        (may_go_back code law k o (Value word) running runs asked.1 (λ h. no_begin o asked.2 h) (writes o asked.2) drops_word outcome.Aborted d.saved (sym n.outcome) (stays d n)).0

    pub drops_makes : (l : PlainContext) → ((q : Op) → IsDropped k.core (Value word) q l.core) → l.configuration ≡ begin_configuration k.configuration l.core.saved → l.status ≡ k.status → l.trapping ≡ false → l.text ≡ k.text → Makes code (step_with (effect code) (machine_thread k) (Value word)) l event.Abort
    drops_makes l step configuration status trapping text =
        let n = step o in
        core_makes code law k o (Value word) running runs asked.1 (λ h. no_begin o asked.2 h) (writes o asked.2) drops_word l outcome.Aborted event.Abort
        (sym n.outcome) n.attempt (stays l.core n)
        (record { configuration = configuration; status = status; trapping = trapping; text = text; event = refl })
