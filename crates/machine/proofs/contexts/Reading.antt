-- A read that loads its word and then the lock makes two of the machine's steps.
use Rattle.std.proofs.Common.{◌≡◌, ◌<◌, ◌^◌, ℕ, false, Option, None, Some, refl, sym, ◌∙◌, ap, subst}
use Rattle.std.specs.Prelude.{IfSome, IsSomeAnd, Bool, true, ◌==◌, if◌then◌else◌}
use Rattle.syntax.specs.declared.thread_end.Status.TheVariants.{Running}
use Rattle.nesting.specs.Begins.{Saved}
use Rattle.bytecode.specs.Code.{Code, Configuration, effect}
use Rattle.bytecode.specs.Valid.{IsValid}
use Rattle.frames.specs.declared.doing.Doing.TheVariants as doing
use Rattle.frames.specs.Open.{BeginsStayOpen}
use Rattle.frames.specs.Doings.{IsDoingAt}
use Rattle.norec_core.specs.declared.step.Access.{Access}
use Rattle.norec_core.specs.declared.step.Access.TheVariants.{LoadLock, LoadWord}
use Rattle.norec_core.specs.declared.step.Answer.TheVariants.{Value}
use Rattle.norec_core.specs.declared.step.Op.{Op}
use Rattle.norec_core.specs.declared.step.Op.TheVariants as op
use Rattle.norec_core.specs.declared.step.OpOutcome.{OpOutcome}
use Rattle.norec_core.specs.declared.step.OpOutcome.TheVariants as outcome
use Rattle.norec_core.specs.declared.step.Phase.TheVariants.{ReadsLock}
use Rattle.norec_core.specs.Attempts.{Attempt}
use Rattle.norec_core.specs.Phases.{CoreStep, core_access, core_check, core_step, on}
use Rattle.norec_core.specs.Cores.{LoadsBoth, stepped_twice}
use Rattle.norec_core.proofs.Reading.{after_word, check_keeps, loads_word}
use Rattle.machine.specs.declared.event.Event.{Event}
use Rattle.machine.specs.declared.event.Event.TheVariants as event
use Rattle.machine.specs.Threads.{Thread, access, step_with}
use Rattle.machine.specs.Standing.{IsThreadOf}
use Rattle.machine.specs.Loads.{LoadsNext}
use Rattle.machine.specs.States.{asks, told_twice}
use Rattle.machine.specs.inner.Contexts.{PlainContext, ContextWith, Makes, RunsInContext, op_asked, machine_thread}
use Rattle.machine.proofs.contexts.Asking.{access_is, asks_is}
use Rattle.machine.proofs.contexts.Makes.{Resumes, core_makes}
use Rattle.machine.proofs.contexts.Seen.{thread_of}
use Rattle.machine.proofs.contexts.Words.{FitsRegister}

-- what is under way
pub some_and : {X : Type 0} (P : X → Type 0) (o : Option X) → IsSomeAnd o P → (x : X) × (o ≡ Some x) × P x
some_and P None h = absurd h
some_and P (Some x) h = (x, refl, h)

check_outcome : (a : Attempt Saved) (cell word lock : ℕ) → (core_check a (op.Read cell) word (Value lock)).outcome ≡ (if lock == a.snapshot then outcome.Read word else outcome.Going)
check_outcome a cell word lock = at (lock == a.snapshot) _ _ refl refl
  where
    at : (b : Bool) (m n : CoreStep Saved) → m.outcome ≡ outcome.Read word → n.outcome ≡ outcome.Going → (if b then m else n).outcome ≡ (if b then outcome.Read word else outcome.Going)
    at true m n f g = f
    at false m n f g = g

module _ (code : Code) (law : BeginsStayOpen code) (k : PlainContext) (to cell : ℕ) (running : k.status ≡ Running) (runs : RunsInContext code k) (t : IsDoingAt code k.configuration (doing.Read to cell))
    (under : IsSomeAnd k.core.attempt (λ a. LoadsBoth a cell)) where
  pub found : (a : Attempt Saved) × (k.core.attempt ≡ Some a) × LoadsBoth a cell
  found = some_and (λ a. LoadsBoth a cell) k.core.attempt under

  abbrev a : Attempt Saved
  a = found.0

  abbrev o : Op
  o = op.Read cell

  asked : asks (effect code) (machine_thread k) ≡ Some o
  asked = asks_is code k running (doing.Read to cell) t ∙ ap (λ (z : Option (Attempt Saved)). op_asked (doing.Read to cell) z k.trapping) found.1

  core_loads : core_access k.core.attempt o ≡ LoadWord cell
  core_loads = ap (λ (z : Option (Attempt Saved)). core_access z o) found.1 ∙ loads_word k.core.saved a cell 0 0 found.2

  pub first_load : access (effect code) (machine_thread k) ≡ LoadWord cell
  first_load = access_is code k o asked ∙ core_loads

  module _ (word : ℕ) (fits : word < 2 ^ 64) where
    -- the thread between both steps
    abbrev middle : PlainContext
    middle = record k { core = record k.core { attempt = Some (record a { phase = ReadsLock word }) }; trapping = false }

    one : core_step k.core.saved k.core.attempt o (Value word) ≡ on (record a { phase = ReadsLock word }) outcome.Going
    one = ap (λ (z : Option (Attempt Saved)). core_step k.core.saved z o (Value word)) found.1 ∙ after_word k.core.saved a cell word 0 found.2

    makes_one : Makes code (step_with (effect code) (machine_thread k) (Value word)) middle event.Quiet
    makes_one = core_makes code law k o (Value word) running runs asked (λ e. absurd (cc)) tt (subst (λ (x : Access). FitsRegister x (Value word)) (sym core_loads) fits) middle outcome.Going event.Quiet
        (sym (ap (λ (n : CoreStep Saved). n.outcome) one)) (sym (ap (λ (n : CoreStep Saved). n.attempt) one)) (subst (λ (n : CoreStep Saved). IfSome n.back (λ s. k.core.saved ≡ s)) (sym one) tt)
        (record { configuration = refl; status = refl; trapping = refl; text = refl; event = refl })

    between : IsValid code → IsThreadOf code (step_with (effect code) (machine_thread k) (Value word)).thread
    between valid = subst (IsThreadOf code) makes_one.thread (thread_of code valid middle makes_one.of)

    runs_on : RunsInContext code middle
    runs_on = subst (ContextWith code middle) running makes_one.of

    asked_on : asks (effect code) (machine_thread middle) ≡ Some o
    asked_on = asks_is code middle running (doing.Read to cell) t

    pub second_load : access (effect code) (step_with (effect code) (machine_thread k) (Value word)).thread ≡ LoadLock
    second_load = subst (λ (th : Thread Configuration). access (effect code) th ≡ LoadLock) makes_one.thread (access_is code middle o asked_on)

    module _ (lock : ℕ) where
      two : stepped_twice k.core o (Value word) (Value lock) ≡ core_step k.core.saved (Some (record a { phase = ReadsLock word })) o (Value lock)
      two = ap (λ (n : CoreStep Saved). core_step k.core.saved n.attempt o (Value lock)) one

      -- it has its word, or is validated
      pub word_or_going : (stepped_twice k.core o (Value word) (Value lock)).outcome ≡ (if lock == a.snapshot then outcome.Read word else outcome.Going)
      word_or_going = ap (λ (n : CoreStep Saved). n.outcome) two ∙ check_outcome (record a { phase = ReadsLock word }) cell word lock

      goes_back : (s : Saved) → IfSome (core_step k.core.saved (Some (record a { phase = ReadsLock word })) o (Value lock)).back (λ z. s ≡ z)
      goes_back s = subst (λ (z : Option Saved). IfSome z (λ w. s ≡ w)) (sym (check_keeps (record a { phase = ReadsLock word }) cell word lock)) tt

      pub makes_both : (l : PlainContext) (r : OpOutcome) (e : Event) → r ≡ (stepped_twice k.core o (Value word) (Value lock)).outcome → l.core.attempt ≡ (stepped_twice k.core o (Value word) (Value lock)).attempt → Resumes code law middle l r e
          → Makes code (told_twice code (machine_thread k) word lock) l e
      makes_both l r e er ea z = subst (λ (th : Thread Configuration). Makes code (step_with (effect code) th (Value lock)) l e) makes_one.thread
          (core_makes code law middle o (Value lock) running runs_on asked_on (λ h. absurd (cc)) tt tt l r e (er ∙ ap (λ (n : CoreStep Saved). n.outcome) two) (ea ∙ ap (λ (n : CoreStep Saved). n.attempt) two) (goes_back l.core.saved) z)

  pub loads_next : IsValid code → LoadsNext code (machine_thread k) cell
  loads_next valid = record { word = first_load; lock = second_load; between = λ word fits. between word fits valid }
