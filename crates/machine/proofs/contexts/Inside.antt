-- Steps of a thread that runs, with what loads for its reads.
use Rattle.std.proofs.Common.{◌≡◌, ◌≢◌, ◌⊎◌, inl, inr, ◌+◌, ◌<◌, ◌≤◌, ◌^◌, ℕ, Bool, true, false, List, [], Option, None, Some, refl, sym, ◌∙◌, ap, subst, arith, add-zero}
use Rattle.std.specs.Prelude.{IsSomeAnd, length, if◌then◌else◌}
use Rattle.syntax.specs.declared.thread_end.Status.TheVariants.{Running}
use Rattle.nesting.specs.Begins.{Saved}
use Rattle.bytecode.specs.Effects.{Effect}
use Rattle.bytecode.specs.Code.{Code, Configuration, effect, onward, setting}
use Rattle.bytecode.specs.Valid.{IsValid}
use Rattle.local_steps.specs.Local.{pure_of}
use Rattle.frames.proofs.Keeping.{begins_stay_open}
use Rattle.frames.specs.Open.{BeginsStayOpen, begin_configuration}
use Rattle.frames.specs.Doings.{IsDoingAt}
use Rattle.frames.specs.declared.doing.Doing.{Doing}
use Rattle.frames.specs.declared.doing.Doing.TheVariants as doing
use Rattle.norec_core.specs.declared.step.Access.{Access}
use Rattle.norec_core.specs.declared.step.Answer.TheVariants.{Done, Value}
use Rattle.norec_core.specs.declared.step.Op.{Op}
use Rattle.norec_core.specs.declared.step.Op.TheVariants as op
use Rattle.norec_core.specs.declared.step.OpOutcome.{OpOutcome}
use Rattle.norec_core.specs.declared.step.OpOutcome.TheVariants as outcome
use Rattle.norec_core.specs.Attempts.{Attempt}
use Rattle.norec_core.specs.Phases.{core_step}
use Rattle.norec_core.specs.Cores.{CoreState, IsDoneLocally, LoadsBoth, stepped_twice}
use Rattle.machine.specs.declared.event.Event.TheVariants as event
use Rattle.machine.specs.Answered.{StepsHearing}
use Rattle.machine.specs.Loads.{Counted, IsLoad, LoadsNext, after_load}
use Rattle.machine.specs.Standing.{begins_of, GivesWordsIf, IsThreadOf}
use Rattle.machine.specs.States.{told_twice}
use Rattle.machine.specs.Threads.{Thread, resume, status_after, with_value}
use Rattle.machine.specs.inner.Inside.{CanStepInside, Inside, LeadsInside, LeadsTo, counted_at, context_at}
use Rattle.machine.specs.inner.Contexts.{Advances, AreWithin, PlainContext, Makes, RunsInContext, back_by, op_by, machine_thread}
use Rattle.machine.proofs.contexts.Advancing.{advances, advances_once, once_asked}
use Rattle.machine.proofs.contexts.Makes.{context_same}
use Rattle.machine.proofs.contexts.Operations.{does, reads_word}
use Rattle.machine.proofs.contexts.Reading.{loads_next, makes_both, word_or_going}
use Rattle.machine.proofs.contexts.Seen.{thread_of, within}
use Rattle.machine.proofs.contexts.Words.{FitsRegister}

module _ {X : Type 0} (leads : Code → X → Counted → ℕ → X → Counted → Type 0) (code : Code) where
  pub inside_stays : (a : Inside X) (from : Configuration) → LeadsInside leads code a from 0 a from
  inside_stays a from text valid runs = record {
    led = λ s start before h. subst (λ n. leads code s start n a.loads (counted_at text a from)) (sym (add-zero before)) h;
    runs = runs;
    within = within code (begins_stay_open code valid) from (begins_of a.core.attempt) runs.stands;
  }

  -- what loads say of local steps
  abbrev pub GoesOn : X → Type 0
  GoesOn now =
      (s : X) (from : Counted) (n : ℕ) (at : Counted) (k : ℕ) (next : Thread Configuration) → leads code s from n now at →
      StepsHearing (effect code) at.thread k [] next → IsThreadOf code next → leads code s from (n + k) now (record { thread = next; accesses = at.accesses })

  -- steps that the thread makes by itself
  pub advances_to : (now : X) → GoesOn now → (k l : PlainContext) (accesses n : ℕ) → IsValid code → Advances code k n l → LeadsTo leads code now (record { thread = machine_thread k; accesses = accesses }) n now (record { thread = machine_thread l; accesses = accesses })
  advances_to now goes k l accesses n valid a s start before h = goes s start before (record { thread = machine_thread k; accesses = accesses }) n (machine_thread l) h a.steps (thread_of code valid l a.of)

  then_to : (a b c : X) (x y z : Counted) (m n k : ℕ) → m + n ≡ k → LeadsTo leads code a x m b y → LeadsTo leads code b y n c z → LeadsTo leads code a x k c z
  then_to a b c x y z m n k e f g s start before h = subst (λ i. leads code s start i c z) (omega (arith, e)) (g s start (before + m) (f s start before h))

  pub inside_goes_on : {a b : Inside X} (from at next : Configuration) (n : ℕ) → GoesOn b.loads → LeadsInside leads code a from n b at → effect code at ≡ Effect.Pure next → LeadsInside leads code a from (n + 1) b next
  inside_goes_on {a} {b} from at next n goes led pure text valid runs =
      let o = led text valid runs in
      let k = context_at text b at in
      let l = context_at text b next in
      let adv : Advances code k 1 l = advances code (begins_stay_open code valid) k l 1 refl o.runs (ap pure_of pure) refl refl refl refl in
      record {
        led = then_to a.loads b.loads b.loads (counted_at text a from) (counted_at text b at) (counted_at text b next) n 1 (n + 1) refl o.led (advances_to b.loads goes k l b.accesses 1 valid adv);
        runs = adv.of;
        within = adv.within;
      }

  -- a step without an access
  module _ {a b : Inside X} (from at : Configuration) (n : ℕ) (core : CoreState) (goes : GoesOn b.loads) (led : LeadsInside leads code a from n b at) where
    inside_once : (next : Configuration) (o : Op) (r : OpOutcome) (x : Doing) (e : Effect Configuration) → effect code at ≡ e → IsDoingAt code at x → o ≢ op.Begin → ((kept : Bool) → op_by x kept b.trapping ≡ Some o) → (core_step {S = Saved} b.core.saved None o Done).outcome ≡ outcome.Going → r ≢ outcome.Going
        → IsDoneLocally b.core o r core → next ≡ resume (effect code) e at r (back_by e r (begin_configuration at core.saved)) → Running ≡ status_after r e Running → LeadsInside leads code a from (n + 1) (record b { core = core; trapping = false }) next
    inside_once next o r x e is tells other by idle done once to status text valid runs =
        let m = led text valid runs in
        let k = context_at text b at in
        let l = context_at text (record b { core = core; trapping = false }) next in
        let adv : Advances code k 1 l = advances_once code (begins_stay_open code valid) k l o r x e refl m.runs tells
        (once_asked x o r b.core.saved b.core.attempt b.trapping by idle done once.outcome) other once is to status refl refl in
        record {
          led = then_to a.loads b.loads b.loads (counted_at text a from) (counted_at text b at) (record { thread = machine_thread l; accesses = b.accesses }) n 1 (n + 1) refl m.led (advances_to b.loads goes k l b.accesses 1 valid adv);
          runs = adv.of;
          within = adv.within;
        }

    -- of a write
    pub inside_writes : (cell word : ℕ) → effect code at ≡ Effect.Write cell word (onward at) → word < 2 ^ 64 → IsDoneLocally b.core (op.Write cell word) outcome.Done core → LeadsInside leads code a from (n + 1) (record b { core = core; trapping = false }) (onward at)
    inside_writes cell word writes fits once =
        inside_once (onward at) (op.Write cell word) outcome.Done (doing.Write cell word) (Effect.Write cell word (onward at)) writes (writes, fits) (λ e. cc) (λ kept. refl) refl (λ e. cc) once refl refl

    -- of a read whose word the write log has
    pub inside_written : (cell to word : ℕ) → effect code at ≡ Effect.Read cell (setting at to) → to < length at.registers → IsDoneLocally b.core (op.Read cell) (outcome.Read word) core → LeadsInside leads code a from (n + 1) (record b { core = core; trapping = false }) (setting at to word)
    inside_written cell to word reads there once =
        inside_once (setting at to word) (op.Read cell) (outcome.Read word) (doing.Read to cell) (Effect.Read cell (setting at to)) reads (reads, there) (λ e. cc) (λ kept. refl) refl (λ e. cc) once refl refl

-- the word of such a read fits a register
pub written_fits : (c d : CoreState) (cell word : ℕ) → GivesWordsIf c.attempt → IsDoneLocally c (op.Read cell) (outcome.Read word) d → word < 2 ^ 64
written_fits c d cell word w once =
    reads_word c.saved (begins_of c.attempt) (op.Read cell) (core_step c.saved c.attempt (op.Read cell) Done) word (does c.saved c.attempt (op.Read cell) Done w tt (subst (λ (x : Access). FitsRegister x Done) (sym once.access) tt)) once.outcome

-- what is known of a core holds of another with the same attempt
pub inside_same : {X : Type 0} (leads : Code → X → Counted → ℕ → X → Counted → Type 0) (code : Code) {a b : Inside X} (from at : Configuration) (n : ℕ) (core : CoreState) → core.attempt ≡ b.core.attempt → LeadsInside leads code a from n b at → LeadsInside leads code a from n (record b { core = core }) at
inside_same leads code {a} {b} from at n core same led text valid runs =
    let o = led text valid runs in
    let k = context_at text b at in
    let l = context_at text (record b { core = core }) at in
    let is : machine_thread k ≡ machine_thread l = ap (λ (z : Option (Attempt Saved)). machine_thread (record k { core = record b.core { attempt = z } })) (sym same) in
    record {
      led = λ s start before h. subst (λ (t : Thread Configuration). leads code s start (before + n) b.loads (record { thread = t; accesses = b.accesses })) is (o.led s start before h);
      runs = context_same code k l Running refl (sym same) o.runs;
      within = subst (λ (z : Option (Attempt Saved)). AreWithin at (begins_of z)) (sym same) o.within;
    }

-- what comes of a read that has its word or is validated
read_is : (b : Bool) (o : OpOutcome) (word x : ℕ) → o ≡ (if b then outcome.Read word else outcome.Going) → o ≡ outcome.Read x → outcome.Read word ≡ o
read_is true o word x e h = sym e
read_is false o word x e h = absurd (cc)

abbrev pub NoRead : OpOutcome → Type 0
NoRead o = (o ≡ outcome.Going) ⊎ ((o ≡ outcome.Done) ⊎ (o ≡ outcome.Aborted))

going_else : (b : Bool) (o : OpOutcome) (word : ℕ) → o ≡ (if b then outcome.Read word else outcome.Going) → NoRead o → outcome.Going ≡ o
going_else false o word e h = sym e
going_else true o word e (inl h) = absurd (cc)
going_else true o word e (inr (inl h)) = absurd (cc)
going_else true o word e (inr (inr h)) = absurd (cc)

-- both steps of a read
module _ {X : Type 0} (leads : Code → X → Counted → ℕ → X → Counted → Type 0) (code : Code) (valid : IsValid code) (text : List ℕ) (b : Inside X) (at : Configuration) (to cell : ℕ) (runs : RunsInContext code (context_at text b at))
    (reads : effect code at ≡ Effect.Read cell (setting at to)) (there : to < length at.registers) (under : IsSomeAnd b.core.attempt (λ z. LoadsBoth z cell)) where
  abbrev law : BeginsStayOpen code
  law = begins_stay_open code valid

  abbrev k : PlainContext
  k = context_at text b at

  pub inside_loads : LoadsNext code (machine_thread k) cell
  inside_loads = loads_next code law k to cell refl runs (reads, there) under valid

  module _ (word lock : ℕ) (fits : word < 2 ^ 64) (core : CoreState) (attempt : core.attempt ≡ (stepped_twice b.core (op.Read cell) (Value word) (Value lock)).attempt) (o : OpOutcome) (is : o ≡ (stepped_twice b.core (op.Read cell) (Value word) (Value lock)).outcome) where
    pub has_word : (x : ℕ) → o ≡ outcome.Read x → Makes code (told_twice code (machine_thread k) word lock) (context_at text (record b { core = core; trapping = false }) (setting at to word)) event.Quiet
    has_word x h = makes_both code law k to cell refl runs (reads, there) under word fits lock (context_at text (record b { core = core; trapping = false }) (setting at to word)) (outcome.Read word) event.Quiet
        (read_is _ o word x (is ∙ word_or_going code law k to cell refl runs (reads, there) under word fits lock) h ∙ is) attempt
        (record { configuration = ap (λ (x : Effect Configuration). with_value x at word) (sym reads); status = refl; trapping = refl; text = refl; event = refl })

    pub is_validated : NoRead o → Makes code (told_twice code (machine_thread k) word lock) (context_at text (record b { core = core; trapping = false }) at) event.Quiet
    is_validated h = makes_both code law k to cell refl runs (reads, there) under word fits lock (context_at text (record b { core = core; trapping = false }) at) outcome.Going event.Quiet
        (going_else _ o word (is ∙ word_or_going code law k to cell refl runs (reads, there) under word fits lock) h ∙ is) attempt
        (record { configuration = refl; status = refl; trapping = refl; text = refl; event = refl })

-- and they lead on, with what was loaded, from a core that was prepared for them
module _ {X : Type 0} (leads : Code → X → Counted → ℕ → X → Counted → Type 0) (code : Code) {a b : Inside X} (from at : Configuration) (n to cell : ℕ) (led : LeadsInside leads code a from n b at)
    (reads : effect code at ≡ Effect.Read cell (setting at to)) (there : to < length at.registers) (under : IsSomeAnd b.core.attempt (λ z. LoadsBoth z cell)) (prepared : CoreState) (same : prepared.attempt ≡ b.core.attempt) (word lock : ℕ) (fits : word < 2 ^ 64) (loads : X)
    (goes : (s : X) (start : Counted) (k : ℕ) (x : Counted) → leads code s start k b.loads x → LoadsNext code x.thread cell → IsThreadOf code (after_load code x word lock).thread → leads code s start (k + 2) loads (after_load code x word lock))
    (core : CoreState) (attempt : core.attempt ≡ (stepped_twice prepared (op.Read cell) (Value word) (Value lock)).attempt) (o : OpOutcome) (is : o ≡ (stepped_twice prepared (op.Read cell) (Value word) (Value lock)).outcome) where
  abbrev with_prepared : Inside X
  with_prepared = record b { core = prepared }

  prepared_under : IsSomeAnd prepared.attempt (λ z. LoadsBoth z cell)
  prepared_under = subst (λ (z : Option (Attempt Saved)). IsSomeAnd z (λ a. LoadsBoth a cell)) (sym same) under

  abbrev new : Inside X
  new = record { core = core; trapping = false; accesses = b.accesses + 2; loads = loads }

  lead_on : (next : Configuration) → ((text : List ℕ) → IsValid code → RunsInContext code (context_at text with_prepared at) → Makes code (told_twice code (machine_thread (context_at text with_prepared at)) word lock) (context_at text new next) event.Quiet) → LeadsInside leads code a from (n + 2) new next
  lead_on next makes text valid runs =
      let o = inside_same leads code from at n prepared same led text valid runs in
      let m = makes text valid o.runs in
      record {
        led = λ s start before h.
            let l = goes s start (before + n) (counted_at text with_prepared at) (o.led s start before h) (inside_loads leads code valid text with_prepared at to cell o.runs reads there prepared_under)
            (subst (IsThreadOf code) m.thread (thread_of code valid (context_at text new next) m.of)) in
            subst (λ (z : ℕ × Thread Configuration). leads code s start z.0 loads (record { thread = z.1; accesses = b.accesses + 2 })) (λ i. (same_count before i, sym m.thread i)) l;
        runs = m.of;
        within = m.within;
      }
    where
      same_count : (before : ℕ) → before + n + 2 ≡ before + (n + 2)
      same_count before = omega arith

  pub inside_word : (x : ℕ) → o ≡ outcome.Read x → LeadsInside leads code a from (n + 2) new (setting at to word)
  inside_word x h = lead_on (setting at to word) (λ text valid runs. has_word leads code valid text with_prepared at to cell runs reads there prepared_under word lock fits core attempt o is x h)

  pub inside_going : NoRead o → LeadsInside leads code a from (n + 2) new at
  inside_going h = lead_on at (λ text valid runs. is_validated leads code valid text with_prepared at to cell runs reads there prepared_under word lock fits core attempt o is h)

-- the load that such a read wants
pub inside_load : {X : Type 0} (leads : Code → X → Counted → ℕ → X → Counted → Type 0) (can_step : Code → X → Counted → ℕ → Type 0) (code : Code) {a b : Inside X} (from at : Configuration) (n m to cell : ℕ) (can : CanStepInside leads can_step code a from m)
    → LeadsInside leads code a from n b at → n + 2 ≤ m → effect code at ≡ Effect.Read cell (setting at to) → to < length at.registers → IsSomeAnd b.core.attempt (λ z. LoadsBoth z cell)
    → IsLoad leads can_step code can.may.s can.may.start (can.may.before + n) can.may.all b.loads (counted_at can.text b at) cell
inside_load leads can_step code {a} {b} from at n m to cell can led few reads there under =
    let o = led can.text can.valid can.runs in
    record {
      led = o.led can.may.s can.may.start can.may.before can.may.led;
      can = can.may.can;
      few = (let all = can.may.few in omega (arith, few, all));
      loads = inside_loads leads code can.valid can.text b at to cell o.runs reads there under;
    }

-- a thread that runs
pub runs_at : (k : PlainContext) → k.status ≡ Running → k ≡ record k { status = Running }
runs_at k e = ap (λ s. record { configuration = k.configuration; core = k.core; trapping = k.trapping; text = k.text; status = s }) e

-- the same of a thread whose status is known, by what is known of where it ends
pub leads_as : {X : Type 0} (leads : Code → X → Counted → ℕ → X → Counted → Type 0) (code : Code) (a b c : X) (k l : PlainContext) (x y z n : ℕ) → k.status ≡ Running → l.status ≡ Running → c ≡ b → z ≡ y
    → LeadsTo leads code a (record { thread = machine_thread (record k { status = Running }); accesses = x }) n b (record { thread = machine_thread (record l { status = Running }); accesses = y })
    → LeadsTo leads code a (record { thread = machine_thread k; accesses = x }) n c (record { thread = machine_thread l; accesses = z })
leads_as {X} leads code a b c k l x y z n e f p q h =
    subst (λ (u : X × ℕ). LeadsTo leads code a (record { thread = machine_thread k; accesses = x }) n u.0 (record { thread = machine_thread l; accesses = u.1 })) (λ i. (sym p i, sym q i))
    (subst (λ (u : PlainContext × PlainContext). LeadsTo leads code a (record { thread = machine_thread u.0; accesses = x }) n b (record { thread = machine_thread u.1; accesses = y })) (λ i. (sym (runs_at k e) i, sym (runs_at l f) i)) h)
