-- What the calls of a thread owe, from what is known of it.
use Rattle.std.proofs.Common.{◌≡◌, ◌<◌, ◌^◌, ℕ, suc, Bool, true, false, List, Option, None, Some, Result, Ok, Err, refl, sym, ◌∙◌, ap, subst, length}
use Rattle.std.specs.Prelude.{IfOk, OnOk, is_some}
use Rattle.syntax.specs.declared.thread_end.Status.{Status}
use Rattle.syntax.specs.declared.thread_end.Status.TheVariants.{Running, Ended as HasEnded, Trapped as HasTrapped}
use Rattle.syntax.specs.declared.thread_end.Trap.{Trap}
use Rattle.nesting.specs.Begins.{Saved}
use Rattle.bytecode.specs.Beginning.{beginning}
use Rattle.bytecode.specs.Effects.{Effect}
use Rattle.bytecode.specs.Effects.Effect.{Pure, Print}
use Rattle.bytecode.specs.Code.{Code, Configuration, effect}
use Rattle.bytecode.specs.Valid.{IsValid}
use Rattle.frames.specs.declared.doing.Doing.{Doing}
use Rattle.frames.specs.declared.doing.Doing.TheVariants as doing
use Rattle.frames.proofs.Keeping.{begins_stay_open}
use Rattle.frames.specs.Open.{MayStand, saved_in}
use Rattle.frames.specs.Doings.{IsDoingAt}
use Rattle.norec_core.specs.declared.step.Op.{Op}
use Rattle.norec_core.specs.declared.step.Op.TheVariants as op
use Rattle.norec_core.specs.declared.step.Stop.{Stop}
use Rattle.norec_core.specs.declared.step.Stop.TheVariants.{SequenceUsedUp}
use Rattle.norec_core.specs.declared.step.Access.{Access}
use Rattle.norec_core.specs.declared.step.Access.TheVariants.{Local}
use Rattle.norec_core.specs.declared.step.Answer.{Answer}
use Rattle.norec_core.specs.Accesses.{stops}
use Rattle.norec_core.specs.Attempts.{Attempt}
use Rattle.norec_core.specs.Phases.{core_access}
use Rattle.norec_core.specs.Cores.{CoreState, is_kept, holds_lock}
use Rattle.norec_core.specs.Cores.{has_lock as core_has_lock}
use Rattle.norec_core.specs.declared.step.Phase.{Phase}
use Rattle.norec_core.specs.declared.step.Phase.TheVariants.{AtOperation}
use Rattle.machine.specs.Explained.{has_lock}
use Rattle.machine.specs.declared.event.Event.TheVariants as event
use Rattle.machine.specs.Threads.{Thread, access, access_of, outside_access, step_with}
use Rattle.machine.specs.Standing.{begins_of, GivesWordsIf, IsThreadOf}
use Rattle.machine.specs.States.{Ready, IsReady, asks, asks_by, asks_outside, attempt_has_lock}
use Rattle.machine.specs.inner.Contexts.{PlainContext, machine_thread, shown_from, AreWithin, RunsInContext, ContextWith, IsContextOf, op_by, op_asked}
use Rattle.machine.proofs.contexts.Asking.{asks_is, access_is}
use Rattle.machine.proofs.contexts.Seen.{context_of, thread_of}
use Rattle.machine.proofs.contexts.Work.{work_over}

-- what is to be done without the core
traps_by : (b t : Bool) (cause : Trap) → op_by (doing.Traps cause) b t ≡ None → (b ≡ true) × (t ≡ false)
traps_by true false cause e = (refl, refl)
traps_by true true cause e = absurd (cc)
traps_by false t cause e = absurd (cc)

pub traps_asked : (att : Option (Attempt Saved)) (t : Bool) (cause : Trap) → op_asked (doing.Traps cause) att t ≡ None → is_some att ≡ true → (is_kept att ≡ true) × (t ≡ false)
traps_asked None t cause e h = absurd (cc)
traps_asked (Some a) t cause e h = traps_by a.kept t cause e

pub irrevocable_asked : (att : Option (Attempt Saved)) (t : Bool) → op_asked doing.Irrevocable att t ≡ None → att ≡ None
irrevocable_asked None t e = refl
irrevocable_asked (Some a) t e = absurd (cc)

unstopped : (b : Bool) → (b ≡ true → ⊥) → b ≡ false
unstopped true h = absurd (h refl)
unstopped false h = refl

abbrev pub UsedUp : Result Access Stop → Access → Type 0
UsedUp r a = (r ≡ Err SequenceUsedUp → stops a ≡ true) × (stops a ≡ true → r ≡ Err SequenceUsedUp)

pub ok_access : (r : Result Access Stop) (a b : Access) → b ≡ a → IfOk r (λ x. x ≡ a) → UsedUp r a → IfOk r (λ x. (x ≡ b) × (stops x ≡ false))
ok_access (Ok x) a b e h u = (h ∙ sym e, unstopped (stops x) (λ s. let t : stops a ≡ true = sym (ap stops h) ∙ s in let z = u.1 t in cc))
ok_access (Err w) a b e h u = tt

pub used_up_at : (r : Result Access Stop) (a b : Access) → b ≡ a → UsedUp r a → UsedUp r b
used_up_at r a b e u = (λ h. ap stops e ∙ u.0 h, λ h. u.1 (sym (ap stops e) ∙ h))

pub saved_same : (c : Configuration) (rs : List ℕ) (n p : ℕ) → rs ≡ c.registers → n ≡ suc (length c.frames) → p ≡ c.place → record { registers = rs; frames = n; place = p } ≡ saved_in c
saved_same c rs n p a b d =
    ap (λ (x : List ℕ). let s : Saved = record { registers = x; frames = n; place = p } in s) a ∙ ap (λ (x : ℕ). let s : Saved = record { registers = c.registers; frames = x; place = p } in s) b ∙ ap (λ (x : ℕ). let s : Saved = record { registers = c.registers; frames = suc (length c.frames); place = x } in s) d

pub asks_pure : (att : Option (Attempt Configuration)) (th : Thread Configuration) (d : Configuration) → th.status ≡ Running → asks_by th att (Pure d) ≡ None
asks_pure None th d e = ap (λ (s : Status). asks_outside {C = Configuration} s (Pure d)) e
asks_pure (Some a) th d e = refl

asks_print : (att : Option (Attempt Configuration)) (th : Thread Configuration) (p : List ℕ) (d : Configuration) → th.status ≡ Running → asks_by th att (Print p d) ≡ None
asks_print None th p d e = ap (λ (s : Status). asks_outside {C = Configuration} s (Print p d)) e
asks_print (Some a) th p d e = refl

module _ (code : Code) (k : PlainContext) (running : k.status ≡ Running) where
  abbrev c : Configuration
  c = k.configuration

  no_op : (o : Op) → asks (effect code) (machine_thread k) ≡ Some o → asks (effect code) (machine_thread k) ≡ None → ⊥
  no_op o e h = let z : Some o ≡ None = sym e ∙ h in cc

  pure_asks : (d : Configuration) → effect code c ≡ Pure d → asks (effect code) (machine_thread k) ≡ None
  pure_asks d e = ap (asks_by (machine_thread k) (machine_thread k).attempt) e ∙ asks_pure (machine_thread k).attempt (machine_thread k) d running

  print_asks : (p : List ℕ) (d : Configuration) → effect code c ≡ Print p d → asks (effect code) (machine_thread k) ≡ None
  print_asks p d e = ap (asks_by (machine_thread k) (machine_thread k).attempt) e ∙ asks_print (machine_thread k).attempt (machine_thread k) p d running

  -- the core was asked
  pub ready_operation : (r : Result Access Stop) (o : Op) (x : Doing) (new : CoreState) (rd : Ready) → IsDoingAt code c x → op_asked x k.core.attempt k.trapping ≡ Some o → rd.asked ≡ new.asked → rd.saved ≡ new.saved →
      OnOk r (new.asked ≡ Some o) → (o ≡ op.Begin → OnOk r (new.saved ≡ saved_in c)) → OnOk r (IsReady code (machine_thread k) rd)
  ready_operation (Err w) o x new rd t e a b p q = tt
  ready_operation (Ok y) o x new rd t e a b p q =
      let asked : asks (effect code) (machine_thread k) ≡ Some o = asks_is code k running x t ∙ e in
      record {
        asked = λ z h. a ∙ p ∙ sym asked ∙ h;
        saved = λ h. let same : o ≡ op.Begin = let z : Some o ≡ Some op.Begin = sym asked ∙ h in cc in b ∙ q same;
        call = λ h. absurd (no_op o asked (pure_asks h.3 h.5));
        print = λ z d h. absurd (no_op o asked (print_asks z d h));
      }

  pub access_operation : (x : Doing) (o : Op) → IsDoingAt code c x → op_asked x k.core.attempt k.trapping ≡ Some o → access (effect code) (machine_thread k) ≡ core_access k.core.attempt o
  access_operation x o t e = access_is code k o (asks_is code k running x t ∙ e)

-- a thread as its contracts see it, and what it keeps
module _ (code : Code) (k : PlainContext) (th : Thread Configuration) (is : machine_thread k ≡ th) where
  pub runs_of : AreWithin k.configuration (begins_of k.core.attempt) → k.status ≡ Running → IsThreadOf code th → RunsInContext code k
  runs_of w s t = subst (ContextWith code k) s (context_of code k w (subst (IsThreadOf code) (sym is) t))

  none_by : (s : Status) → (s ≡ Running → ⊥) → ContextWith code k s → k.core.attempt ≡ None
  none_by Running ne h = absurd (ne refl)
  none_by HasEnded ne h = h
  none_by (HasTrapped cause) ne h = h

  module _ (w : AreWithin k.configuration (begins_of k.core.attempt)) (over : k.status ≡ Running → ⊥) (t : IsThreadOf code th) where
    is_context : IsContextOf code k
    is_context = context_of code k w (subst (IsThreadOf code) (sym is) t)

    none : k.core.attempt ≡ None
    none = none_by k.status over is_context

    pub over_makes : (y : Answer) → (machine_thread k ≡ (step_with (effect code) th y).thread) × (event.Quiet ≡ (step_with (effect code) th y).event)
    over_makes y =
        let m = work_over code k y none over is_context in
        (m.thread ∙ ap (λ (z : Thread Configuration). (step_with (effect code) z y).thread) is, m.event ∙ ap (λ (z : Thread Configuration). (step_with (effect code) z y).event) is)

    out_local : (s : Status) (x : Effect Configuration) → (s ≡ Running → ⊥) → outside_access s x ≡ Local
    out_local Running x ne = absurd (ne refl)
    out_local HasEnded x ne = refl
    out_local (HasTrapped cause) x ne = refl

    pub over_local : access (effect code) th ≡ Local
    over_local = ap (access (effect code)) (sym is) ∙ ap (λ (z : Option (Attempt Saved)). access_of (machine_thread k) (shown_from k.configuration z) (effect code k.configuration)) none ∙ out_local k.status (effect code k.configuration) over

    pub over_shown : access (effect code) (machine_thread k) ≡ Local
    over_shown = ap (access (effect code)) is ∙ over_local

pub used_up_never : (x a : Access) → a ≡ Local → UsedUp (Ok x) a
used_up_never x a e = (λ h. cc, λ h. let z : stops a ≡ false = ap stops e in cc)

-- a thread at its beginning
pub new_thread_of : (code : Code) → IsValid code → (k : PlainContext) (t : ℕ) → t < 2 ^ 32 → k.configuration ≡ beginning code t → k.core.attempt ≡ None → k.status ≡ Running → IsThreadOf code (machine_thread k)
new_thread_of code valid k t lt c a s =
    thread_of code valid k (subst (ContextWith code k) (sym s) (record {
      stands = subst (λ (z : Configuration). MayStand code z (begins_of k.core.attempt)) (sym c) (subst (λ (z : Option (Attempt Saved)). MayStand code (beginning code t) (begins_of z)) (sym a) ((begins_stay_open code valid).none_yet t lt));
      words = subst GivesWordsIf (sym a) tt;
    }))

pub ended_over : (s : Status) → s ≡ HasEnded → s ≡ Running → ⊥
ended_over s e f = cc

pub trapped_over : (s : Status) (cause : Trap) → s ≡ HasTrapped cause → s ≡ Running → ⊥
trapped_over s cause e f = cc

holds_is : (b : Bool) (q : Phase) → holds_lock b q ≡ has_lock b q
holds_is true AtOperation = refl
holds_is false AtOperation = refl
holds_is b q = refl

-- what a core says of the lock is what the machine's thread does
pub lock_shown : (c : Configuration) (att : Option (Attempt Saved)) → core_has_lock att ≡ attempt_has_lock (shown_from c att)
lock_shown c None = refl
lock_shown c (Some a) = holds_is a.kept a.phase
