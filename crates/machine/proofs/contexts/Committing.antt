-- A commit that swaps the lock and stores, and the load of an outermost begin, make the machine's steps.
use Rattle.std.proofs.Common.{◌≡◌, ℕ, Option, None, Some, refl, sym, ◌∙◌, ap, subst}
use Rattle.std.specs.Prelude.{IfSome, IsSomeAnd}
use Rattle.std.specs.List.{slice_get}
use Rattle.syntax.specs.declared.thread_end.Status.TheVariants.{Running}
use Rattle.nesting.specs.Begins.{Saved}
use Rattle.bytecode.specs.Code.{Code, Configuration, effect}
use Rattle.frames.specs.declared.doing.Doing.TheVariants as doing
use Rattle.frames.specs.Open.{begin_configuration, saved_in, BeginsStayOpen}
use Rattle.frames.specs.Doings.{IsDoingAt}
use Rattle.norec_core.specs.declared.step.Access.{Access}
use Rattle.norec_core.specs.declared.step.Access.TheVariants.{Local, LoadLock, Swap}
use Rattle.norec_core.specs.declared.step.Answer.{Answer}
use Rattle.norec_core.specs.declared.step.Answer.TheVariants.{Value}
use Rattle.norec_core.specs.declared.step.Op.TheVariants as op
use Rattle.norec_core.specs.declared.step.OpOutcome.{OpOutcome}
use Rattle.norec_core.specs.Attempts.{Attempt}
use Rattle.norec_core.specs.Phases.{CoreStep, core_access, core_step, store_access}
use Rattle.norec_core.specs.Cores.{IsStoring}
use Rattle.norec_core.proofs.Committing.{begin_keeps, store_access_is, store_is, store_keeps, swap_under}
use Rattle.machine.specs.declared.event.Event.{Event}
use Rattle.machine.specs.Threads.{access, step_with}
use Rattle.machine.specs.States.{asks}
use Rattle.machine.specs.inner.Contexts.{PlainContext, Makes, MayGoBack, RunsInContext, back_by, op_asked, machine_thread, shown_from}
use Rattle.machine.proofs.contexts.Asking.{access_is, access_local, asks_is}
use Rattle.machine.proofs.contexts.Makes.{Resumes, core_makes, may_go_back}
use Rattle.machine.proofs.contexts.Reading.{some_and}
use Rattle.machine.proofs.contexts.Words.{FitsRegister}

module _ (code : Code) (law : BeginsStayOpen code) (k : PlainContext) (running : k.status ≡ Running) (runs : RunsInContext code k) (t : IsDoingAt code k.configuration doing.Commit) where
  module _ (a : Attempt Saved) (under : k.core.attempt ≡ Some a) where
    asked : asks (effect code) (machine_thread k) ≡ Some op.Commit
    asked = asks_is code k running doing.Commit t ∙ ap (λ (z : Option (Attempt Saved)). op_asked doing.Commit z k.trapping) under

    pub commit_access_is : access (effect code) (machine_thread k) ≡ core_access k.core.attempt op.Commit
    commit_access_is = access_is code k op.Commit asked

    module _ (y : Answer) (word : FitsRegister (core_access k.core.attempt op.Commit) y) where
      abbrev n : CoreStep Saved
      n = core_step k.core.saved k.core.attempt op.Commit y

      pub commit_back : (s : Saved) (r : OpOutcome) → r ≡ n.outcome → IfSome n.back (λ z. s ≡ z) → MayGoBack code k.configuration s (back_by (effect code k.configuration) r (begin_configuration k.configuration s))
      commit_back s r e h = may_go_back code law k op.Commit y running runs asked (λ z. absurd (cc)) tt word r s e h

      pub commit_makes : (l : PlainContext) (r : OpOutcome) (e : Event) → r ≡ n.outcome → l.core.attempt ≡ n.attempt → IfSome n.back (λ z. l.core.saved ≡ z) → Resumes code law k l r e → Makes code (step_with (effect code) (machine_thread k) y) l e
      commit_makes l r e er ea eb z = core_makes code law k op.Commit y running runs asked (λ h. absurd (cc)) tt word l r e er ea eb z

  -- the swap
  module _ (from : ℕ) (swaps : core_access k.core.attempt op.Commit ≡ Swap from) where
    swapping : (a : Attempt Saved) × (k.core.attempt ≡ Some a)
    swapping = swap_under k.core.attempt from swaps

    swap_word : (y : Answer) → FitsRegister (core_access k.core.attempt op.Commit) y
    swap_word y = subst (λ (x : Access). FitsRegister x y) (sym swaps) tt

    pub swap_back : (y : Answer) (s : Saved) (r : OpOutcome) → r ≡ (core_step k.core.saved k.core.attempt op.Commit y).outcome → IfSome (core_step k.core.saved k.core.attempt op.Commit y).back (λ z. s ≡ z) → MayGoBack code k.configuration s (back_by (effect code k.configuration) r (begin_configuration k.configuration s))
    swap_back y = commit_back swapping.0 swapping.1 y (swap_word y)

    pub swap_makes : (y : Answer) (l : PlainContext) (r : OpOutcome) (e : Event) → r ≡ (core_step k.core.saved k.core.attempt op.Commit y).outcome → l.core.attempt ≡ (core_step k.core.saved k.core.attempt op.Commit y).attempt → IfSome (core_step k.core.saved k.core.attempt op.Commit y).back (λ z. l.core.saved ≡ z) → Resumes code law k l r e → Makes code (step_with (effect code) (machine_thread k) y) l e
    swap_makes y = commit_makes swapping.0 swapping.1 y (swap_word y)

  -- a thread whose commit swaps the lock has a core that does
  core_swaps_at : (from : ℕ) (o : Option (Attempt Saved)) → k.core.attempt ≡ o → access (effect code) (machine_thread k) ≡ Swap from → core_access k.core.attempt op.Commit ≡ Swap from
  core_swaps_at from None under e =
      let none = asks_is code k running doing.Commit t ∙ ap (λ (z : Option (Attempt Saved)). op_asked doing.Commit z k.trapping) under in
      let away : Local ≡ Swap from = sym (access_local code k none) ∙ e in absurd (cc)
  core_swaps_at from (Some a) under e = sym (commit_access_is a under) ∙ e

  pub core_swaps : (from : ℕ) → access (effect code) (machine_thread k) ≡ Swap from → core_access k.core.attempt op.Commit ≡ Swap from
  core_swaps from e = core_swaps_at from k.core.attempt refl e

  -- a store
  module _ (index : ℕ) (stores : IsSomeAnd k.core.attempt (λ a. IsStoring index a)) where
    storing : (a : Attempt Saved) × (k.core.attempt ≡ Some a) × IsStoring index a
    storing = some_and (λ a. IsStoring index a) k.core.attempt stores

    abbrev b : Attempt Saved
    b = storing.0

    core_stores : core_access k.core.attempt op.Commit ≡ store_access b.snapshot (slice_get b.writes index)
    core_stores = ap (λ (z : Option (Attempt Saved)). core_access z op.Commit) storing.1 ∙ store_access_is k.core.saved b index storing.2

    words_at : (snapshot : ℕ) (r : Option (ℕ × ℕ)) (y : Answer) → FitsRegister (store_access snapshot r) y
    words_at snapshot None y = tt
    words_at snapshot (Some p) y = tt

    store_word : (y : Answer) → FitsRegister (core_access k.core.attempt op.Commit) y
    store_word y = subst (λ (x : Access). FitsRegister x y) (sym core_stores) (words_at b.snapshot (slice_get b.writes index) y)

    store_stays : (y : Answer) (s : Saved) → IfSome (core_step k.core.saved k.core.attempt op.Commit y).back (λ z. s ≡ z)
    store_stays y s =
        let e = ap (λ (z : Option (Attempt Saved)). (core_step k.core.saved z op.Commit y).back) storing.1 ∙ ap (λ (n : CoreStep Saved). n.back) (store_is k.core.saved b index storing.2 y) ∙ store_keeps k.core.saved b index (slice_get b.writes index) in
        subst (λ (z : Option Saved). IfSome z (λ w. s ≡ w)) (sym e) tt

    pub store_back : (y : Answer) (s : Saved) (r : OpOutcome) → r ≡ (core_step k.core.saved k.core.attempt op.Commit y).outcome → MayGoBack code k.configuration s (back_by (effect code k.configuration) r (begin_configuration k.configuration s))
    store_back y s r e = commit_back b storing.1 y (store_word y) s r e (store_stays y s)

    pub store_makes : (y : Answer) (l : PlainContext) (r : OpOutcome) (e : Event) → r ≡ (core_step k.core.saved k.core.attempt op.Commit y).outcome → l.core.attempt ≡ (core_step k.core.saved k.core.attempt op.Commit y).attempt → Resumes code law k l r e → Makes code (step_with (effect code) (machine_thread k) y) l e
    store_makes y l r e er ea z = commit_makes b storing.1 y (store_word y) l r e er ea (store_stays y l.core.saved) z

-- an outermost begin
module _ (code : Code) (law : BeginsStayOpen code) (k : PlainContext) (to : ℕ) (running : k.status ≡ Running) (runs : RunsInContext code k) (t : IsDoingAt code k.configuration (doing.Begin to)) (none : k.core.attempt ≡ None) where
  begin_asked : asks (effect code) (machine_thread k) ≡ Some op.Begin
  begin_asked = asks_is code k running (doing.Begin to) t ∙ ap (λ (z : Option (Attempt Saved)). op_asked (doing.Begin to) z k.trapping) none

  loads : core_access k.core.attempt op.Begin ≡ LoadLock
  loads = ap (λ (z : Option (Attempt Saved)). core_access z op.Begin) none

  pub begin_access : access (effect code) (machine_thread k) ≡ LoadLock
  begin_access = access_is code k op.Begin begin_asked ∙ loads

  module _ (same : k.core.saved ≡ saved_in k.configuration) (lock : ℕ) where
    begin_word : FitsRegister (core_access k.core.attempt op.Begin) (Value lock)
    begin_word = subst (λ (x : Access). FitsRegister x (Value lock)) (sym loads) tt

    begin_stays : (s : Saved) → IfSome (core_step k.core.saved k.core.attempt op.Begin (Value lock)).back (λ z. s ≡ z)
    begin_stays s =
        let e = ap (λ (z : Option (Attempt Saved)). (core_step k.core.saved z op.Begin (Value lock)).back) none ∙ begin_keeps k.core.saved lock in
        subst (λ (z : Option Saved). IfSome z (λ w. s ≡ w)) (sym e) tt

    pub begin_back : (s : Saved) (r : OpOutcome) → r ≡ (core_step k.core.saved k.core.attempt op.Begin (Value lock)).outcome → MayGoBack code k.configuration s (back_by (effect code k.configuration) r (begin_configuration k.configuration s))
    begin_back s r e = may_go_back code law k op.Begin (Value lock) running runs begin_asked (λ z. same) tt begin_word r s e (begin_stays s)

    pub begin_makes : (l : PlainContext) (r : OpOutcome) (e : Event) → r ≡ (core_step k.core.saved k.core.attempt op.Begin (Value lock)).outcome → l.core.attempt ≡ (core_step k.core.saved k.core.attempt op.Begin (Value lock)).attempt → Resumes code law k l r e → Makes code (step_with (effect code) (machine_thread k) (Value lock)) l e
    begin_makes l r e er ea z = core_makes code law k op.Begin (Value lock) running runs begin_asked (λ h. same) tt begin_word l r e er ea (begin_stays l.core.saved) z

-- what is under way in the thread that is shown is so in the context that shows it
pub core_is_storing : (c : Configuration) (index : ℕ) (o : Option (Attempt Saved)) → IsSomeAnd (shown_from c o) (λ a. IsStoring index a) → IsSomeAnd o (λ a. IsStoring index a)
core_is_storing c index None h = absurd h
core_is_storing c index (Some a) h = h

pub core_has_none : (c : Configuration) (o : Option (Attempt Saved)) → shown_from c o ≡ None → o ≡ None
core_has_none c None e = refl
core_has_none c (Some a) e = absurd (cc)
