-- So many instructions that work on registers and frames are as many local steps of the machine.
use Rattle.std.proofs.Common.{◌≡◌, ◌≢◌, ◌+◌, ℕ, Bool, false, zero, suc, true, [], Option, None, Some, refl, sym, ◌∙◌, ap, subst}
use Rattle.syntax.specs.declared.thread_end.Status.TheVariants.{Running}
use Rattle.nesting.specs.Begins.{Saved}
use Rattle.bytecode.specs.Effects.{Effect}
use Rattle.bytecode.specs.Effects.Effect.{Pure}
use Rattle.bytecode.specs.Code.{Code, Configuration, effect}
use Rattle.local_steps.specs.Local.{after_local, pure_of, then_pure}
use Rattle.frames.specs.Open.{MayStand, AreRestored, begin_configuration, BeginsStayOpen}
use Rattle.std.specs.Prelude.{IfSome, if◌then◌else◌}
use Rattle.frames.specs.declared.doing.Doing.{Doing}
use Rattle.norec_core.specs.Phases.{core_step}
use Rattle.frames.specs.Doings.{IsDoingAt}
use Rattle.norec_core.specs.declared.step.Op.{Op}
use Rattle.norec_core.specs.declared.step.Op.TheVariants as op
use Rattle.norec_core.specs.declared.step.Access.{Access}
use Rattle.norec_core.specs.declared.step.OpOutcome.{OpOutcome}
use Rattle.norec_core.specs.declared.step.OpOutcome.TheVariants as outcome
use Rattle.norec_core.specs.declared.step.Answer.TheVariants.{Done}
use Rattle.norec_core.specs.Cores.{IsDoneLocally}
use Rattle.norec_core.specs.Attempts.{Attempt}
use Rattle.machine.specs.Answered.{StepsHearing, is_local}
use Rattle.machine.specs.Threads.{Thread, Next, access, access_of, resume, status_after, step_with, told_of}
use Rattle.machine.specs.States.{asks}
use Rattle.machine.specs.Standing.{begins_of, GivesWordsIf}
use Rattle.machine.specs.inner.Contexts.{PlainContext, shown_from, machine_thread, RunsInContext, ContextWith, Advances, Makes, back_by, event_by, op_asked, op_by}
use Rattle.machine.proofs.contexts.Asking.{access_is, access_none, asks_is, writes_word}
use Rattle.machine.proofs.contexts.Calls.{asks_pure}
use Rattle.machine.proofs.contexts.Makes.{core_makes, same_thread}
use Rattle.machine.proofs.contexts.Seen.{agree, within}
use Rattle.machine.proofs.contexts.Work.{told_pure}
use Rattle.machine.proofs.contexts.Words.{FitsRegister}

pure_is : (x : Effect Configuration) (d : Configuration) → pure_of x ≡ Some d → x ≡ Pure d
pure_is (Pure e) d h = let same : e ≡ d = cc in ap (λ (z : Configuration). Pure z) same
pure_is x d h = absurd (cc)

module _ (code : Code) (th : Thread Configuration) (running : th.status ≡ Running) where
  -- the thread in a configuration
  abbrev in_it : Configuration → Thread Configuration
  in_it d = record th { configuration = d }

  one_local : (d e : Configuration) → effect code d ≡ Pure e → is_local (access (effect code) (in_it d)) ≡ true
  one_local d e h = ap is_local (ap (access_of (in_it d) th.attempt) h ∙ access_none (in_it d) th.attempt (Pure e) (asks_pure th.attempt (in_it d) e running))

  one_told : (d e : Configuration) → effect code d ≡ Pure e → (step_with (effect code) (in_it d) Done).thread ≡ in_it e
  one_told d e h = ap (λ (n : Next Configuration). n.thread) (ap (λ (x : Effect Configuration). told_of (effect code) (in_it d) th.attempt x Done) h ∙ told_pure (effect code) (in_it d) Done running th.attempt e)

  then_one : (n : ℕ) (d : Configuration) (o : Option Configuration) → ((e : Configuration) → o ≡ Some e → StepsHearing (effect code) th n [] (in_it e)) → then_pure code o ≡ Some d → StepsHearing (effect code) th (suc n) [] (in_it d)
  then_one n d None before h = absurd (cc)
  then_one n d (Some e) before h =
      let p : effect code e ≡ Pure d = pure_is (effect code e) d h in
      subst (λ (t : Thread Configuration). StepsHearing (effect code) th (suc n) [] t) (one_told e d p) (StepsHearing.local_more n [] (in_it e) (before e refl) (one_local e d p))

  pub replays_local : (n : ℕ) (d : Configuration) → after_local code n th.configuration ≡ Some d → StepsHearing (effect code) th n [] (in_it d)
  replays_local zero d h = let same : th.configuration ≡ d = cc in subst (λ (c : Configuration). StepsHearing (effect code) th zero [] (in_it c)) same StepsHearing.none
  replays_local (suc n) d h = then_one n d (after_local code n th.configuration) (λ e q. replays_local n e q) h

module _ (code : Code) (law : BeginsStayOpen code) where
  -- so a thread that makes them in its frames makes the machine's steps
  module _ (k l : PlainContext) (n : ℕ) (running : k.status ≡ Running) (runs : RunsInContext code k) (steps : after_local code n k.configuration ≡ Some l.configuration)
      (al : l.core.attempt ≡ k.core.attempt) (tl : l.trapping ≡ k.trapping) (xl : l.text ≡ k.text) (sl : l.status ≡ k.status) where
    stay : MayStand code l.configuration (begins_of k.core.attempt) × AreRestored k.configuration l.configuration (begins_of k.core.attempt)
    stay = law.steps n k.configuration l.configuration (begins_of k.core.attempt) runs.stands steps

    stand : MayStand code l.configuration (begins_of l.core.attempt)
    stand = subst (λ (z : Option (Attempt Saved)). MayStand code l.configuration (begins_of z)) (sym al) stay.0

    leads : StepsHearing (effect code) (machine_thread k) n [] (machine_thread l)
    leads =
        let att : shown_from l.configuration l.core.attempt ≡ shown_from k.configuration k.core.attempt = ap (shown_from l.configuration) al ∙ agree (begin_configuration l.configuration) (begin_configuration k.configuration) k.core.attempt stay.1 in
        subst (λ (t : Thread Configuration). StepsHearing (effect code) (machine_thread k) n [] t) (sym (same_thread (machine_thread l) (record (machine_thread k) { configuration = l.configuration }) refl att tl xl sl)) (replays_local code (machine_thread k) running n l.configuration steps)

    pub advances : Advances code k n l
    advances = record {
      steps = leads;
      of = subst (ContextWith code l) (sym (sl ∙ running)) (record { stands = stand; words = subst GivesWordsIf (sym al) runs.words });
      within = within code law l.configuration (begins_of l.core.attempt) stand;
    }

-- a call or a return, by what the frames say of it
pub passed : (code : Code) (law : BeginsStayOpen code) (k : PlainContext) (d : Configuration) (b : Bool) → k.status ≡ Running → RunsInContext code k → (b ≡ true → effect code k.configuration ≡ Pure d) → (b ≡ false → d ≡ k.configuration)
    → Advances code k (if b then 1 else 0) (record k { configuration = d })
passed code law k d true running runs p s = advances code law k (record k { configuration = d }) 1 running runs (ap pure_of (p refl)) refl refl refl refl
passed code law k d false running runs p s = advances code law k (record k { configuration = d }) 0 running runs (ap Some (sym (s refl))) refl refl refl refl

-- a step of the core without an access, in which the operation is done and the thread goes one place further
module _ (code : Code) (law : BeginsStayOpen code) (k l : PlainContext) (o : Op) (r : OpOutcome) (x : Doing) (e : Effect Configuration) (running : k.status ≡ Running) (runs : RunsInContext code k) (t : IsDoingAt code k.configuration x)
    (asked : op_asked x k.core.attempt k.trapping ≡ Some o) (other : o ≢ op.Begin) (once : IsDoneLocally k.core o r l.core) (is : effect code k.configuration ≡ e) where
  pub advances_once : l.configuration ≡ resume (effect code) e k.configuration r (back_by e r (begin_configuration k.configuration l.core.saved)) → l.status ≡ status_after r e k.status → l.trapping ≡ false → l.text ≡ k.text → Advances code k 1 l
  advances_once to status trapping text =
      let x_is : asks (effect code) (machine_thread k) ≡ Some o = asks_is code k running x t ∙ asked in
      let c : Configuration = k.configuration in
      let makes : Makes code (step_with (effect code) (machine_thread k) Done) l (event_by (effect code c) r l.core.attempt) =
      core_makes code law k o Done running runs x_is (λ h. absurd (other h)) (writes_word code c x k.core.attempt k.trapping o t asked) (subst (λ (y : Access). FitsRegister y Done) (sym once.access) tt) l r _ (sym once.outcome) once.attempt
      (subst (λ (z : Option Saved). IfSome z (λ s. l.core.saved ≡ s)) (sym once.back) tt)
      (record {
        configuration = to ∙ ap (λ (y : Effect Configuration). resume (effect code) y c r (back_by y r (begin_configuration c l.core.saved))) (sym is);
        status = status ∙ ap (λ (y : Effect Configuration). status_after r y k.status) (sym is);
        trapping = trapping;
        text = text;
        event = refl;
      }) in
      record {
        steps = subst (λ (th : Thread Configuration). StepsHearing (effect code) (machine_thread k) 1 [] th) (sym makes.thread) (StepsHearing.local_more 0 [] (machine_thread k) StepsHearing.none (ap is_local (access_is code k o x_is ∙ once.access)));
        of = makes.of;
        within = makes.within;
      }

-- what is done at once, and would go on outside attempts, is asked for in one
pub once_asked : (x : Doing) (o : Op) (r : OpOutcome) (now : Saved) (att : Option (Attempt Saved)) (trapping : Bool) → ((kept : Bool) → op_by x kept trapping ≡ Some o) → (core_step {S = Saved} now None o Done).outcome ≡ outcome.Going → r ≢ outcome.Going
    → (core_step now att o Done).outcome ≡ r → op_asked x att trapping ≡ Some o
once_asked x o r now None trapping by idle done e = absurd (done (sym e ∙ idle))
once_asked x o r now (Some a) trapping by idle done e = by a.kept
