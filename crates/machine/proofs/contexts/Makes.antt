-- Each step of a thread's context makes the machine's step.
use Rattle.std.proofs.Common.{◌≡◌, ◌≢◌, true, false, List, [], ◌∷◌, ◌++◌, Option, None, Some, refl, sym, ◌∙◌, ap, subst}
use Rattle.std.specs.Prelude.{IfSome}
use Rattle.syntax.specs.declared.thread_end.Status.{Status}
use Rattle.syntax.specs.declared.thread_end.Status.TheVariants.{Running, Ended as HasEnded, Trapped as HasTrapped}
use Rattle.nesting.specs.Begins.{Saved}
use Rattle.bytecode.specs.Effects.{Effect}
use Rattle.bytecode.specs.Effects.Effect.{Pure, Print, Commit, Cancel, CancelOuter, End}
use Rattle.bytecode.specs.Code.{Code, Configuration, effect}
use Rattle.frames.specs.Open.{MayStand, AreRestored, begin_configuration, saved_in, BeginsStayOpen, CanRestore}
use Rattle.norec_core.specs.declared.step.Op.{Op}
use Rattle.norec_core.specs.declared.step.Op.TheVariants as op
use Rattle.norec_core.specs.declared.step.OpOutcome.{OpOutcome}
use Rattle.norec_core.specs.declared.step.OpOutcome.TheVariants as outcome
use Rattle.norec_core.specs.declared.step.Answer.{Answer}
use Rattle.norec_core.specs.Attempts.{Attempt, Completed}
use Rattle.norec_core.specs.Phases.{CoreStep, core_step, core_access}
use Rattle.norec_core.specs.Saved.{if_some, core_step_as}
use Rattle.machine.specs.declared.event.Event.{Event}
use Rattle.machine.specs.Threads.{Thread, Next, step_with, resume_next, resume, status_after, commit_event, done_event, event_of}
use Rattle.machine.specs.Standing.{begins_of, GivesWordsIf}
use Rattle.machine.specs.States.{asks_by}
use Rattle.machine.specs.inner.Contexts.{PlainContext, shown_from, machine_thread, AreWithin, RunsInContext, ContextWith, back_done, back_by, MayGoBack, event_by, event_done, commit_told, Makes}
use Rattle.machine.proofs.contexts.Operations.{Does, is_cancel, is_plain, cancels_so, plain_stays, tells_commit, WritesWord, does}
use Rattle.machine.proofs.contexts.Operations.Does.{goes, reads, works, begins, commits, cancels, drops, releases}
use Rattle.machine.proofs.contexts.Seen.{agree}
use Rattle.machine.proofs.contexts.Steps.{Matches, matches, told_asked, core_shown, Leaves, leaves}
use Rattle.machine.proofs.contexts.Words.{FitsRegister}

module _ (x : Effect Configuration) (o : Op) (q : Matches x o) where
  -- only a cancel goes back where it is done
  no_back : (y : Effect Configuration) (b : Configuration) → Matches y o → is_cancel o ≡ false → back_done y b ≡ None
  no_back Cancel b m h = let z : is_cancel o ≡ true = ap is_cancel m in absurd (cc)
  no_back (CancelOuter levels) b m h = let z : is_cancel o ≡ true = ap is_cancel m in absurd (cc)
  no_back y b m h = refl

  is_back : (y : Effect Configuration) (b : Configuration) → Matches y o → is_cancel o ≡ true → back_done y b ≡ Some b
  is_back Cancel b m h = refl
  is_back (CancelOuter levels) b m h = refl
  is_back (Pure c) b m h = absurd m
  is_back (Print p c) b m h = absurd m
  is_back End b m h = absurd m
  is_back y b m h = let z : is_cancel o ≡ false = ap is_cancel m in absurd (cc)

  no_commit : (y : Effect Configuration) (att : Option (Attempt Saved)) (z : Option Completed) → Matches y o → o ≢ op.Commit → event_done y att ≡ done_event y z
  no_commit (Commit c) att z m h = absurd (h m)
  no_commit y att z m h = refl

  commit_tells : (att : Option (Attempt Saved)) (z : Option Completed) → tells_commit att z → commit_told att ≡ commit_event z
  commit_tells None None h = absurd (h refl)
  commit_tells None (Some r) h = refl
  commit_tells (Some a) z h = ap commit_event (sym h)

  is_commit : (y : Effect Configuration) (att : Option (Attempt Saved)) (z : Option Completed) → Matches y o → tells_commit att z → o ≡ op.Commit → event_done y att ≡ done_event y z
  is_commit (Commit c) att z m t h = commit_tells att z t
  is_commit y att z m t h = refl

  module _ (c : Configuration) (s : Saved) (ss : List Saved) (n : CoreStep Saved) (saved : Saved) where
    backs_at : (r : OpOutcome) (b : Option Saved) → n.outcome ≡ r → n.back ≡ b → back_by x r (begin_configuration c saved) ≡ if_some (begin_configuration c) b → back_by x n.outcome (begin_configuration c saved) ≡ if_some (begin_configuration c) n.back
    backs_at r b e f h = ap (λ (z : OpOutcome). back_by x z (begin_configuration c saved)) e ∙ h ∙ sym (ap (if_some (begin_configuration c)) f)

    same_saved : (t : Saved) → n.back ≡ Some t → IfSome n.back (λ z. saved ≡ z) → saved ≡ t
    same_saved t e h = subst (λ (z : Option Saved). IfSome z (λ w. saved ≡ w)) e h

    -- what the core set aside is what the step goes back to
    pub backs : Does s ss o n → IfSome n.back (λ z. saved ≡ z) → back_by x n.outcome (begin_configuration c saved) ≡ if_some (begin_configuration c) n.back
    backs (goes e f b w) h = backs_at outcome.Going None e f refl
    backs (reads v r lt e f b w) h = backs_at (outcome.Read v) None e f refl
    backs (works r e f b w) h = backs_at outcome.Done None e f (no_back x (begin_configuration c saved) q (plain_stays o r))
    backs (begins r e f b w) h = backs_at outcome.Done None e f (no_back x (begin_configuration c saved) q (ap is_cancel r))
    backs (commits t r e f b w d) h = backs_at outcome.Done None e f (no_back x (begin_configuration c saved) q (ap is_cancel r))
    backs (cancels inner t r e f b w) h = backs_at outcome.Done (Some t) e f (is_back x (begin_configuration c saved) q (cancels_so o _ _ r) ∙ ap (λ (z : Saved). Some (begin_configuration c z)) (same_saved t f h))
    backs (drops inner t e f b a) h = backs_at outcome.Aborted (Some t) e f (ap (λ (z : Saved). Some (begin_configuration c z)) (same_saved t f h))
    backs (releases r e f a) h = backs_at outcome.Done None e f (no_back x (begin_configuration c saved) q (ap is_cancel r))

    events_at : (r : OpOutcome) → n.outcome ≡ r → event_by x r n.attempt ≡ event_of x r n.completed → event_by x n.outcome n.attempt ≡ event_of x n.outcome n.completed
    events_at r e h = ap (λ (z : OpOutcome). event_by x z n.attempt) e ∙ h ∙ sym (ap (λ (z : OpOutcome). event_of x z n.completed) e)

    pub events : Does s ss o n → event_by x n.outcome n.attempt ≡ event_of x n.outcome n.completed
    events (goes e f b w) = events_at outcome.Going e refl
    events (reads v r lt e f b w) = events_at (outcome.Read v) e refl
    events (works r e f b w) = events_at outcome.Done e (no_commit x n.attempt n.completed q (λ g. let z : is_plain o ≡ false = ap is_plain g in cc))
    events (begins r e f b w) = events_at outcome.Done e (no_commit x n.attempt n.completed q (λ g. cc))
    events (commits t r e f b w d) = events_at outcome.Done e (is_commit x n.attempt n.completed q d r)
    events (cancels inner t r e f b w) = events_at outcome.Done e (no_commit x n.attempt n.completed q (λ g. let y : is_cancel o ≡ true = cancels_so o _ _ r in let z : is_cancel o ≡ false = ap is_cancel g in cc))
    events (drops inner t e f b a) = events_at outcome.Aborted e refl
    events (releases r e f a) = events_at outcome.Done e (no_commit x n.attempt n.completed q (λ g. cc))

pub same_thread : (a b : Thread Configuration) → a.configuration ≡ b.configuration → a.attempt ≡ b.attempt → a.trapping ≡ b.trapping → a.text ≡ b.text → a.status ≡ b.status → a ≡ b
same_thread a b c d e f g =
    ap (λ z. record { configuration = z; attempt = a.attempt; trapping = a.trapping; text = a.text; status = a.status }) c
    ∙ ap (λ z. record { configuration = b.configuration; attempt = z; trapping = a.trapping; text = a.text; status = a.status }) d
    ∙ ap (λ z. record { configuration = b.configuration; attempt = b.attempt; trapping = z; text = a.text; status = a.status }) e
    ∙ ap (λ z. record { configuration = b.configuration; attempt = b.attempt; trapping = b.trapping; text = z; status = a.status }) f
    ∙ ap (λ z. record { configuration = b.configuration; attempt = b.attempt; trapping = b.trapping; text = b.text; status = z }) g

pub context_same : (code : Code) (k l : PlainContext) (s : Status) → k.configuration ≡ l.configuration → k.core.attempt ≡ l.core.attempt → ContextWith code k s → ContextWith code l s
context_same code k l Running c a r = record {
  stands = subst (λ (z : Configuration). MayStand code z (begins_of l.core.attempt)) c (subst (λ (z : Option (Attempt Saved)). MayStand code k.configuration (begins_of z)) a r.stands);
  words = subst GivesWordsIf a r.words;
}
context_same code k l HasEnded c a r = sym a ∙ r
context_same code k l (HasTrapped cause) c a r = sym a ∙ r

module _ (code : Code) (law : BeginsStayOpen code) where
  -- the thread after an operation's step
  pub record Resumes (k l : PlainContext) (r : OpOutcome) (e : Event) : Type 0 where
    pub configuration : l.configuration ≡ resume (effect code) (effect code k.configuration) k.configuration r (back_by (effect code k.configuration) r (begin_configuration k.configuration l.core.saved))
    pub status : l.status ≡ status_after r (effect code k.configuration) k.status
    pub trapping : l.trapping ≡ false
    pub text : l.text ≡ k.text
    pub event : e ≡ event_by (effect code k.configuration) r l.core.attempt

  module _ (k : PlainContext) (o : Op) (y : Answer) (running : k.status ≡ Running) (runs : RunsInContext code k) (asked : asks_by (machine_thread k) (machine_thread k).attempt (effect code k.configuration) ≡ Some o)
      (same : o ≡ op.Begin → k.core.saved ≡ saved_in k.configuration) (writes : WritesWord o) (word : FitsRegister (core_access k.core.attempt o) y) where
    abbrev c : Configuration
    c = k.configuration

    abbrev x : Effect Configuration
    x = effect code c

    abbrev n : CoreStep Saved
    n = core_step k.core.saved k.core.attempt o y

    m : Matches x o
    m = matches (machine_thread k) (machine_thread k).attempt x o asked

    d : Does k.core.saved (begins_of k.core.attempt) o n
    d = does k.core.saved k.core.attempt o y runs.words writes word

    left : Leaves code c x n.outcome n.attempt (resume (effect code) x c n.outcome (if_some (begin_configuration c) n.back)) (status_after n.outcome x Running)
    left = leaves code law c (begins_of k.core.attempt) runs.stands k.core.saved o n same x refl m d

    step_is : step_with (effect code) (machine_thread k) y ≡ resume_next (effect code) (machine_thread k) x (core_step_as (begin_configuration c) n)
    step_is = told_asked (effect code) (machine_thread k) y (machine_thread k).attempt x o asked ∙ ap (resume_next (effect code) (machine_thread k) x) (core_shown c k.core.saved k.core.attempt o y same)

    -- what may be gone back to can be restored
    go_back : (s : Saved) → IfSome n.back (λ z. s ≡ z) → MayGoBack code c s (back_by x n.outcome (begin_configuration c s))
    go_back s h = subst (MayGoBack code c s) (sym (backs x o m c k.core.saved (begins_of k.core.attempt) n s d h)) (at d)
      where
        open_at : (inner : List Saved) (t : Saved) (outer : List Saved) → begins_of k.core.attempt ≡ inner ++ t ∷ outer → n.back ≡ Some t → MayGoBack code c s (if_some (begin_configuration c) n.back)
        open_at inner t outer e f =
            let g = law.goes_back c inner t outer (subst (MayStand code c) e runs.stands) in
            let u : t ≡ s = sym (subst (λ (z : Option Saved). IfSome z (λ w. s ≡ w)) f h) in
            subst (λ (z : Option Saved). MayGoBack code c s (if_some (begin_configuration c) z)) (sym f) (subst (λ (z : Saved). CanRestore c z) u g.2, (outer, subst (λ (z : Saved). MayStand code (begin_configuration c z) outer) u g.0))

        none : n.back ≡ None → MayGoBack code c s (if_some (begin_configuration c) n.back)
        none f = subst (λ (z : Option Saved). MayGoBack code c s (if_some (begin_configuration c) z)) (sym f) tt

        at : Does k.core.saved (begins_of k.core.attempt) o n → MayGoBack code c s (if_some (begin_configuration c) n.back)
        at (goes e f b w) = none f
        at (reads v r lt e f b w) = none f
        at (works r e f b w) = none f
        at (begins r e f b w) = none f
        at (commits t r e f b w z) = none f
        at (cancels inner t r e f b w) = open_at inner t (begins_of n.attempt) b f
        at (drops inner t e f b a) = open_at inner t [] b f
        at (releases r e f a) = none f

    pub may_go_back : (r : OpOutcome) (s : Saved) → r ≡ n.outcome → IfSome n.back (λ z. s ≡ z) → MayGoBack code c s (back_by x r (begin_configuration c s))
    may_go_back r s e h = subst (λ (z : OpOutcome). MayGoBack code c s (back_by x z (begin_configuration c s))) (sym e) (go_back s h)

    -- a step of the core makes the machine's step
    pub core_makes : (l : PlainContext) (r : OpOutcome) (e : Event) → r ≡ n.outcome → l.core.attempt ≡ n.attempt → IfSome n.back (λ z. l.core.saved ≡ z) → Resumes k l r e → Makes code (step_with (effect code) (machine_thread k) y) l e
    core_makes l r e er ea eb z =
        let b = backs x o m c k.core.saved (begins_of k.core.attempt) n l.core.saved d eb in
        let to : l.configuration ≡ resume (effect code) x c n.outcome (if_some (begin_configuration c) n.back) =
        z.configuration ∙ ap (λ (t : OpOutcome). resume (effect code) x c t (back_by x t (begin_configuration c l.core.saved))) er ∙ ap (resume (effect code) x c n.outcome) b in
        let st : l.status ≡ status_after n.outcome x Running = z.status ∙ ap (λ (t : OpOutcome). status_after t x k.status) er ∙ ap (status_after n.outcome x) running in
        let back : AreRestored c l.configuration (begins_of l.core.attempt) =
        subst (λ (t : Configuration). AreRestored c t (begins_of l.core.attempt)) (sym to) (subst (λ (t : Option (Attempt Saved)). AreRestored c (resume (effect code) x c n.outcome (if_some (begin_configuration c) n.back)) (begins_of t)) (sym ea) left.restored) in
        let att : shown_from l.configuration l.core.attempt ≡ shown_from c n.attempt = agree (begin_configuration l.configuration) (begin_configuration c) l.core.attempt back ∙ ap (shown_from c) ea in
        let ev : e ≡ event_of x n.outcome n.completed =
        z.event ∙ ap (λ (t : OpOutcome). event_by x t l.core.attempt) er ∙ ap (event_by x n.outcome) ea ∙ events x o m c k.core.saved (begins_of k.core.attempt) n l.core.saved d in
        record {
          thread = same_thread (machine_thread l) (resume_next (effect code) (machine_thread k) x (core_step_as (begin_configuration c) n)).thread to att z.trapping z.text (z.status ∙ ap (λ (t : OpOutcome). status_after t x k.status) er) ∙ sym (ap (λ (t : Next Configuration). t.thread) step_is);
          event = ev ∙ sym (ap (λ (t : Next Configuration). t.event) step_is);
          of = subst (ContextWith code l) (sym st) (context_same code (record { configuration = resume (effect code) x c n.outcome (if_some (begin_configuration c) n.back); core = record { attempt = n.attempt; asked = None; saved = saved_in c; read_room = 0; write_room = 0 }; trapping = false; text = []; status = status_after n.outcome x Running }) l (status_after n.outcome x Running) (sym to) (sym ea) left.stands);
          within = subst (λ (t : Configuration). AreWithin t (begins_of l.core.attempt)) (sym to) (subst (λ (t : Option (Attempt Saved)). AreWithin (resume (effect code) x c n.outcome (if_some (begin_configuration c) n.back)) (begins_of t)) (sym ea) left.within);
        }
