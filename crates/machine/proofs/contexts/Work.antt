-- The work of a context's own makes the machine's step.
use Rattle.std.proofs.Common.{◌≡◌, ℕ, Bool, true, false, List, ◌++◌, Option, None, Some, refl, sym, ◌∙◌, ap, subst}
use Rattle.std.specs.Prelude.{is_some}
use Rattle.syntax.specs.declared.thread_end.Status.{Status}
use Rattle.syntax.specs.declared.thread_end.Status.TheVariants.{Running, Ended as HasEnded, Trapped as HasTrapped}
use Rattle.syntax.specs.declared.thread_end.Trap.{Trap}
use Rattle.nesting.specs.Begins.{Saved}
use Rattle.bytecode.specs.Effects.{Effect}
use Rattle.bytecode.specs.Effects.Effect.{Pure, Print, Irrevocable, Traps, End}
use Rattle.bytecode.specs.Code.{Code, Configuration, effect}
use Rattle.frames.specs.Open.{MayStand, AreRestored, IsSuccessor, begin_configuration, BeginsStayOpen}
use Rattle.norec_core.specs.declared.step.Answer.{Answer}
use Rattle.norec_core.specs.Attempts.{Attempt}
use Rattle.norec_core.specs.Cores.{is_kept}
use Rattle.machine.specs.declared.event.Event.{Event}
use Rattle.machine.specs.declared.event.Event.TheVariants as event
use Rattle.machine.specs.Threads.{Thread, Next, step_with, told_of, told_outside, told_inside, op_of, quiet, print_inside}
use Rattle.machine.specs.Standing.{begins_of, GivesWordsIf}
use Rattle.norec_core.specs.Saved.{attempt_as}
use Rattle.machine.specs.inner.Contexts.{PlainContext, shown_from, machine_thread, AreWithin, RunsInContext, ContextWith, Makes}
use Rattle.machine.proofs.contexts.Seen.{agree, within}
use Rattle.machine.proofs.contexts.Makes.{same_thread, context_same}

abbrev traps_of : Trap → Effect Configuration
traps_of cause = Traps cause

module _ {C : Type 0} (f : C → Effect C) (th : Thread C) (y : Answer) (running : th.status ≡ Running) where
  outside_is : (x : Effect C) (n : Next C) → told_outside f th Running x y ≡ n → told_of f th None x y ≡ n
  outside_is x n e = ap (λ (s : Status). told_outside f th s x y) running ∙ e

  pub told_pure : (att : Option (Attempt C)) (d : C) → told_of f th att (Pure d) y ≡ quiet (record th { configuration = d })
  told_pure None d = outside_is (Pure d) _ refl
  told_pure (Some a) d = refl

  -- a print outside transactions, or with the lock kept
  abbrev MayPrint : Option (Attempt C) → Type 0
  MayPrint None = Unit {0}
  MayPrint (Some a) = a.kept ≡ true

  told_print : (att : Option (Attempt C)) (p : List ℕ) (d : C) → MayPrint att → told_of f th att (Print p d) y ≡ quiet (record th { configuration = d; text = th.text ++ p })
  told_print None p d m = outside_is (Print p d) _ refl
  told_print (Some a) p d m = ap (λ (b : Bool). print_inside th p d b) m

module _ (code : Code) (law : BeginsStayOpen code) (k : PlainContext) (y : Answer) (running : k.status ≡ Running) (runs : RunsInContext code k) where
  abbrev c : Configuration
  c = k.configuration

  abbrev th : Thread Configuration
  th = machine_thread k

  -- the thread goes on in its frames, and may have printed
  moved : (l : PlainContext) (d : Configuration) (t : List ℕ) (n : Next Configuration) → IsSuccessor (effect code c) d → n ≡ quiet (record th { configuration = d; text = t }) →
      l.configuration ≡ d → l.core.attempt ≡ k.core.attempt → l.trapping ≡ k.trapping → l.text ≡ t → l.status ≡ k.status → Makes code n l event.Quiet
  moved l d t n g e cl al tl xl sl =
      let h = law.goes_on c d (begins_of k.core.attempt) runs.stands g in
      let back : AreRestored c l.configuration (begins_of k.core.attempt) = subst (λ (z : Configuration). AreRestored c z (begins_of k.core.attempt)) (sym cl) h.1 in
      let att : shown_from l.configuration l.core.attempt ≡ shown_from c k.core.attempt = ap (shown_from l.configuration) al ∙ agree (begin_configuration l.configuration) (begin_configuration c) k.core.attempt back in
      let stand : MayStand code l.configuration (begins_of l.core.attempt) = subst (λ (z : Configuration). MayStand code z (begins_of l.core.attempt)) (sym cl) (subst (λ (z : Option (Attempt Saved)). MayStand code d (begins_of z)) (sym al) h.0) in
      record {
        thread = same_thread (machine_thread l) (record th { configuration = d; text = t }) cl att tl xl sl ∙ sym (ap (λ (z : Next Configuration). z.thread) e);
        event = sym (ap (λ (z : Next Configuration). z.event) e);
        of = subst (ContextWith code l) (sym (sl ∙ running)) (record { stands = stand; words = subst GivesWordsIf (sym al) runs.words });
        within = within code law l.configuration (begins_of l.core.attempt) stand;
      }

  -- the thread stays where it is
  stays : (l : PlainContext) (n : Next Configuration) (e : Event) (s : Status) (b : Bool) → n.thread ≡ record th { trapping = b; status = s } → n.event ≡ e →
      l.configuration ≡ c → l.core.attempt ≡ k.core.attempt → l.trapping ≡ b → l.text ≡ k.text → l.status ≡ s → ContextWith code k s → Makes code n l e
  stays l n e s b ne ee cl al tl xl sl o =
      let att : shown_from l.configuration l.core.attempt ≡ shown_from c k.core.attempt = ap (λ (z : Configuration). shown_from z l.core.attempt) cl ∙ ap (shown_from c) al in
      let stand : MayStand code c (begins_of k.core.attempt) = runs.stands in
      record {
        thread = same_thread (machine_thread l) (record th { trapping = b; status = s }) cl att tl xl sl ∙ sym ne;
        event = sym ee;
        of = subst (ContextWith code l) (sym sl) (context_same code k l s (sym cl) (sym al) o);
        within = subst (λ (z : Configuration). AreWithin z (begins_of l.core.attempt)) (sym cl) (subst (λ (z : Option (Attempt Saved)). AreWithin c (begins_of z)) (sym al) (within code law c (begins_of k.core.attempt) stand));
      }

  by_effect : (x : Effect Configuration) (n : Next Configuration) → effect code c ≡ x → told_of (effect code) th th.attempt x y ≡ n → step_with (effect code) th y ≡ n
  by_effect x n e h = ap (λ (z : Effect Configuration). told_of (effect code) th th.attempt z y) e ∙ h

  -- a local step, a call and a return
  pub work_moves : (l : PlainContext) → effect code c ≡ Pure l.configuration → l.core.attempt ≡ k.core.attempt → l.trapping ≡ k.trapping → l.text ≡ k.text → l.status ≡ k.status → Makes code (step_with (effect code) th y) l event.Quiet
  work_moves l e al tl xl sl =
      moved l l.configuration k.text (step_with (effect code) th y) (subst (λ (z : Effect Configuration). IsSuccessor z l.configuration) (sym e) refl) (by_effect (Pure l.configuration) _ e (told_pure (effect code) th y running th.attempt l.configuration)) refl al tl xl sl

  may_print : (att : Option (Attempt Saved)) → (is_some att ≡ true → is_kept att ≡ true) → MayPrint (effect code) th y running (shown_from c att)
  may_print None h = tt
  may_print (Some a) h = h refl

  pub work_prints : (l : PlainContext) (p : List ℕ) (d : Configuration) → effect code c ≡ Print p d → (is_some k.core.attempt ≡ true → is_kept k.core.attempt ≡ true) → l.configuration ≡ d → l.core.attempt ≡ k.core.attempt → l.trapping ≡ k.trapping → l.text ≡ k.text ++ p → l.status ≡ k.status → Makes code (step_with (effect code) th y) l event.Quiet
  work_prints l p d e h cl al tl xl sl =
      moved l d (k.text ++ p) (step_with (effect code) th y) (subst (λ (z : Effect Configuration). IsSuccessor z d) (sym e) refl) (by_effect (Print p d) _ e (told_print (effect code) th y running th.attempt p d (may_print k.core.attempt h))) cl al tl xl sl

  still : (l : PlainContext) (x : Effect Configuration) → effect code c ≡ x → told_of (effect code) th th.attempt x y ≡ quiet th → l ≡ k → Makes code (step_with (effect code) th y) l event.Quiet
  still l x e h same =
      stays l (step_with (effect code) th y) event.Quiet Running k.trapping (ap (λ (z : Next Configuration). z.thread) (by_effect x (quiet th) e h) ∙ same_thread th (record th { trapping = k.trapping; status = Running }) refl refl refl refl running) (ap (λ (z : Next Configuration). z.event) (by_effect x (quiet th) e h))
      (ap (λ (z : PlainContext). z.configuration) same) (ap (λ (z : PlainContext). z.core.attempt) same) (ap (λ (z : PlainContext). z.trapping) same) (ap (λ (z : PlainContext). z.text) same) (ap (λ (z : PlainContext). z.status) same ∙ running) runs

  print_still : (att : Option (Attempt Saved)) (p : List ℕ) (d : Configuration) → is_some att ≡ true → is_kept att ≡ false → told_of (effect code) th (shown_from c att) (Print p d) y ≡ quiet th
  print_still None p d h g = absurd (cc)
  print_still (Some a) p d h g = ap (λ (b : Bool). print_inside th p d b) g

  -- a print while the lock is not kept
  pub work_waits : (l : PlainContext) (p : List ℕ) (d : Configuration) → effect code c ≡ Print p d → is_some k.core.attempt ≡ true → is_kept k.core.attempt ≡ false → l ≡ k → Makes code (step_with (effect code) th y) l event.Quiet
  work_waits l p d e h g same = still l (Print p d) e (print_still k.core.attempt p d h g) same

  end_inside : (att : Option (Attempt Saved)) → is_some att ≡ true → told_of (effect code) th (shown_from c att) End y ≡ quiet th
  end_inside None h = absurd (cc)
  end_inside (Some a) h = refl

  pub work_end_inside : (l : PlainContext) → effect code c ≡ End → is_some k.core.attempt ≡ true → l ≡ k → Makes code (step_with (effect code) th y) l event.Quiet
  work_end_inside l e h same = still l End e (end_inside k.core.attempt h) same

  trap_pending : (att : Option (Attempt Saved)) (cause : Trap) → is_kept att ≡ true → k.trapping ≡ false → told_of (effect code) th (shown_from c att) (Traps cause) y ≡ quiet (record th { trapping = true })
  trap_pending None cause h g = absurd (cc)
  trap_pending (Some a) cause h g = ap (λ (b : Bool). told_inside (effect code) th (attempt_as (begin_configuration c) a) (Traps cause) (op_of (traps_of cause) b k.trapping) y) h ∙ ap (λ (b : Bool). told_inside (effect code) th (attempt_as (begin_configuration c) a) (Traps cause) (op_of (traps_of cause) true b) y) g

  -- a trap while the lock is kept makes a step of its own first
  pub work_traps_inside : (l : PlainContext) (cause : Trap) → effect code c ≡ Traps cause → is_kept k.core.attempt ≡ true → k.trapping ≡ false → l.configuration ≡ c → l.core.attempt ≡ k.core.attempt → l.trapping ≡ true → l.text ≡ k.text → l.status ≡ k.status → Makes code (step_with (effect code) th y) l event.Quiet
  work_traps_inside l cause e h g cl al tl xl sl =
      let n = by_effect (Traps cause) _ e (trap_pending k.core.attempt cause h g) in
      stays l (step_with (effect code) th y) event.Quiet Running true (ap (λ (z : Next Configuration). z.thread) n ∙ same_thread (record th { trapping = true }) (record th { trapping = true; status = Running }) refl refl refl refl running) (ap (λ (z : Next Configuration). z.event) n) cl al tl xl (sl ∙ running) runs

  module _ (none : k.core.attempt ≡ None) where
    outside : (x : Effect Configuration) (n : Next Configuration) → effect code c ≡ x → told_outside (effect code) th Running x y ≡ n → step_with (effect code) th y ≡ n
    outside x n e h = by_effect x n e (ap (λ (z : Option (Attempt Saved)). told_of (effect code) th (shown_from c z) x y) none ∙ outside_is (effect code) th y running x n h)

    pub work_irrevocable_outside : (l : PlainContext) (d : Configuration) → effect code c ≡ Irrevocable d → l.configuration ≡ d → l.core.attempt ≡ k.core.attempt → l.trapping ≡ k.trapping → l.text ≡ k.text → l.status ≡ k.status → Makes code (step_with (effect code) th y) l event.Quiet
    work_irrevocable_outside l d e cl al tl xl sl = moved l d k.text (step_with (effect code) th y) (subst (λ (z : Effect Configuration). IsSuccessor z d) (sym e) refl) (outside (Irrevocable d) _ e refl) cl al tl xl sl

-- a thread that is over
module _ (code : Code) (k : PlainContext) (y : Answer) (none : k.core.attempt ≡ None) where
  over_is : (s : Status) → (s ≡ Running → ⊥) → told_outside (effect code) (machine_thread k) s (effect code k.configuration) y ≡ quiet (machine_thread k)
  over_is Running ne = absurd (ne refl)
  over_is HasEnded ne = refl
  over_is (HasTrapped cause) ne = refl

  over_told : (k.status ≡ Running → ⊥) → step_with (effect code) (machine_thread k) y ≡ quiet (machine_thread k)
  over_told ne = ap (λ (z : Option (Attempt Saved)). told_of (effect code) (machine_thread k) (shown_from k.configuration z) (effect code k.configuration) y) none ∙ over_is k.status ne

  pub work_over : (k.status ≡ Running → ⊥) → ContextWith code k k.status → Makes code (step_with (effect code) (machine_thread k) y) k event.Quiet
  work_over ne o = record {
    thread = sym (ap (λ (z : Next Configuration). z.thread) (over_told ne));
    event = sym (ap (λ (z : Next Configuration). z.event) (over_told ne));
    of = o;
    within = subst (λ (z : Option (Attempt Saved)). AreWithin k.configuration (begins_of z)) (sym none) tt;
  }
