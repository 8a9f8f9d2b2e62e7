-- What a thread's context asks of the core, by what is to be done.
use Rattle.std.proofs.Common.{◌≡◌, ◌<◌, ℕ, Bool, true, false, List, [], ◌∷◌, Option, None, Some, refl, sym, ◌∙◌, ap, subst, length, arith}
use Rattle.std.specs.Prelude.{IfSome, IsSomeAnd, slice_set}
use Rattle.syntax.specs.declared.thread_end.Status.{Status}
use Rattle.syntax.specs.declared.thread_end.Status.TheVariants.{Running}
use Rattle.syntax.specs.declared.thread_end.Trap.{Trap}
use Rattle.nesting.specs.Begins.{Saved}
use Rattle.bytecode.specs.Effects.{Effect}
use Rattle.bytecode.specs.Effects.Effect.{Pure, Print, Begin, Traps, End}
use Rattle.bytecode.specs.Code.{Code, Configuration, Frame, effect, return_effect}
use Rattle.frames.specs.declared.doing.Doing.{Doing}
use Rattle.frames.specs.declared.doing.Doing.TheVariants as doing
use Rattle.frames.specs.Open.{begin_configuration, saved_in, BeginsStayOpen}
use Rattle.frames.specs.Doings.{IsDoingAt}
use Rattle.norec_core.specs.declared.step.Op.{Op}
use Rattle.norec_core.specs.declared.step.Op.TheVariants as op
use Rattle.norec_core.specs.declared.step.OpOutcome.{OpOutcome}
use Rattle.norec_core.specs.declared.step.Access.{Access}
use Rattle.norec_core.specs.declared.step.Access.TheVariants.{Local}
use Rattle.norec_core.specs.declared.step.Answer.{Answer}
use Rattle.norec_core.specs.Attempts.{Attempt}
use Rattle.norec_core.specs.Phases.{CoreStep, core_access, core_step}
use Rattle.norec_core.specs.Accesses.{IsAnswerTo}
use Rattle.norec_core.specs.Cores.{CoreState, IsAnswered, core_step_with, stepped_by}
use Rattle.norec_core.proofs.SavedByMaps.{commutes}
use Rattle.machine.specs.declared.event.Event.{Event}
use Rattle.machine.specs.Threads.{Thread, access, access_of, outside_access, inside_access, step_with, op_of}
use Rattle.machine.specs.States.{Ready, IsReady, IsWordOf, asks, asks_by, asks_outside}
use Rattle.machine.specs.inner.Contexts.{PlainContext, machine_thread, shown_from, RunsInContext, MayGoBack, Makes, back_by, op_by, op_outside, op_asked}
use Rattle.machine.proofs.contexts.Operations.{WritesWord}
use Rattle.machine.proofs.contexts.Makes.{Resumes, may_go_back, core_makes}
use Rattle.machine.proofs.contexts.Words.{FitsRegister, word_fits}

module _ (code : Code) (c : Configuration) where
  -- a return goes on
  return_is : (fs : List Frame) (w : ℕ) → 0 < length fs → (d : Configuration) × (return_effect fs w ≡ Pure d)
  return_is [] w h = absurd (omega arith)
  return_is (f ∷ fs) w h = (record { place = f.place; registers = slice_set f.registers f.result w; frames = fs }, refl)

  -- the effects that ask the core for nothing
  data IsOwn : Effect Configuration → Type 0 where
    pure : (d : Configuration) → IsOwn (Pure d)
    print : (p : List ℕ) (d : Configuration) → IsOwn (Print p d)
    end : IsOwn End

  own_pure : (x : Effect Configuration) (d : Configuration) → x ≡ Pure d → IsOwn x
  own_pure x d e = subst IsOwn (sym e) (pure d)

  op_own : (x : Effect Configuration) (k t : Bool) → IsOwn x → op_of x k t ≡ None
  op_own _ k t (pure d) = refl
  op_own _ k t (print p d) = refl
  op_own _ k t end = refl

  out_own : (x : Effect Configuration) → IsOwn x → asks_outside Running x ≡ None
  out_own _ (pure d) = refl
  out_own _ (print p d) = refl
  out_own _ end = refl

  op_at : (x : Effect Configuration) (k t : Bool) (o : Option Op) → effect code c ≡ x → op_of x k t ≡ o → op_of (effect code c) k t ≡ o
  op_at x k t o e h = ap (λ (z : Effect Configuration). op_of z k t) e ∙ h

  out_at : (x : Effect Configuration) (o : Option Op) → effect code c ≡ x → asks_outside Running x ≡ o → asks_outside Running (effect code c) ≡ o
  out_at x o e h = ap (asks_outside Running) e ∙ h

  op_traps : (k t : Bool) (cause : Trap) → op_of {C = Configuration} (Traps cause) k t ≡ op_by (doing.Traps cause) k t
  op_traps true true cause = refl
  op_traps true false cause = refl
  op_traps false t cause = refl

  own_local : (x : Doing) → IsDoingAt code c x → (x ≡ doing.Local) → IsOwn (effect code c)
  own_local x t e = let h = subst (IsDoingAt code c) e t in own_pure (effect code c) h.1 h.4

  own_call : (x : Doing) → IsDoingAt code c x → (x ≡ doing.Call) → IsOwn (effect code c)
  own_call x t e = let h = subst (IsDoingAt code c) e t in own_pure (effect code c) h.3 h.5

  own_return : (w : ℕ) → IsDoingAt code c (doing.Return w) → IsOwn (effect code c)
  own_return w t = let h = return_is c.frames w t.1 in own_pure (effect code c) h.0 (t.0 ∙ h.1)

  pub op_told : (x : Doing) (k t : Bool) → IsDoingAt code c x → op_of (effect code c) k t ≡ op_by x k t
  op_told doing.Local k t h = op_own (effect code c) k t (own_local doing.Local h refl)
  op_told (doing.Read d a) k t h = op_at _ k t _ h.0 refl
  op_told (doing.Write a w) k t h = op_at _ k t _ h.0 refl
  op_told doing.Call k t h = op_own (effect code c) k t (own_call doing.Call h refl)
  op_told (doing.Return w) k t h = op_own (effect code c) k t (own_return w h)
  op_told (doing.Traps cause) k t h = op_at _ k t _ h (op_traps k t cause)
  op_told x k t h = op_at _ k t _ h refl

  pub out_told : (x : Doing) → IsDoingAt code c x → asks_outside Running (effect code c) ≡ op_outside x
  out_told doing.Local h = out_own (effect code c) (own_local doing.Local h refl)
  out_told (doing.Read d a) h = out_at _ _ h.0 refl
  out_told (doing.Write a w) h = out_at _ _ h.0 refl
  out_told doing.Call h = out_own (effect code c) (own_call doing.Call h refl)
  out_told (doing.Return w) h = out_own (effect code c) (own_return w h)
  out_told x h = out_at _ _ h refl

  writes : (x : Doing) (k t : Bool) (o : Op) → IsDoingAt code c x → op_by x k t ≡ Some o → WritesWord o
  writes (doing.Read d a) k t o h e = let s : op.Read a ≡ o = cc in subst WritesWord s tt
  writes (doing.Write a w) k t o h e = let s : op.Write a w ≡ o = cc in subst WritesWord s h.1
  writes (doing.Begin to) k t o h e = let s : op.Begin ≡ o = cc in subst WritesWord s tt
  writes doing.Commit k t o h e = let s : op.Commit ≡ o = cc in subst WritesWord s tt
  writes doing.Cancel k t o h e = let s : op.Cancel ≡ o = cc in subst WritesWord s tt
  writes (doing.CancelOuter levels) k t o h e = let s : op.CancelOuter levels ≡ o = cc in subst WritesWord s tt
  writes doing.Irrevocable k t o h e = let s : op.Irrevocable ≡ o = cc in subst WritesWord s tt
  writes (doing.Traps cause) true true o h e = let s : op.Release ≡ o = cc in subst WritesWord s tt
  writes (doing.Traps cause) false t o h e = let s : op.Release ≡ o = cc in subst WritesWord s tt
  writes x k t o h e = absurd (cc)

  writes_out : (x : Doing) (o : Op) → op_outside x ≡ Some o → WritesWord o
  writes_out (doing.Begin to) o e = let s : op.Begin ≡ o = cc in subst WritesWord s tt
  writes_out x o e = absurd (cc)

  -- what is written is a word
  pub writes_word : (x : Doing) (att : Option (Attempt Saved)) (t : Bool) (o : Op) → IsDoingAt code c x → op_asked x att t ≡ Some o → WritesWord o
  writes_word x None t o h e = writes_out x o e
  writes_word x (Some a) t o h e = writes x a.kept t o h e

module _ (code : Code) (k : PlainContext) (running : k.status ≡ Running) (x : Doing) (t : IsDoingAt code k.configuration x) where
  asks_at : (att : Option (Attempt Saved)) → asks_by (machine_thread k) (shown_from k.configuration att) (effect code k.configuration) ≡ op_asked x att k.trapping
  asks_at None = ap (λ (s : Status). asks_outside s (effect code k.configuration)) running ∙ out_told code k.configuration x t
  asks_at (Some a) = op_told code k.configuration x a.kept k.trapping t

  -- what the thread that is shown asks is what is to be done
  pub asks_is : asks (effect code) (machine_thread k) ≡ op_asked x k.core.attempt k.trapping
  asks_is = asks_at k.core.attempt

module _ {C : Type 0} (th : Thread C) where
  outside_asked : (s : Status) (x : Effect C) (o : Op) → asks_outside s x ≡ Some o → outside_access s x ≡ core_access {S = C} None o
  outside_asked Running (Begin c d) o e = let h : op.Begin ≡ o = cc in ap (λ (z : Op). core_access {S = C} None z) h
  outside_asked s x o e = absurd (cc)

  outside_none : (s : Status) (x : Effect C) → asks_outside s x ≡ None → outside_access s x ≡ Local
  outside_none Running (Begin c d) e = absurd (cc)
  outside_none s x e = refl

  pub access_asked : (att : Option (Attempt C)) (x : Effect C) (o : Op) → asks_by th att x ≡ Some o → access_of th att x ≡ core_access att o
  access_asked None x o e = outside_asked th.status x o e
  access_asked (Some a) x o e = ap (inside_access a) e

  pub access_none : (att : Option (Attempt C)) (x : Effect C) → asks_by th att x ≡ None → access_of th att x ≡ Local
  access_none None x e = outside_none th.status x e
  access_none (Some a) x e = ap (inside_access a) e

-- the access of a thread's context
pub access_is : (code : Code) (k : PlainContext) (o : Op) → asks (effect code) (machine_thread k) ≡ Some o → access (effect code) (machine_thread k) ≡ core_access k.core.attempt o
access_is code k o e = access_asked (machine_thread k) (machine_thread k).attempt (effect code k.configuration) o e ∙ (commutes (begin_configuration k.configuration)).access k.core.attempt o

pub access_local : (code : Code) (k : PlainContext) → asks (effect code) (machine_thread k) ≡ None → access (effect code) (machine_thread k) ≡ Local
access_local code k e = access_none (machine_thread k) (machine_thread k).attempt (effect code k.configuration) e

pub stepped_is : (c : CoreState) (o : Op) (y : Answer) → c.asked ≡ Some o → core_step_with c y ≡ core_step c.saved c.attempt o y
stepped_is c o y e = ap (λ (z : Option Op). stepped_by c z y) e

-- what the core says of a step that was prepared
pub record CoreTold (k : PlainContext) (y : Answer) (new : CoreState) (r : OpOutcome) : Type 0 where
  pub attempt : new.attempt ≡ (core_step_with k.core y).attempt
  pub outcome : r ≡ (core_step_with k.core y).outcome
  pub back : IfSome (core_step_with k.core y).back (λ s. new.saved ≡ s)

module _ (code : Code) (law : BeginsStayOpen code) (k : PlainContext) (o : Op) (y : Answer) (running : k.status ≡ Running) (runs : RunsInContext code k) (x : Doing) (t : IsDoingAt code k.configuration x)
    (asked : op_asked x k.core.attempt k.trapping ≡ Some o) (r : Ready) (same_asked : r.asked ≡ k.core.asked) (same_saved : r.saved ≡ k.core.saved) (ready : IsReady code (machine_thread k) r) (word : IsWordOf code (access (effect code) (machine_thread k)) y) where
  asks_some : asks (effect code) (machine_thread k) ≡ Some o
  asks_some = asks_is code k running x t ∙ asked

  core_asked : k.core.asked ≡ Some o
  core_asked = sym same_asked ∙ ready.asked o asks_some

  saves : o ≡ op.Begin → k.core.saved ≡ saved_in k.configuration
  saves e = sym same_saved ∙ ready.saved (asks_some ∙ ap Some e)

  words : FitsRegister (core_access k.core.attempt o) y
  words = subst (λ (z : Access). FitsRegister z y) (access_is code k o asks_some) (word_fits code (access (effect code) (machine_thread k)) y word)

  -- an answer to the thread's access is one to what the core was asked
  pub operation_answered : IsAnswerTo (access (effect code) (machine_thread k)) y → IsAnswered k.core y
  operation_answered fits = subst (λ (z : Option Op). IsSomeAnd z (λ q. IsAnswerTo (core_access k.core.attempt q) y)) (sym core_asked) (subst (λ (z : Access). IsAnswerTo z y) (access_is code k o asks_some) fits)

  pub operation_back : (new : CoreState) (q : OpOutcome) → CoreTold k y new q → MayGoBack code k.configuration new.saved (back_by (effect code k.configuration) q (begin_configuration k.configuration new.saved))
  operation_back new q z =
      let e = stepped_is k.core o y core_asked in
      may_go_back code law k o y running runs asks_some saves (writes_word code k.configuration x k.core.attempt k.trapping o t asked) words q new.saved
      (z.outcome ∙ ap (λ (n : CoreStep Saved). n.outcome) e) (subst (λ (n : CoreStep Saved). IfSome n.back (λ s. new.saved ≡ s)) e z.back)

  pub operation_makes : (l : PlainContext) (q : OpOutcome) (e : Event) → CoreTold k y l.core q → Resumes code law k l q e → Makes code (step_with (effect code) (machine_thread k) y) l e
  operation_makes l q ev z w =
      let e = stepped_is k.core o y core_asked in
      core_makes code law k o y running runs asks_some saves (writes_word code k.configuration x k.core.attempt k.trapping o t asked) words l q ev
      (z.outcome ∙ ap (λ (n : CoreStep Saved). n.outcome) e) (z.attempt ∙ ap (λ (n : CoreStep Saved). n.attempt) e) (subst (λ (n : CoreStep Saved). IfSome n.back (λ s. l.core.saved ≡ s)) e z.back) w
