-- A thread that has an attempt is running, after every list of steps.
use Rattle.std.proofs.Common.{◌≡◌, ◌≢◌, ◌⊎◌, inl, inr, ◌==◌, ◌%◌, ℕ, Bool, true, false, List, [], ◌∷◌, Option, None, Some, slice_get, set, refl, sym, ap, subst, ◌∙◌}
use Rattle.std.specs.Prelude.{if◌then◌else◌}
use Rattle.std.proofs.lemmas.Bool.Decides.{eqb_tells}
use Rattle.syntax.specs.declared.thread_end.Status.{Status}
use Rattle.syntax.specs.declared.thread_end.Status.TheVariants.{Running, Ended as HasEnded, Trapped as HasTrapped}
use Rattle.syntax.specs.declared.thread_end.Trap.{Trap}
use Rattle.syntax.specs.Behaviours.{Memory}
use Rattle.bytecode.specs.Effects.{Effect}
use Rattle.bytecode.specs.Effects.Effect.{Pure, Print, Begin, Read, Write, Commit, Cancel, CancelOuter, Irrevocable, Traps, End}
use Rattle.norec_core.specs.declared.step.Answer.{Answer}
use Rattle.norec_core.specs.declared.step.Answer.TheVariants as answers
use Rattle.norec_core.specs.declared.step.Op.{Op}
use Rattle.norec_core.specs.declared.step.Op.TheVariants as op
use Rattle.norec_core.specs.declared.step.OpOutcome.{OpOutcome}
use Rattle.norec_core.specs.declared.step.OpOutcome.TheVariants as outcome
use Rattle.norec_core.specs.declared.step.Phase.{Phase}
use Rattle.norec_core.specs.declared.step.Phase.TheVariants.{AtOperation, ReadsLock, ValidatesTime, ValidatesEntry, Stores}
use Rattle.norec_core.specs.Attempts.{Attempt}
use Rattle.norec_core.specs.Phases.{CoreStep, core_compare, core_phase, core_step, core_time}
use Rattle.machine.specs.Serializable.{world_after}
use Rattle.machine.specs.Threads.{Thread, access, op_of, own_step, print_inside, resume_next, status_after, step_with, told_inside, told_of, told_outside}
use Rattle.machine.specs.Worlds.{Part, World, answer, new_world, part_after, run, step, step_of}
use Rattle.machine.proofs.answers.Hearing.{no_attempt}
use Rattle.machine.proofs.steps.Worlds.{get-set_other, get-set_same}

-- ---- a release ends the attempt, or is not complete yet

abbrev EndsOrGoes : {S : Type 0} → CoreStep S → Type 0
EndsOrGoes n = (n.attempt ≡ None) ⊎ (n.outcome ≡ outcome.Going)

either : {S : Type 0} (b : Bool) (n m : CoreStep S) → EndsOrGoes n → EndsOrGoes m → EndsOrGoes (if b then n else m)
either true n m x y = x
either false n m x y = y

timed : {S : Type 0} (a : Attempt S) (ans : Answer) → EndsOrGoes (core_time a ans)
timed a (answers.Value lock) = either (lock % 2 == 0) _ _ (inr refl) (inr refl)
timed a answers.Done = inr refl
timed a answers.Won = inr refl
timed a (answers.Lost n) = inr refl

compared : {S : Type 0} (a : Attempt S) (time i : ℕ) (entry : Option (ℕ × ℕ)) (ans : Answer) → EndsOrGoes (core_compare a time i entry ans)
compared a time i (Some p) (answers.Value w) = either (w == p.1) _ _ (inr refl) (inl refl)
compared a time i None (answers.Value lock) = either (lock == time) _ _ (inr refl) (inr refl)
compared a time i (Some p) answers.Done = inr refl
compared a time i (Some p) answers.Won = inr refl
compared a time i (Some p) (answers.Lost n) = inr refl
compared a time i None answers.Done = inr refl
compared a time i None answers.Won = inr refl
compared a time i None (answers.Lost n) = inr refl

released : {S : Type 0} (now : S) (a : Attempt S) (q : Phase) (ans : Answer) → EndsOrGoes (core_phase now a q op.Release ans)
released now a AtOperation ans = inl refl
released now a (ReadsLock v) ans = inr refl
released now a ValidatesTime ans = timed a ans
released now a (ValidatesEntry time i) ans = compared a time i (slice_get a.reads i) ans
released now a (Stores i) ans = inr refl

-- ---- one step of a thread

module _ {C : Type 0} (code : C → Effect C) where
  abbrev pub RunsInside : Thread C → Type 0
  RunsInside th = (a : Attempt C) → th.attempt ≡ Some a → th.status ≡ Running

  module _ (th : Thread C) (ans : Answer) where
    -- an operation that is complete ends the thread only at a trap
    after_done : (x : Effect C) → ((cause : Trap) → x ≡ Traps cause → ⊥) → status_after outcome.Done x th.status ≡ th.status
    after_done (Pure c) other = refl
    after_done (Print piece c) other = refl
    after_done (Begin c d) other = refl
    after_done (Read cell k) other = refl
    after_done (Write cell v c) other = refl
    after_done (Commit c) other = refl
    after_done Cancel other = refl
    after_done (CancelOuter levels) other = refl
    after_done (Irrevocable c) other = refl
    after_done (Traps cause) other = absurd (other cause refl)
    after_done End other = refl

    after_any : (o : OpOutcome) (x : Effect C) → ((cause : Trap) → x ≡ Traps cause → ⊥) → status_after o x th.status ≡ th.status
    after_any outcome.Done x other = after_done x other
    after_any outcome.Going x other = refl
    after_any (outcome.Read v) x other = refl
    after_any outcome.Aborted x other = refl

    resumes : (x : Effect C) (n : CoreStep C) → th.status ≡ Running → ((cause : Trap) → x ≡ Traps cause → ⊥) → RunsInside (resume_next code th x n).thread
    resumes x n is other a e = after_any n.outcome x other ∙ is

    abbrev at_trap : Trap → Effect C
    at_trap cause = Traps cause

    releases : (cause : Trap) (n : CoreStep C) → th.status ≡ Running → EndsOrGoes n → RunsInside (resume_next code th (at_trap cause) n).thread
    releases cause n is (inl gone) a e = let f : None ≡ Some a = sym gone ∙ e in absurd (cc)
    releases cause n is (inr goes) a e = ap (λ (o : OpOutcome). status_after o (at_trap cause) th.status) goes ∙ is

    own : (a : Attempt C) (x : Effect C) → th.status ≡ Running → RunsInside (own_step th a x).thread
    own a (Pure c) is b e = is
    own a (Print piece c) is b e = printed a.kept
      where
        printed : (kept : Bool) → (print_inside th piece c kept).thread.status ≡ Running
        printed true = is
        printed false = is
    own a (Begin c d) is b e = is
    own a (Read cell k) is b e = is
    own a (Write cell v c) is b e = is
    own a (Commit c) is b e = is
    own a Cancel is b e = is
    own a (CancelOuter levels) is b e = is
    own a (Irrevocable c) is b e = is
    own a (Traps cause) is b e = is
    own a End is b e = is

    abbrev done_by : Attempt C → Op → CoreStep C
    done_by a o = core_step th.configuration (Some a) o ans

    inside : (a : Attempt C) (x : Effect C) → th.status ≡ Running → RunsInside (told_inside code th a x (op_of x a.kept th.trapping) ans).thread
    inside a (Pure c) is = own a (Pure c) is
    inside a (Print piece c) is = own a (Print piece c) is
    inside a (Begin c d) is = resumes (Begin c d) (done_by a op.Begin) is (λ cause e. absurd (cc))
    inside a (Read cell k) is = resumes (Read cell k) (done_by a (op.Read cell)) is (λ cause e. absurd (cc))
    inside a (Write cell v c) is = resumes (Write cell v c) (done_by a (op.Write cell v)) is (λ cause e. absurd (cc))
    inside a (Commit c) is = resumes (Commit c) (done_by a op.Commit) is (λ cause e. absurd (cc))
    inside a Cancel is = resumes Cancel (done_by a op.Cancel) is (λ cause e. absurd (cc))
    inside a (CancelOuter levels) is = resumes (CancelOuter levels) (done_by a (op.CancelOuter levels)) is (λ cause e. absurd (cc))
    inside a (Irrevocable c) is = resumes (Irrevocable c) (done_by a op.Irrevocable) is (λ cause e. absurd (cc))
    inside a (Traps cause) is = trapped a.kept th.trapping
      where
        trapped : (kept trapping : Bool) → RunsInside (told_inside code th a (at_trap cause) (op_of (at_trap cause) kept trapping) ans).thread
        trapped true false = own a (Traps cause) is
        trapped true true = releases cause (done_by a op.Release) is (released th.configuration a a.phase ans)
        trapped false trapping = releases cause (done_by a op.Release) is (released th.configuration a a.phase ans)
    inside a End is = own a End is

    outside : (x : Effect C) → th.attempt ≡ None → (s : Status) → th.status ≡ s → RunsInside (told_outside code th s x ans).thread
    outside x none HasEnded is a e = let f : None ≡ Some a = sym none ∙ e in absurd (cc)
    outside x none (HasTrapped cause) is a e = let f : None ≡ Some a = sym none ∙ e in absurd (cc)
    outside (Begin c d) none Running is a e = resumes (Begin c d) (core_step th.configuration None op.Begin ans) is (λ cause f. absurd (cc)) a e
    outside (Pure c) none Running is a e = is
    outside (Print piece c) none Running is a e = is
    outside (Read cell k) none Running is a e = is
    outside (Write cell v c) none Running is a e = is
    outside (Commit c) none Running is a e = is
    outside Cancel none Running is a e = is
    outside (CancelOuter levels) none Running is a e = is
    outside (Irrevocable c) none Running is a e = is
    outside (Traps cause) none Running is a e = let f : None ≡ Some a = sym none ∙ e in absurd (cc)
    outside End none Running is a e = let f : None ≡ Some a = sym none ∙ e in absurd (cc)

    steps_inside : RunsInside th → RunsInside (step_with code th ans).thread
    steps_inside runs = by th.attempt refl
      where
        by : (o : Option (Attempt C)) → th.attempt ≡ o → RunsInside (told_of code th o (code th.configuration) ans).thread
        by None e = outside (code th.configuration) e th.status refl
        by (Some a) e = inside a (code th.configuration) (runs a e)

  -- ---- all threads of a world

  abbrev AllRunInside : World C → Type 0
  AllRunInside w = (t : ℕ) (p : Part C) → slice_get w.parts t ≡ Some p → RunsInside p.thread

  step_inside : (w : World C) (t : ℕ) → AllRunInside w → AllRunInside (step code w t)
  step_inside w t all = at (slice_get w.parts t) refl
    where
      at : (o : Option (Part C)) → slice_get w.parts t ≡ o → AllRunInside (step_of code w t o)
      at None e u r here = all u r here
      at (Some p) e u r here = by (eqb_tells u t)
        where
          q : Part C
          q = part_after w.words p (step_with code p.thread (answer w.lock w.words (access code p.thread)))

          by : ((u == t) ≡ true) × (u ≡ t) ⊎ ((u == t) ≡ false) × (u ≢ t) → RunsInside r.thread
          by (inl f) =
              let same : Some q ≡ Some r = sym (get-set_same w.parts t q p e) ∙ ap (slice_get (set w.parts t q)) (sym f.1) ∙ here in
              let is : q ≡ r = cc in
              subst (λ (x : Part C). RunsInside x.thread) is (steps_inside p.thread (answer w.lock w.words (access code p.thread)) (all t p e))
          by (inr f) = all u r (sym (get-set_other w.parts t u q f.1) ∙ here)

  run_inside : (ts : List ℕ) (w : World C) → AllRunInside w → AllRunInside (run code ts w)
  run_inside [] w all = all
  run_inside (t ∷ ts) w all = run_inside ts (step code w t) (step_inside w t all)

  -- a thread that has terminated has no attempt
  pub over_outside : (init : ℕ → C) (m0 : Memory) (threads : ℕ) (ts : List ℕ) (t : ℕ) (p : Part C) → slice_get (world_after code init m0 threads ts).parts t ≡ Some p → p.thread.status ≢ Running → p.thread.attempt ≡ None
  over_outside init m0 threads ts t p here over = by p.thread.attempt refl
    where
      first : AllRunInside (new_world init m0 threads)
      first u q e a has = let f : None ≡ Some a = sym (no_attempt init 0 threads u q e) ∙ has in absurd (cc)

      by : (o : Option (Attempt C)) → p.thread.attempt ≡ o → p.thread.attempt ≡ None
      by None e = e
      by (Some a) e = absurd (over (run_inside ts (new_world init m0 threads) first t p here a e))
