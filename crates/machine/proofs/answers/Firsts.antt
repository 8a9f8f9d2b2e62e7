-- An attempt keeps its first snapshot, which was answered to a load of the lock when it began.
use Rattle.std.proofs.Common.{◌≡◌, ◌-◌, ◌≤◌, ◌==◌, ◌%◌, inl, inr, ℕ, Bool, true, false, cond, List, [], ◌∷◌, ◌++◌, Option, None, Some, refl, sym, ◌∙◌, ap, subst, slice_get, drop}
use Rattle.syntax.specs.declared.thread_end.Status.{Status}
use Rattle.syntax.specs.declared.thread_end.Status.TheVariants.{Running, Ended as HasEnded, Trapped as HasTrapped}
use Rattle.write_log.specs.Overlay.{overlay_word}
use Rattle.bytecode.specs.Effects.{Effect}
use Rattle.bytecode.specs.Effects.Effect.{Begin, Print}
use Rattle.norec_core.specs.Attempts.{Attempt, Checkpoint}
use Rattle.norec_core.specs.Phases.{CoreStep, core_begin, core_cancel, core_check, core_commit, core_compare, core_operation, core_phase, core_read, core_store, core_swap, core_time, core_word}
use Rattle.norec_core.specs.declared.step.Access.{Access}
use Rattle.norec_core.specs.declared.step.Access.TheVariants.{LoadLock}
use Rattle.norec_core.specs.declared.step.Answer.{Answer}
use Rattle.norec_core.specs.declared.step.Answer.TheVariants.{Done, Lost, Value, Won}
use Rattle.norec_core.specs.declared.step.Op.{Op}
use Rattle.norec_core.specs.declared.step.Op.TheVariants as op
use Rattle.norec_core.specs.declared.step.OpOutcome.{OpOutcome}
use Rattle.norec_core.specs.declared.step.OpOutcome.TheVariants as outcome
use Rattle.norec_core.specs.declared.step.Phase.{Phase}
use Rattle.norec_core.specs.declared.step.Phase.TheVariants.{AtOperation, ReadsLock, Stores, ValidatesEntry, ValidatesTime}
use Rattle.machine.specs.Answered.{Heard, LocksFrom, StepsHearing}
use Rattle.machine.specs.inner.Answered.{HasLoad}
use Rattle.machine.specs.Threads.{Thread, access, access_of, op_of, outside_access, own_step, print_inside, step_with, told_inside, told_of, told_outside, told_running}

abbrev FirstIf : {C : Type 0} → ℕ → Option (Attempt C) → Type 0
FirstIf n None = Unit {0}
FirstIf n (Some b) = b.first ≡ n

module _ {C : Type 0} (now : C) (a : Attempt C) where
  abbrev Same : CoreStep C → Type 0
  Same x = FirstIf a.first x.attempt

  either : (b : Bool) (x y : CoreStep C) → Same x → Same y → Same (cond b x y)
  either true x y f g = f
  either false x y f g = g

  word_same : (kept : Bool) (answer : Answer) → Same (core_word a kept answer)
  word_same true (Value w) = refl
  word_same false (Value w) = refl
  word_same kept answer = refl

  read_same : (o : Option ℕ) (answer : Answer) → Same (core_read a o answer)
  read_same (Some v) answer = refl
  read_same None answer = word_same a.kept answer

  store_same : (i : ℕ) (o : Option (ℕ × ℕ)) → Same (core_store a i o)
  store_same i None = tt
  store_same i (Some q) = refl

  swap_same : (b : Attempt C) (o : OpOutcome) (answer : Answer) → b.first ≡ a.first → Same (core_swap a b o answer)
  swap_same b o Won g = g
  swap_same b o (Lost n) g = refl
  swap_same b o Done g = refl
  swap_same b o (Value n) g = refl

  commit_same : (inner : List (Checkpoint C)) (kept : Bool) (ws : List (ℕ × ℕ)) (answer : Answer) → Same (core_commit a inner kept ws answer)
  commit_same [] true ws answer = store_same 0 (slice_get ws 0)
  commit_same [] false [] answer = tt
  commit_same [] false (q ∷ qs) answer = swap_same (record a { phase = Stores 0 }) outcome.Going answer refl
  commit_same (l ∷ ls) kept ws answer = refl

  cancel_same : (inner : List (Checkpoint C)) (kept : Bool) → Same (core_cancel a inner kept)
  cancel_same [] false = tt
  cancel_same [] true = refl
  cancel_same (l ∷ ls) kept = refl

  operation_same : (o : Op) (answer : Answer) → Same (core_operation now a o answer)
  operation_same op.Begin answer = refl
  operation_same (op.Read ad) answer = read_same (overlay_word ad a.writes) answer
  operation_same (op.Write ad v) answer = refl
  operation_same op.Commit answer = commit_same a.inner a.kept a.writes answer
  operation_same op.Cancel answer = cancel_same a.inner a.kept
  operation_same (op.CancelOuter levels) answer = cancel_same (drop (levels - 1) a.inner) a.kept
  operation_same op.Irrevocable answer = either a.kept _ _ refl (swap_same (record a { kept = true }) outcome.Done answer refl)
  operation_same op.Release answer = tt

  check_same : (o : Op) (v : ℕ) (answer : Answer) → Same (core_check a o v answer)
  check_same (op.Read ad) v (Value lock) = either (lock == a.snapshot) _ _ refl refl
  check_same o v answer = refl

  time_same : (answer : Answer) → Same (core_time a answer)
  time_same (Value lock) = either (lock % 2 == 0) _ _ refl refl
  time_same Done = refl
  time_same Won = refl
  time_same (Lost n) = refl

  compare_same : (time i : ℕ) (o : Option (ℕ × ℕ)) (answer : Answer) → Same (core_compare a time i o answer)
  compare_same time i (Some q) (Value w) = either (w == q.1) _ _ refl tt
  compare_same time i None (Value lock) = either (lock == time) _ _ refl refl
  compare_same time i o answer = refl

  phase_same : (q : Phase) (o : Op) (answer : Answer) → Same (core_phase now a q o answer)
  phase_same AtOperation o answer = operation_same o answer
  phase_same (ReadsLock v) o answer = check_same o v answer
  phase_same ValidatesTime o answer = time_same answer
  phase_same (ValidatesEntry time i) o answer = compare_same time i (slice_get a.reads i) answer
  phase_same (Stores i) op.Commit answer = store_same i (slice_get a.writes i)
  phase_same q o answer = refl

module _ {C : Type 0} (code : C → Effect C) (th : Thread C) where
  print_same : (a : Attempt C) → th.attempt ≡ Some a → (piece : List ℕ) (c : C) (kept : Bool) → FirstIf a.first (print_inside th piece c kept).thread.attempt
  print_same a e piece c true = subst (FirstIf a.first) (sym e) refl
  print_same a e piece c false = subst (FirstIf a.first) (sym e) refl

  own_same : (a : Attempt C) → th.attempt ≡ Some a → (x : Effect C) → FirstIf a.first (own_step th a x).thread.attempt
  own_same a e (Print piece c) = print_same a e piece c a.kept
  own_same a e x = subst (FirstIf a.first) (sym e) refl

  inside_same : (a : Attempt C) → th.attempt ≡ Some a → (x : Effect C) (o : Option Op) (answer : Answer) → FirstIf a.first (told_inside code th a x o answer).thread.attempt
  inside_same a e x None answer = own_same a e x
  inside_same a e x (Some o) answer = phase_same th.configuration a a.phase o answer

  -- the attempt goes on with its first snapshot, or is over
  told_same : (a : Attempt C) → th.attempt ≡ Some a → (answer : Answer) → FirstIf a.first (step_with code th answer).thread.attempt
  told_same a e answer = subst (λ o. FirstIf a.first (told_of code th o (code th.configuration) answer).thread.attempt) (sym e) (inside_same a e (code th.configuration) (op_of (code th.configuration) a.kept th.trapping) answer)

  -- an attempt begins with the value of the lock
  abbrev Begins : Access → Answer → Option (Attempt C) → Type 0
  Begins x answer None = Unit {0}
  Begins x answer (Some b) = (x ≡ LoadLock) × (answer ≡ Value b.first)

  one_of : (x : Access) (answer : Answer) (b : Bool) (y z : CoreStep C) → Begins x answer y.attempt → Begins x answer z.attempt → Begins x answer (cond b y z).attempt
  one_of x answer true y z f g = f
  one_of x answer false y z f g = g

  begin_first : (now : C) (answer : Answer) → Begins LoadLock answer (core_begin now answer).attempt
  begin_first now (Value lock) = one_of LoadLock (Value lock) (lock % 2 == 0) _ _ (refl, refl) tt
  begin_first now Done = tt
  begin_first now Won = tt
  begin_first now (Lost n) = tt

  module _ (e : th.attempt ≡ None) (answer : Answer) where
    still : (x : Access) → Begins x answer th.attempt
    still x = subst (Begins x answer) (sym e) tt

    running_begins : (x : Effect C) → Begins (outside_access Running x) answer (told_running code th x answer).thread.attempt
    running_begins (Begin c d) = begin_first th.configuration answer
    running_begins x = still _

    outside_begins : (s : Status) (x : Effect C) → Begins (outside_access s x) answer (told_outside code th s x answer).thread.attempt
    outside_begins Running x = running_begins x
    outside_begins HasEnded x = still _
    outside_begins (HasTrapped cause) x = still _

    told_begins : Begins (access code th) answer (step_with code th answer).thread.attempt
    told_begins = subst (λ o. Begins (access_of th o (code th.configuration)) answer (told_of code th o (code th.configuration) answer).thread.attempt) (sym e) (outside_begins th.status (code th.configuration))

-- one more answer
load_last : (n : ℕ) (hs : List Heard) (h : Heard) → h.access ≡ LoadLock → h.answer ≡ Value n → HasLoad n (hs ++ h ∷ [])
load_last n [] h e f = inl (e, f)
load_last n (x ∷ hs) h e f = inr (load_last n hs h e f)

load_front : (n : ℕ) (hs : List Heard) (h : Heard) → HasLoad n hs → HasLoad n (hs ++ h ∷ [])
load_front n [] h l = absurd l
load_front n (x ∷ hs) h (inl e) = inl e
load_front n (x ∷ hs) h (inr l) = inr (load_front n hs h l)

module _ {C : Type 0} (code : C → Effect C) (th : Thread C) (idle : th.attempt ≡ None) where
  -- after one more step: either the attempt was there, or it began with this answer
  one_step : (u : Thread C) (hs more : List Heard) (answer : Answer) (b : Attempt C) → (step_with code u answer).thread.attempt ≡ Some b → ((a : Attempt C) → u.attempt ≡ Some a → HasLoad a.first more) → ((access code u ≡ LoadLock) → answer ≡ Value b.first → HasLoad b.first more) → HasLoad b.first more
  one_step u hs more answer b e was began = at u.attempt refl
    where
      goes_on : (a : Attempt C) (o : Option (Attempt C)) → o ≡ Some b → FirstIf a.first o → b.first ≡ a.first
      goes_on a None f g = absurd (cc)
      goes_on a (Some c) f g = let same : c ≡ b = cc in ap (λ (y : Attempt C). y.first) (sym same) ∙ g

      begins : (o : Option (Attempt C)) → o ≡ Some b → Begins code u (access code u) answer o → (access code u ≡ LoadLock) × (answer ≡ Value b.first)
      begins None f g = absurd (cc)
      begins (Some c) f g = let same : c ≡ b = cc in (g.0, g.1 ∙ ap (λ (y : Attempt C). Value y.first) same)

      at : (o : Option (Attempt C)) → u.attempt ≡ o → HasLoad b.first more
      at None f = let g = begins (step_with code u answer).thread.attempt e (told_begins code u f answer) in began g.0 g.1
      at (Some a) f = let g = goes_on a (step_with code u answer).thread.attempt e (told_same code u a f answer) in subst (λ n. HasLoad n more) (sym g) (was a f)

  -- an attempt that a thread has which had none, began with one of the answers since
  pub first_heard : (n : ℕ) (hs : List Heard) (v : Thread C) → StepsHearing code th n hs v → (b : Attempt C) → v.attempt ≡ Some b → HasLoad b.first hs
  first_heard n hs v StepsHearing.none b e = let x : None ≡ Some b = sym idle ∙ e in absurd (cc)
  first_heard n hs v (StepsHearing.local_more k gs u r far) b e = one_step u gs gs Done b e (λ a f. first_heard k gs u r a f) (λ g f. absurd (cc))
  first_heard n hs v (StepsHearing.heard_more k gs u answer r far on) b e =
      one_step u gs (gs ++ record { access = access code u; answer = answer } ∷ []) answer b e (λ a f. load_front a.first gs _ (first_heard k gs u r a f)) (λ g f. load_last b.first gs (record { access = access code u; answer = answer }) g f)

-- so it is not below their floor
pub first_from : (n f : ℕ) (hs : List Heard) → LocksFrom n hs → HasLoad f hs → n ≤ f
first_from n f [] l h = absurd h
first_from n f (x ∷ hs) l (inl e) = l.0 f (λ i. Rattle.machine.specs.Answered.lock_value (e.0 i) (e.1 i))
first_from n f (x ∷ hs) l (inr h) = first_from n f hs l.1 h
