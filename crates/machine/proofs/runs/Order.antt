-- An attempt that goes on keeps its first snapshot, and what takes effect has its last one.
use Rattle.std.proofs.Common.{◌≡◌, ◌-◌, ◌==◌, ◌%◌, ℕ, Bool, true, false, cond, List, [], ◌∷◌, Option, None, Some, refl, sym, ◌∙◌, ap, subst, slice_get, drop}
use Rattle.std.proofs.lemmas.Bool.{eqb-true}
use Rattle.syntax.specs.declared.thread_end.Status.{Status}
use Rattle.syntax.specs.declared.thread_end.Status.TheVariants.{Running, Ended as HasEnded, Trapped as HasTrapped}
use Rattle.write_log.specs.Overlay.{overlay_word}
use Rattle.bytecode.specs.Effects.{Effect}
use Rattle.bytecode.specs.Effects.Effect.{Begin, Cancel, CancelOuter, Commit, End, Irrevocable, Print, Pure, Read, Traps, Write}
use Rattle.norec_core.specs.Attempts.{Attempt, Checkpoint, Completed}
use Rattle.norec_core.specs.Phases.{CoreStep, core_begin, core_cancel, core_check, core_commit, core_compare, core_operation, core_phase, core_read, core_store, core_swap, core_time, core_word, idle, on_snapshot}
use Rattle.norec_core.specs.declared.step.Answer.{Answer}
use Rattle.norec_core.specs.declared.step.Answer.TheVariants.{Lost, Value, Won}
use Rattle.norec_core.specs.declared.step.Op.{Op}
use Rattle.norec_core.specs.declared.step.OpOutcome.{OpOutcome}
use Rattle.norec_core.specs.declared.step.Phase.{Phase}
use Rattle.norec_core.specs.declared.step.Phase.TheVariants.{AtOperation, ReadsLock, Stores, ValidatesEntry, ValidatesTime}
use Rattle.machine.specs.Threads.{Next, Thread, access, access_of, op_of, outside_access, own_step, print_inside, step_with, told_inside, told_of, told_outside}
use Rattle.machine.specs.Worlds.{answer}
use Rattle.norec_core.specs.declared.step.Op.TheVariants as op
use Rattle.norec_core.specs.declared.step.OpOutcome.TheVariants as outcome

abbrev pub SameFirst : {C : Type 0} → Option (Attempt C) → Option (Attempt C) → Type 0
SameFirst (Some a) (Some b) = b.first ≡ a.first
SameFirst (Some a) None = Unit {0}
SameFirst None o = Unit {0}

abbrev pub CompletedAt : {C : Type 0} → Attempt C → Option Completed → Type 0
CompletedAt a None = Unit {0}
CompletedAt a (Some x) = x.snapshot ≡ a.snapshot

module _ {C : Type 0} (now : C) (a : Attempt C) where
  abbrev Goes : CoreStep C → Type 0
  Goes n = SameFirst (Some a) n.attempt × CompletedAt a n.completed

  either : (b : Bool) (m n : CoreStep C) → Goes m → Goes n → Goes (cond b m n)
  either true m n x y = x
  either false m n x y = y

  word : (kept : Bool) (ans : Answer) → Goes (core_word a kept ans)
  word true (Value v) = (refl, tt)
  word false (Value v) = (refl, tt)
  word true _ = (refl, tt)
  word false _ = (refl, tt)

  read : (o : Option ℕ) (ans : Answer) → Goes (core_read a o ans)
  read (Some v) ans = (refl, tt)
  read None ans = word a.kept ans

  store : (i : ℕ) (o : Option (ℕ × ℕ)) → Goes (core_store a i o)
  store i None = (tt, refl)
  store i (Some q) = (refl, tt)

  swap : (b : Attempt C) (o : OpOutcome) (ans : Answer) → b.first ≡ a.first → Goes (core_swap a b o ans)
  swap b o Won e = (e, tt)
  swap b o (Lost n) e = (refl, tt)
  swap b o _ e = (refl, tt)

  commit : (inner : List (Checkpoint C)) (kept : Bool) (ws : List (ℕ × ℕ)) (ans : Answer) → Goes (core_commit a inner kept ws ans)
  commit [] true ws ans = store 0 (slice_get ws 0)
  commit [] false [] ans = (tt, refl)
  commit [] false (q ∷ qs) ans = swap (record a { phase = Stores 0 }) outcome.Going ans refl
  commit (l ∷ ls) kept ws ans = (refl, tt)

  cancel : (inner : List (Checkpoint C)) (kept : Bool) → Goes (core_cancel a inner kept)
  cancel [] false = (tt, refl)
  cancel [] true = (refl, tt)
  cancel (l ∷ ls) kept = (refl, tt)

  operation : (o : Op) (ans : Answer) → Goes (core_operation now a o ans)
  operation op.Begin ans = (refl, tt)
  operation (op.Read ad) ans = read (overlay_word ad a.writes) ans
  operation (op.Write ad v) ans = (refl, tt)
  operation op.Commit ans = commit a.inner a.kept a.writes ans
  operation op.Cancel ans = cancel a.inner a.kept
  operation (op.CancelOuter levels) ans = cancel (drop (levels - 1) a.inner) a.kept
  operation op.Irrevocable ans = either a.kept _ _ (refl, tt) (swap (record a { kept = true }) outcome.Done ans refl)
  operation op.Release ans = (tt, refl)

  check : (o : Op) (v : ℕ) (ans : Answer) → Goes (core_check a o v ans)
  check (op.Read ad) v (Value l) = either (l == a.snapshot) _ _ (refl, tt) (refl, tt)
  check _ v _ = (refl, tt)

  time : (ans : Answer) → Goes (core_time a ans)
  time (Value l) = either ((l % 2) == 0) _ _ (refl, tt) (refl, tt)
  time _ = (refl, tt)

  compare : (t i : ℕ) (o : Option (ℕ × ℕ)) (ans : Answer) → Goes (core_compare a t i o ans)
  compare t i (Some q) (Value w) = either (w == q.1) _ _ (refl, tt) (tt, tt)
  compare t i None (Value l) = either (l == t) _ _ (refl, tt) (refl, tt)
  compare t i _ _ = (refl, tt)

  stored : (o : Op) (i : ℕ) (ans : Answer) → Goes (core_phase now a (Stores i) o ans)
  stored op.Commit i ans = store i (slice_get a.writes i)
  stored _ i ans = (refl, tt)

  pub core_goes : (q : Phase) (o : Op) (ans : Answer) → Goes (core_phase now a q o ans)
  core_goes AtOperation o ans = operation o ans
  core_goes (ReadsLock v) o ans = check o v ans
  core_goes ValidatesTime o ans = time ans
  core_goes (ValidatesEntry t i) o ans = compare t i (slice_get a.reads i) ans
  core_goes (Stores i) o ans = stored o i ans

abbrev pub StepGoes : {C : Type 0} → Option (Attempt C) → Next C → Type 0
StepGoes (Some a) n = SameFirst (Some a) n.thread.attempt × CompletedAt a n.completed
StepGoes None n = (n.completed ≡ None) × Unit {0}

module _ {C : Type 0} (code : C → Effect C) where
  begin_none : (now : C) (ans : Answer) → (core_begin now ans).completed ≡ None
  begin_none now (Value l) = at ((l % 2) == 0)
    where
      at : (b : Bool) → (cond b (on_snapshot (record { saved = now; first = l; snapshot = l; reads = []; writes = []; inner = []; kept = false; phase = AtOperation }) outcome.Done) idle).completed ≡ None
      at true = refl
      at false = refl
  begin_none now _ = refl

  outside_none : (th : Thread C) (s : Status) (x : Effect C) (ans : Answer) → (told_outside code th s x ans).completed ≡ None
  outside_none th Running (Begin c d) ans = begin_none th.configuration ans
  outside_none th s x ans = refl

  module _ (th : Thread C) (a : Attempt C) (e : th.attempt ≡ Some a) where
    same : SameFirst (Some a) th.attempt
    same = subst (SameFirst (Some a)) (sym e) refl

    print_goes : (piece : List ℕ) (c : C) (kept : Bool) → StepGoes (Some a) (print_inside th piece c kept)
    print_goes piece c true = (same, tt)
    print_goes piece c false = (same, tt)

    own_goes : (x : Effect C) → StepGoes (Some a) (own_step th a x)
    own_goes (Print piece c) = print_goes piece c a.kept
    own_goes _ = (same, tt)

    inside_goes : (x : Effect C) (o : Option Op) (ans : Answer) → StepGoes (Some a) (told_inside code th a x o ans)
    inside_goes x None ans = own_goes x
    inside_goes x (Some o) ans = core_goes th.configuration a a.phase o ans

  pub goes : (th : Thread C) (ans : Answer) → StepGoes th.attempt (step_with code th ans)
  goes th ans = at th.attempt refl
    where
      at : (o : Option (Attempt C)) → th.attempt ≡ o → StepGoes o (told_of code th o (code th.configuration) ans)
      at None e = (outside_none th th.status (code th.configuration) ans, tt)
      at (Some a) e = inside_goes th a e (code th.configuration) (op_of (code th.configuration) a.kept th.trapping) ans

  -- a new attempt begins with the lock that it loads
  begun_lock : (now : C) (l : ℕ) (b : Attempt C) (t : Bool) → (cond t (on_snapshot (record { saved = now; first = l; snapshot = l; reads = []; writes = []; inner = []; kept = false; phase = AtOperation }) outcome.Done) idle).attempt ≡ Some b → (t ≡ true) × (b.first ≡ l)
  begun_lock now l b true e = (refl, let r : record { saved = now; first = l; snapshot = l; reads = []; writes = []; inner = []; kept = false; phase = AtOperation } ≡ b = cc in sym (ap (λ (x : Attempt C). x.first) r))
  begun_lock now l b false e = absurd (cc)

  pub fresh : (th : Thread C) (lock : ℕ) (words : List ℕ) (b : Attempt C) → th.attempt ≡ None → (step_with code th (answer lock words (access code th))).thread.attempt ≡ Some b → (lock % 2 ≡ 0) × (b.first ≡ lock)
  fresh th lock words b none e = status th.status (code th.configuration) (subst Goal none e)
    where
      Goal : Option (Attempt C) → Type 0
      Goal o = (told_of code th o (code th.configuration) (answer lock words (access_of th o (code th.configuration)))).thread.attempt ≡ Some b

      old : th.attempt ≡ Some b → (lock % 2 ≡ 0) × (b.first ≡ lock)
      old f = absurd (let x : None ≡ Some b = sym none ∙ f in cc)

      status : (s : Status) (x : Effect C) → (told_outside code th s x (answer lock words (outside_access s x))).thread.attempt ≡ Some b → (lock % 2 ≡ 0) × (b.first ≡ lock)
      status Running (Begin c d) f = let r = begun_lock th.configuration lock b ((lock % 2) == 0) f in (eqb-true (lock % 2) 0 r.0, r.1)
      status Running (Pure c) f = old f
      status Running (Print piece c) f = old f
      status Running (Read ad k) f = old f
      status Running (Write ad v c) f = old f
      status Running (Commit c) f = old f
      status Running Cancel f = old f
      status Running (CancelOuter levels) f = old f
      status Running (Irrevocable c) f = old f
      status Running (Traps cause) f = old f
      status Running End f = old f
      status HasEnded x f = old f
      status (HasTrapped cause) x f = old f
