-- A step whose access gives no value sets no snapshot, so a local step depends on the thread's part alone.
use Rattle.std.proofs.Common.{◌≡◌, ◌-◌, ℕ, Bool, true, false, cond, List, [], ◌∷◌, Option, None, Some, refl, sym, ◌∙◌, ap, slice_get, drop}
use Rattle.syntax.specs.declared.thread_end.Status.{Status}
use Rattle.syntax.specs.declared.thread_end.Status.TheVariants.{Running, Ended as HasEnded, Trapped as HasTrapped}
use Rattle.write_log.specs.Overlay.{overlay_word}
use Rattle.bytecode.specs.Effects.{Effect}
use Rattle.bytecode.specs.Effects.Effect.{Print, Pure}
use Rattle.norec_core.specs.Attempts.{Attempt, Checkpoint}
use Rattle.norec_core.specs.Phases.{CoreStep, core_cancel, core_check, core_commit, core_compare, core_operation, core_phase, core_read, core_store, core_word}
use Rattle.norec_core.specs.declared.step.Answer.TheVariants.{Done}
use Rattle.norec_core.specs.declared.step.Op.{Op}
use Rattle.norec_core.specs.declared.step.Op.TheVariants as op
use Rattle.norec_core.specs.declared.step.Phase.{Phase}
use Rattle.norec_core.specs.declared.step.Phase.TheVariants.{AtOperation, ReadsLock, Stores, ValidatesEntry}
use Rattle.machine.specs.Answered.{local_step}
use Rattle.machine.specs.Threads.{Thread, op_of, own_step, print_inside, step_with, told_inside, told_of, told_outside, told_running}
use Rattle.machine.specs.Worlds.{Part, part_after}

module _ {C : Type 0} (now : C) (a : Attempt C) where
  word_quiet : (kept : Bool) → (core_word a kept Done).sets_snapshot ≡ false
  word_quiet true = refl
  word_quiet false = refl

  read_quiet : (o : Option ℕ) → (core_read a o Done).sets_snapshot ≡ false
  read_quiet (Some v) = refl
  read_quiet None = word_quiet a.kept

  store_quiet : (i : ℕ) (o : Option (ℕ × ℕ)) → (core_store a i o).sets_snapshot ≡ false
  store_quiet i None = refl
  store_quiet i (Some q) = refl

  commit_quiet : (inner : List (Checkpoint C)) (kept : Bool) (ws : List (ℕ × ℕ)) → (core_commit a inner kept ws Done).sets_snapshot ≡ false
  commit_quiet [] true ws = store_quiet 0 (slice_get ws 0)
  commit_quiet [] false [] = refl
  commit_quiet [] false (q ∷ qs) = refl
  commit_quiet (l ∷ ls) kept ws = refl

  cancel_quiet : (inner : List (Checkpoint C)) (kept : Bool) → (core_cancel a inner kept).sets_snapshot ≡ false
  cancel_quiet [] false = refl
  cancel_quiet [] true = refl
  cancel_quiet (l ∷ ls) kept = refl

  either : (b : Bool) (x y : CoreStep C) → x.sets_snapshot ≡ false → y.sets_snapshot ≡ false → (cond b x y).sets_snapshot ≡ false
  either true x y f g = f
  either false x y f g = g

  operation_quiet : (o : Op) → (core_operation now a o Done).sets_snapshot ≡ false
  operation_quiet op.Begin = refl
  operation_quiet (op.Read ad) = read_quiet (overlay_word ad a.writes)
  operation_quiet (op.Write ad v) = refl
  operation_quiet op.Commit = commit_quiet a.inner a.kept a.writes
  operation_quiet op.Cancel = cancel_quiet a.inner a.kept
  operation_quiet (op.CancelOuter levels) = cancel_quiet (drop (levels - 1) a.inner) a.kept
  operation_quiet op.Irrevocable = either a.kept _ _ refl refl
  operation_quiet op.Release = refl

  check_quiet : (o : Op) (v : ℕ) → (core_check a o v Done).sets_snapshot ≡ false
  check_quiet op.Begin v = refl
  check_quiet o v = refl

  compare_quiet : (time i : ℕ) (o : Option (ℕ × ℕ)) → (core_compare a time i o Done).sets_snapshot ≡ false
  compare_quiet time i None = refl
  compare_quiet time i (Some q) = refl

  phase_quiet : (q : Phase) (o : Op) → (core_phase now a q o Done).sets_snapshot ≡ false
  phase_quiet AtOperation o = operation_quiet o
  phase_quiet (ReadsLock v) o = check_quiet o v
  phase_quiet (ValidatesEntry time i) o = compare_quiet time i (slice_get a.reads i)
  phase_quiet (Stores i) op.Commit = store_quiet i (slice_get a.writes i)
  phase_quiet q o = refl

module _ {C : Type 0} (code : C → Effect C) (th : Thread C) where
  running_quiet : (x : Effect C) → (told_running code th x Done).sets_snapshot ≡ false
  running_quiet (Pure c) = refl
  running_quiet x = refl

  outside_quiet : (s : Status) (x : Effect C) → (told_outside code th s x Done).sets_snapshot ≡ false
  outside_quiet Running x = running_quiet x
  outside_quiet HasEnded x = refl
  outside_quiet (HasTrapped cause) x = refl

  print_quiet : (piece : List ℕ) (c : C) (kept : Bool) → (print_inside th piece c kept).sets_snapshot ≡ false
  print_quiet piece c true = refl
  print_quiet piece c false = refl

  own_quiet : (a : Attempt C) (x : Effect C) → (own_step th a x).sets_snapshot ≡ false
  own_quiet a (Print piece c) = print_quiet piece c a.kept
  own_quiet a x = refl

  inside_quiet : (a : Attempt C) (x : Effect C) (o : Option Op) → (told_inside code th a x o Done).sets_snapshot ≡ false
  inside_quiet a x None = own_quiet a x
  inside_quiet a x (Some o) = phase_quiet th.configuration a a.phase o

  pub told_quiet : (step_with code th Done).sets_snapshot ≡ false
  told_quiet = at th.attempt
    where
      at : (o : Option (Attempt C)) → (told_of code th o (code th.configuration) Done).sets_snapshot ≡ false
      at None = outside_quiet th.status (code th.configuration)
      at (Some a) = inside_quiet a (code th.configuration) (op_of (code th.configuration) a.kept th.trapping)

-- whatever the words are, a local step leaves the same part
pub local_part : {C : Type 0} (code : C → Effect C) (words : List ℕ) (p : Part C) → part_after words p (step_with code p.thread Done) ≡ local_step code p
local_part code words p = ap (λ (b : Bool). record (local_step code p) { base = cond b words p.base }) (told_quiet code p.thread) ∙ ap (λ (b : Bool). record (local_step code p) { base = cond b p.base p.base }) (sym (told_quiet code p.thread))
