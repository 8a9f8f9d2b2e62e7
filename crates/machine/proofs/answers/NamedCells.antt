-- An attempt's logs name cells of the memory alone, so a thread loads and stores cells alone.
use Rattle.std.proofs.Common.{◌≡◌, ◌-◌, ◌<◌, ◌==◌, ◌%◌, ℕ, zero, suc, Bool, true, false, cond, List, [], ◌∷◌, Option, None, Some, refl, subst, length, slice_get, drop}
use Rattle.std.specs.List.{AllByRecursion}
use Rattle.syntax.specs.declared.thread_end.Status.{Status}
use Rattle.syntax.specs.declared.thread_end.Status.TheVariants.{Running, Ended as HasEnded, Trapped as HasTrapped}
use Rattle.write_log.specs.Overlay.{with_write, overlay_word}
use Rattle.bytecode.specs.Effects.{Effect, FitsCells}
use Rattle.bytecode.specs.Effects.Effect.{Begin, Print, Read, Traps, Write}
use Rattle.norec_core.specs.Attempts.{Attempt, Checkpoint}
use Rattle.norec_core.specs.Phases.{CoreStep, commit_access, core_begin, core_cancel, core_check, core_commit, core_compare, core_operation, core_phase, core_read, core_store, core_swap, core_time, core_word, entry_access, operation_access, phase_access, read_access, store_access}
use Rattle.norec_core.specs.declared.step.Access.{Access}
use Rattle.norec_core.specs.declared.step.Access.TheVariants.{Local, StoreLock, Swap}
use Rattle.norec_core.specs.declared.step.Answer.{Answer}
use Rattle.norec_core.specs.declared.step.Answer.TheVariants.{Done, Lost, Value, Won}
use Rattle.norec_core.specs.declared.step.Op.{Op}
use Rattle.norec_core.specs.declared.step.Op.TheVariants as op
use Rattle.norec_core.specs.declared.step.OpOutcome.{OpOutcome}
use Rattle.norec_core.specs.declared.step.OpOutcome.TheVariants as outcome
use Rattle.norec_core.specs.declared.step.Phase.{Phase}
use Rattle.norec_core.specs.declared.step.Phase.TheVariants.{AtOperation, ReadsLock, Stores, ValidatesEntry, ValidatesTime}
use Rattle.machine.specs.NamedCells.{AccessFits, AreOfCells, LogsFit, LogsFitIf}
use Rattle.machine.specs.Threads.{Thread, access, access_of, inside_access, op_of, outside_access, own_step, print_inside, step_with, told_inside, told_of, told_outside, told_running}
use Rattle.machine.proofs.Levels.{all_left}
use Rattle.machine.proofs.parts.Part.{each_append}

abbrev OpFits : ℕ → Op → Type 0
OpFits cells (op.Read ad) = ad < cells
OpFits cells (op.Write ad v) = ad < cells
OpFits cells _ = Unit {0}

pub all_at : {X : Type 0} (P : X → Type 0) (xs : List X) (i : ℕ) (x : X) → AllByRecursion P xs → slice_get xs i ≡ Some x → P x
all_at P [] i x all e = absurd (cc)
all_at P (y ∷ xs) zero x all e = let r : y ≡ x = cc in subst P r all.0
all_at P (y ∷ xs) (suc i) x all e = all_at P xs i x all.1 e

put_cells : (cells ad v : ℕ) (ps : List (ℕ × ℕ)) → ad < cells → AreOfCells cells ps → AreOfCells cells (with_write ad v ps)
put_cells cells ad v [] lt all = (lt, tt)
put_cells cells ad v (p ∷ ps) lt all = at (p.0 == ad) (put_cells cells ad v ps lt all.1)
  where
    at : (b : Bool) → AreOfCells cells (with_write ad v ps) → AreOfCells cells (cond b ((ad, v) ∷ ps) (p ∷ with_write ad v ps))
    at true ih = (lt, all.1)
    at false ih = (all.0, ih)

module _ {C : Type 0} (cells : ℕ) where
  either : (b : Bool) (x y : CoreStep C) → LogsFitIf cells x.attempt → LogsFitIf cells y.attempt → LogsFitIf cells (cond b x y).attempt
  either true x y f g = f
  either false x y f g = g

  module _ (now : C) (a : Attempt C) (f : LogsFit cells a) where
    rephased : (q : Phase) → LogsFit cells (record a { phase = q })
    rephased q = record { reads = f.reads; writes = f.writes; marks = f.marks }

    word_fits : (kept : Bool) (answer : Answer) → LogsFitIf cells (core_word a kept answer).attempt
    word_fits true (Value w) = f
    word_fits false (Value w) = rephased (ReadsLock w)
    word_fits kept answer = f

    read_fits : (o : Option ℕ) (answer : Answer) → LogsFitIf cells (core_read a o answer).attempt
    read_fits (Some v) answer = f
    read_fits None answer = word_fits a.kept answer

    store_fits : (i : ℕ) (o : Option (ℕ × ℕ)) → LogsFitIf cells (core_store a i o).attempt
    store_fits i None = tt
    store_fits i (Some q) = rephased (Stores (suc i))

    swap_fits : (b : Attempt C) (o : OpOutcome) (answer : Answer) → LogsFit cells b → LogsFitIf cells (core_swap a b o answer).attempt
    swap_fits b o Won g = g
    swap_fits b o (Lost n) g = rephased ValidatesTime
    swap_fits b o Done g = f
    swap_fits b o (Value n) g = f

    commit_fits : (inner : List (Checkpoint C)) (kept : Bool) (ws : List (ℕ × ℕ)) (answer : Answer) → AllByRecursion (λ (k : Checkpoint C). AreOfCells cells k.writes) inner → LogsFitIf cells (core_commit a inner kept ws answer).attempt
    commit_fits [] true ws answer marks = store_fits 0 (slice_get ws 0)
    commit_fits [] false [] answer marks = tt
    commit_fits [] false (q ∷ qs) answer marks = swap_fits (record a { phase = Stores 0 }) outcome.Going answer (rephased (Stores 0))
    commit_fits (l ∷ ls) kept ws answer marks = record { reads = f.reads; writes = f.writes; marks = marks.1 }

    cancel_fits : (inner : List (Checkpoint C)) (kept : Bool) → AllByRecursion (λ (k : Checkpoint C). AreOfCells cells k.writes) inner → LogsFitIf cells (core_cancel a inner kept).attempt
    cancel_fits [] false marks = tt
    cancel_fits [] true marks = f
    cancel_fits (l ∷ ls) kept marks = record { reads = f.reads; writes = marks.0; marks = marks.1 }

    irrevocable_fits : (kept : Bool) (answer : Answer) → LogsFitIf cells (core_swap a (record a { kept = true }) outcome.Done answer).attempt
    irrevocable_fits kept answer = swap_fits (record a { kept = true }) outcome.Done answer (record { reads = f.reads; writes = f.writes; marks = f.marks })

    operation_fits : (o : Op) (answer : Answer) → OpFits cells o → LogsFitIf cells (core_operation now a o answer).attempt
    operation_fits op.Begin answer fit = record { reads = f.reads; writes = f.writes; marks = (f.writes, f.marks) }
    operation_fits (op.Read ad) answer fit = read_fits (overlay_word ad a.writes) answer
    operation_fits (op.Write ad v) answer fit = record { reads = f.reads; writes = put_cells cells ad v a.writes fit f.writes; marks = f.marks }
    operation_fits op.Commit answer fit = commit_fits a.inner a.kept a.writes answer f.marks
    operation_fits op.Cancel answer fit = cancel_fits a.inner a.kept f.marks
    operation_fits (op.CancelOuter levels) answer fit = cancel_fits (drop (levels - 1) a.inner) a.kept (all_left (λ (k : Checkpoint C). AreOfCells cells k.writes) (levels - 1) a.inner f.marks)
    operation_fits op.Irrevocable answer fit = either a.kept _ _ f (irrevocable_fits a.kept answer)
    operation_fits op.Release answer fit = tt

    check_fits : (o : Op) (v : ℕ) (answer : Answer) → OpFits cells o → LogsFitIf cells (core_check a o v answer).attempt
    check_fits (op.Read ad) v (Value lock) fit = either (lock == a.snapshot) _ _ (record { reads = each_append (λ (q : ℕ × ℕ). q.0 < cells) a.reads (ad, v) f.reads fit; writes = f.writes; marks = f.marks }) (rephased ValidatesTime)
    check_fits o v answer fit = f

    time_fits : (answer : Answer) → LogsFitIf cells (core_time a answer).attempt
    time_fits (Value lock) = either (lock % 2 == 0) _ _ (rephased (ValidatesEntry lock 0)) f
    time_fits Done = f
    time_fits Won = f
    time_fits (Lost n) = f

    compare_fits : (time i : ℕ) (o : Option (ℕ × ℕ)) (answer : Answer) → LogsFitIf cells (core_compare a time i o answer).attempt
    compare_fits time i (Some q) (Value w) = either (w == q.1) _ _ (rephased (ValidatesEntry time (suc i))) tt
    compare_fits time i None (Value lock) = either (lock == time) _ _ (record { reads = f.reads; writes = f.writes; marks = f.marks }) (rephased ValidatesTime)
    compare_fits time i o answer = f

    phase_fits : (q : Phase) (o : Op) (answer : Answer) → OpFits cells o → LogsFitIf cells (core_phase now a q o answer).attempt
    phase_fits AtOperation o answer fit = operation_fits o answer fit
    phase_fits (ReadsLock v) o answer fit = check_fits o v answer fit
    phase_fits ValidatesTime o answer fit = time_fits answer
    phase_fits (ValidatesEntry time i) o answer fit = compare_fits time i (slice_get a.reads i) answer
    phase_fits (Stores i) op.Commit answer fit = store_fits i (slice_get a.writes i)
    phase_fits q o answer fit = f

    -- accesses
    read_cell : (ad : ℕ) (o : Option ℕ) → ad < cells → AccessFits cells (read_access ad o)
    read_cell ad None lt = lt
    read_cell ad (Some v) lt = tt

    entry_cell : (i : ℕ) (o : Option (ℕ × ℕ)) → slice_get a.reads i ≡ o → AccessFits cells (entry_access o)
    entry_cell i None e = tt
    entry_cell i (Some q) e = all_at (λ (q : ℕ × ℕ). q.0 < cells) a.reads i q f.reads e

    store_cell : (ws : List (ℕ × ℕ)) (i : ℕ) (o : Option (ℕ × ℕ)) → AreOfCells cells ws → slice_get ws i ≡ o → AccessFits cells (store_access a.snapshot o)
    store_cell ws i None all e = tt
    store_cell ws i (Some q) all e = all_at (λ (q : ℕ × ℕ). q.0 < cells) ws i q all e

    commit_cell : (inner : List (Checkpoint C)) (kept : Bool) (ws : List (ℕ × ℕ)) → AreOfCells cells ws → AccessFits cells (commit_access a inner kept ws)
    commit_cell [] true ws all = store_cell ws 0 (slice_get ws 0) all refl
    commit_cell [] false [] all = tt
    commit_cell [] false (q ∷ qs) all = tt
    commit_cell (l ∷ ls) kept ws all = tt

    kept_cell : (b : Bool) (x y : Access) → AccessFits cells x → AccessFits cells y → AccessFits cells (cond b x y)
    kept_cell true x y g h = g
    kept_cell false x y g h = h

    operation_cell : (o : Op) → OpFits cells o → AccessFits cells (operation_access a o)
    operation_cell op.Begin fit = tt
    operation_cell (op.Read ad) fit = read_cell ad (overlay_word ad a.writes) fit
    operation_cell (op.Write ad v) fit = tt
    operation_cell op.Commit fit = commit_cell a.inner a.kept a.writes f.writes
    operation_cell op.Cancel fit = tt
    operation_cell (op.CancelOuter levels) fit = tt
    operation_cell op.Irrevocable fit = kept_cell a.kept Local (Swap a.snapshot) tt tt
    operation_cell op.Release fit = kept_cell a.kept (StoreLock (Rattle.std.specs.Prelude.◌+◌ a.snapshot 2)) Local tt tt

    phase_cell : (q : Phase) (o : Op) → OpFits cells o → AccessFits cells (phase_access a q o)
    phase_cell AtOperation o fit = operation_cell o fit
    phase_cell (ReadsLock v) o fit = tt
    phase_cell ValidatesTime o fit = tt
    phase_cell (ValidatesEntry time i) o fit = entry_cell i (slice_get a.reads i) refl
    phase_cell (Stores i) o fit = store_cell a.writes i (slice_get a.writes i) f.writes refl

  begin_fits : (now : C) (answer : Answer) → LogsFitIf cells (core_begin now answer).attempt
  begin_fits now (Value lock) = either (lock % 2 == 0) _ _ (record { reads = tt; writes = tt; marks = tt }) tt
  begin_fits now Done = tt
  begin_fits now Won = tt
  begin_fits now (Lost n) = tt

module _ {C : Type 0} (code : C → Effect C) (bounds : List ℕ) (fits : FitsCells code bounds) (th : Thread C) where
  abbrev OpIfFits : Option Op → Type 0
  OpIfFits None = Unit {0}
  OpIfFits (Some o) = OpFits (length bounds) o

  op_fits : (x : Effect C) (kept trapping : Bool) → code th.configuration ≡ x → OpIfFits (op_of x kept trapping)
  op_fits (Read ad k) kept trapping e = fits.reads th.configuration ad k e
  op_fits (Write ad v c) kept trapping e = (fits.writes th.configuration c ad v e).0
  op_fits (Traps cause) true false e = tt
  op_fits x kept trapping e = tt

  running_fits : (x : Effect C) (answer : Answer) → LogsFitIf (length bounds) th.attempt → LogsFitIf (length bounds) (told_running code th x answer).thread.attempt
  running_fits (Begin c d) answer f = begin_fits (length bounds) th.configuration answer
  running_fits x answer f = f

  outside_fits : (s : Status) (x : Effect C) (answer : Answer) → LogsFitIf (length bounds) th.attempt → LogsFitIf (length bounds) (told_outside code th s x answer).thread.attempt
  outside_fits Running x answer f = running_fits x answer f
  outside_fits HasEnded x answer f = f
  outside_fits (HasTrapped cause) x answer f = f

  print_fits : (piece : List ℕ) (c : C) (kept : Bool) → LogsFitIf (length bounds) th.attempt → LogsFitIf (length bounds) (print_inside th piece c kept).thread.attempt
  print_fits piece c true f = f
  print_fits piece c false f = f

  own_fits : (a : Attempt C) (x : Effect C) → LogsFitIf (length bounds) th.attempt → LogsFitIf (length bounds) (own_step th a x).thread.attempt
  own_fits a (Print piece c) f = print_fits piece c a.kept f
  own_fits a x f = f

  inside_fits : (a : Attempt C) (x : Effect C) (o : Option Op) (answer : Answer) → OpIfFits o → LogsFit (length bounds) a → LogsFitIf (length bounds) th.attempt → LogsFitIf (length bounds) (told_inside code th a x o answer).thread.attempt
  inside_fits a x None answer fit g f = own_fits a x f
  inside_fits a x (Some o) answer fit g f = phase_fits (length bounds) th.configuration a g a.phase o answer fit

  pub told_fits : (answer : Answer) → LogsFitIf (length bounds) th.attempt → LogsFitIf (length bounds) (step_with code th answer).thread.attempt
  told_fits answer f = at th.attempt refl f
    where
      at : (o : Option (Attempt C)) → th.attempt ≡ o → LogsFitIf (length bounds) o → LogsFitIf (length bounds) (told_of code th o (code th.configuration) answer).thread.attempt
      at None e g = outside_fits th.status (code th.configuration) answer f
      at (Some a) e g = inside_fits a (code th.configuration) (op_of (code th.configuration) a.kept th.trapping) answer (op_fits (code th.configuration) a.kept th.trapping refl) g f

  outside_cell : (s : Status) (x : Effect C) → AccessFits (length bounds) (outside_access s x)
  outside_cell Running (Begin c d) = tt
  outside_cell s x = tt

  inside_cell : (a : Attempt C) (o : Option Op) → OpIfFits o → LogsFit (length bounds) a → AccessFits (length bounds) (inside_access a o)
  inside_cell a None fit g = tt
  inside_cell a (Some o) fit g = phase_cell (length bounds) th.configuration a g a.phase o fit

  -- the thread's next access names a cell
  pub access_fits : LogsFitIf (length bounds) th.attempt → AccessFits (length bounds) (access code th)
  access_fits f = at th.attempt f
    where
      at : (o : Option (Attempt C)) → LogsFitIf (length bounds) o → AccessFits (length bounds) (access_of th o (code th.configuration))
      at None g = outside_cell th.status (code th.configuration)
      at (Some a) g = inside_cell a (op_of (code th.configuration) a.kept th.trapping) (op_fits (code th.configuration) a.kept th.trapping refl) g
