-- A step of the core under a map of what a begin saves, by cases.
use Rattle.std.proofs.Common.{◌≡◌, ◌==◌, ◌%◌, ◌-◌, ◌∙◌, ℕ, suc, Bool, true, false, cond, List, [], ◌∷◌, ◌++◌, Option, None, Some, refl, ap, drop, slice_get, map}
use Rattle.std.proofs.lemmas.List.{drop-map}
use Rattle.write_log.specs.Overlay.{overlay_word}
use Rattle.norec_core.specs.declared.step.Op.{Op}
use Rattle.norec_core.specs.declared.step.Op.TheVariants as op
use Rattle.norec_core.specs.declared.step.Answer.{Answer}
use Rattle.norec_core.specs.declared.step.Answer.TheVariants.{Done, Value, Won, Lost}
use Rattle.norec_core.specs.declared.step.OpOutcome.{OpOutcome}
use Rattle.norec_core.specs.declared.step.OpOutcome.TheVariants as outcome
use Rattle.norec_core.specs.declared.step.Phase.{Phase}
use Rattle.norec_core.specs.declared.step.Phase.TheVariants.{AtOperation, ReadsLock, ValidatesTime, ValidatesEntry, Stores}
use Rattle.norec_core.specs.Attempts.{Checkpoint, Attempt}
use Rattle.norec_core.specs.Phases.{CoreStep, on, on_snapshot, drop_step, validating, idle, core_word, core_read, core_store, core_swap, core_commit, core_cancel, core_operation, core_check, core_time, core_compare, core_phase, core_begin, core_step, commit_access, operation_access, phase_access, core_access}
use Rattle.norec_core.specs.Saved.{if_some, checkpoint_as, attempt_as, core_step_as, Commutes}

module _ {S T : Type 0} (f : S → T) where
  abbrev seen : Attempt S → Attempt T
  seen a = attempt_as f a

  -- the access
  commit_same : (a : Attempt S) (inner : List (Checkpoint S)) (kept : Bool) (ws : List (ℕ × ℕ)) → commit_access (seen a) (map (checkpoint_as f) inner) kept ws ≡ commit_access a inner kept ws
  commit_same a [] true ws = refl
  commit_same a [] false [] = refl
  commit_same a [] false (p ∷ ps) = refl
  commit_same a (l ∷ ls) kept ws = refl

  at_same : (a : Attempt S) (o : Op) → operation_access (seen a) o ≡ operation_access a o
  at_same a op.Begin = refl
  at_same a (op.Read ad) = refl
  at_same a (op.Write ad v) = refl
  at_same a op.Commit = commit_same a a.inner a.kept a.writes
  at_same a op.Cancel = refl
  at_same a (op.CancelOuter n) = refl
  at_same a op.Irrevocable = refl
  at_same a op.Release = refl

  phase_same : (a : Attempt S) (q : Phase) (o : Op) → phase_access (seen a) q o ≡ phase_access a q o
  phase_same a AtOperation o = at_same a o
  phase_same a (ReadsLock v) o = refl
  phase_same a ValidatesTime o = refl
  phase_same a (ValidatesEntry time i) o = refl
  phase_same a (Stores i) o = refl

  access_same : (o : Option (Attempt S)) (x : Op) → core_access (if_some (attempt_as f) o) x ≡ core_access o x
  access_same None op.Begin = refl
  access_same None (op.Read ad) = refl
  access_same None (op.Write ad v) = refl
  access_same None op.Commit = refl
  access_same None op.Cancel = refl
  access_same None (op.CancelOuter n) = refl
  access_same None op.Irrevocable = refl
  access_same None op.Release = refl
  access_same (Some a) x = phase_same a a.phase x

  -- the step
  abbrev to : CoreStep S → CoreStep T
  to n = core_step_as f n

  word : (a : Attempt S) (kept : Bool) (x : Answer) → core_word (seen a) kept x ≡ to (core_word a kept x)
  word a true (Value w) = refl
  word a false (Value w) = refl
  word a true Done = refl
  word a false Done = refl
  word a true Won = refl
  word a false Won = refl
  word a true (Lost n) = refl
  word a false (Lost n) = refl

  read : (a : Attempt S) (o : Option ℕ) (x : Answer) → core_read (seen a) o x ≡ to (core_read a o x)
  read a (Some v) x = refl
  read a None x = word a a.kept x

  store : (a : Attempt S) (i : ℕ) (o : Option (ℕ × ℕ)) → core_store (seen a) i o ≡ to (core_store a i o)
  store a i None = refl
  store a i (Some p) = refl

  swap : (a b : Attempt S) (o : OpOutcome) (x : Answer) → core_swap (seen a) (seen b) o x ≡ to (core_swap a b o x)
  swap a b o Won = refl
  swap a b o (Lost n) = refl
  swap a b o Done = refl
  swap a b o (Value n) = refl

  commit : (a : Attempt S) (inner : List (Checkpoint S)) (kept : Bool) (ws : List (ℕ × ℕ)) (x : Answer) → core_commit (seen a) (map (checkpoint_as f) inner) kept ws x ≡ to (core_commit a inner kept ws x)
  commit a [] true ws x = store a 0 (slice_get ws 0)
  commit a [] false [] x = refl
  commit a [] false (p ∷ ps) x = swap a (record a { phase = Stores 0 }) outcome.Going x
  commit a (l ∷ ls) kept ws x = refl

  cancel : (a : Attempt S) (inner : List (Checkpoint S)) (kept : Bool) → core_cancel (seen a) (map (checkpoint_as f) inner) kept ≡ to (core_cancel a inner kept)
  cancel a [] false = refl
  cancel a [] true = refl
  cancel a (l ∷ ls) kept = refl

  irrevocable : (a : Attempt S) (kept : Bool) (x : Answer) → cond kept (on (seen a) outcome.Done) (core_swap (seen a) (seen (record a { kept = true })) outcome.Done x) ≡ to (cond kept (on a outcome.Done) (core_swap a (record a { kept = true }) outcome.Done x))
  irrevocable a true x = refl
  irrevocable a false x = swap a (record a { kept = true }) outcome.Done x

  operation : (now : S) (a : Attempt S) (o : Op) (x : Answer) → core_operation (f now) (seen a) o x ≡ to (core_operation now a o x)
  operation now a op.Begin x = refl
  operation now a (op.Read ad) x = read a (overlay_word ad a.writes) x
  operation now a (op.Write ad v) x = refl
  operation now a op.Commit x = commit a a.inner a.kept a.writes x
  operation now a op.Cancel x = cancel a a.inner a.kept
  operation now a (op.CancelOuter n) x = ap (λ ls. core_cancel (seen a) ls a.kept) (drop-map (checkpoint_as f) (n - 1) a.inner) ∙ cancel a (drop (n - 1) a.inner) a.kept
  operation now a op.Irrevocable x = irrevocable a a.kept x
  operation now a op.Release x = refl

  choice : (b : Bool) (m n : CoreStep S) → cond b (to m) (to n) ≡ to (cond b m n)
  choice true m n = refl
  choice false m n = refl

  check : (a : Attempt S) (o : Op) (v : ℕ) (x : Answer) → core_check (seen a) o v x ≡ to (core_check a o v x)
  check a (op.Read ad) v (Value lock) = choice (lock == a.snapshot) (on (record a { reads = a.reads ++ (ad, v) ∷ []; phase = AtOperation }) (outcome.Read v)) (validating a)
  check a (op.Read ad) v Done = refl
  check a (op.Read ad) v Won = refl
  check a (op.Read ad) v (Lost n) = refl
  check a op.Begin v x = refl
  check a (op.Write ad w) v x = refl
  check a op.Commit v x = refl
  check a op.Cancel v x = refl
  check a (op.CancelOuter n) v x = refl
  check a op.Irrevocable v x = refl
  check a op.Release v x = refl

  time : (a : Attempt S) (x : Answer) → core_time (seen a) x ≡ to (core_time a x)
  time a (Value lock) = choice (lock % 2 == 0) (on (record a { phase = ValidatesEntry lock 0 }) outcome.Going) (on a outcome.Going)
  time a Done = refl
  time a Won = refl
  time a (Lost n) = refl

  compare : (a : Attempt S) (t i : ℕ) (o : Option (ℕ × ℕ)) (x : Answer) → core_compare (seen a) t i o x ≡ to (core_compare a t i o x)
  compare a t i (Some p) (Value w) = choice (w == p.1) (on (record a { phase = ValidatesEntry t (suc i) }) outcome.Going) (drop_step a)
  compare a t i None (Value lock) = choice (lock == t) (on_snapshot (record a { snapshot = t; phase = AtOperation }) outcome.Going) (validating a)
  compare a t i None Done = refl
  compare a t i None Won = refl
  compare a t i None (Lost n) = refl
  compare a t i (Some p) Done = refl
  compare a t i (Some p) Won = refl
  compare a t i (Some p) (Lost n) = refl

  phase : (now : S) (a : Attempt S) (q : Phase) (o : Op) (x : Answer) → core_phase (f now) (seen a) q o x ≡ to (core_phase now a q o x)
  phase now a AtOperation o x = operation now a o x
  phase now a (ReadsLock v) o x = check a o v x
  phase now a ValidatesTime o x = time a x
  phase now a (ValidatesEntry t i) o x = compare a t i (slice_get a.reads i) x
  phase now a (Stores i) op.Commit x = store a i (slice_get a.writes i)
  phase now a (Stores i) op.Begin x = refl
  phase now a (Stores i) (op.Read ad) x = refl
  phase now a (Stores i) (op.Write ad v) x = refl
  phase now a (Stores i) op.Cancel x = refl
  phase now a (Stores i) (op.CancelOuter n) x = refl
  phase now a (Stores i) op.Irrevocable x = refl
  phase now a (Stores i) op.Release x = refl

  begin : (now : S) (x : Answer) → core_begin (f now) x ≡ to (core_begin now x)
  begin now (Value lock) = choice (lock % 2 == 0) (on_snapshot (record { saved = now; first = lock; snapshot = lock; reads = []; writes = []; inner = []; kept = false; phase = AtOperation }) outcome.Done) idle
  begin now Done = refl
  begin now Won = refl
  begin now (Lost n) = refl

  step_same : (now : S) (o : Option (Attempt S)) (x : Op) (y : Answer) → core_step (f now) (if_some (attempt_as f) o) x y ≡ to (core_step now o x y)
  step_same now None op.Begin y = begin now y
  step_same now None (op.Read ad) y = refl
  step_same now None (op.Write ad v) y = refl
  step_same now None op.Commit y = refl
  step_same now None op.Cancel y = refl
  step_same now None (op.CancelOuter n) y = refl
  step_same now None op.Irrevocable y = refl
  step_same now None op.Release y = refl
  step_same now (Some a) x y = phase now a a.phase x y

  pub commutes : Commutes f
  commutes = record { access = access_same; step = step_same }
