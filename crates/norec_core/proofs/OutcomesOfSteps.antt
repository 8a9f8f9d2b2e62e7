-- What comes of a step: the attempt goes on, its transaction takes effect, or it is dropped.
use Rattle.std.proofs.Common.{◌≡◌, ◌==◌, ◌%◌, ◌-◌, ℕ, Bool, true, false, cond, List, [], ◌∷◌, Option, None, Some, refl, drop, slice_get}
use Rattle.write_log.specs.Overlay.{overlay_word}
use Rattle.norec_core.specs.declared.step.Op.{Op}
use Rattle.norec_core.specs.declared.step.Op.TheVariants as op
use Rattle.norec_core.specs.declared.step.Answer.{Answer}
use Rattle.norec_core.specs.declared.step.Answer.TheVariants.{Done, Value, Won, Lost}
use Rattle.norec_core.specs.declared.step.OpOutcome.TheVariants as outcome
use Rattle.norec_core.specs.declared.step.Phase.{Phase}
use Rattle.norec_core.specs.declared.step.Phase.TheVariants.{AtOperation, ReadsLock, ValidatesTime, ValidatesEntry, Stores}
use Rattle.norec_core.specs.Attempts.{Checkpoint, Attempt, Completed}
use Rattle.norec_core.specs.Phases.{CoreStep, on, core_word, core_read, core_store, core_swap, core_commit, core_cancel, core_operation, core_check, core_time, core_compare, core_phase}

pub data Comes {S : Type 0} (n : CoreStep S) : Type 0 where
  goes_on : (b : Attempt S) → n.attempt ≡ Some b → n.completed ≡ None → (n.outcome ≡ outcome.Aborted → ⊥) → Comes n
  completes : (x : Completed) → n.attempt ≡ None → n.completed ≡ Some x → n.outcome ≡ outcome.Done → Comes n
  drops : n.attempt ≡ None → n.completed ≡ None → n.outcome ≡ outcome.Aborted → Comes n

module _ {S : Type 0} (now : S) (a : Attempt S) where
  going : (b : Attempt S) → Comes (on b outcome.Going)
  going b = goes_on b refl refl (λ e. cc)

  done : (b : Attempt S) → Comes (on b outcome.Done)
  done b = goes_on b refl refl (λ e. cc)

  gives : (b : Attempt S) (v : ℕ) → Comes (on b (outcome.Read v))
  gives b v = goes_on b refl refl (λ e. cc)

  either : (t : Bool) (m n : CoreStep S) → Comes m → Comes n → Comes (cond t m n)
  either true m n f g = f
  either false m n f g = g

  word : (kept : Bool) (z : Answer) → Comes (core_word a kept z)
  word true (Value w) = gives a w
  word false (Value w) = going _
  word true Done = going a
  word false Done = going a
  word true Won = going a
  word false Won = going a
  word true (Lost n) = going a
  word false (Lost n) = going a

  read : (r : Option ℕ) (z : Answer) → Comes (core_read a r z)
  read (Some v) z = gives a v
  read None z = word a.kept z

  store : (i : ℕ) (r : Option (ℕ × ℕ)) → Comes (core_store a i r)
  store i None = completes _ refl refl refl
  store i (Some p) = going _

  swap_on : (b : Attempt S) (z : Answer) → Comes (core_swap a b outcome.Going z)
  swap_on b Won = going b
  swap_on b (Lost n) = going _
  swap_on b Done = going a
  swap_on b (Value n) = going a

  swap_done : (b : Attempt S) (z : Answer) → Comes (core_swap a b outcome.Done z)
  swap_done b Won = done b
  swap_done b (Lost n) = going _
  swap_done b Done = going a
  swap_done b (Value n) = going a

  commit : (inner : List (Checkpoint S)) (kept : Bool) (ws : List (ℕ × ℕ)) (z : Answer) → Comes (core_commit a inner kept ws z)
  commit [] true ws z = store 0 (slice_get ws 0)
  commit [] false [] z = completes _ refl refl refl
  commit [] false (p ∷ ps) z = swap_on _ z
  commit (l ∷ ls) kept ws z = done _

  cancel : (inner : List (Checkpoint S)) (kept : Bool) → Comes (core_cancel a inner kept)
  cancel [] false = completes _ refl refl refl
  cancel [] true = going a
  cancel (l ∷ ls) kept = goes_on _ refl refl (λ e. cc)

  irrevocable : (kept : Bool) (z : Answer) → Comes (cond kept (on a outcome.Done) (core_swap a (record a { kept = true }) outcome.Done z))
  irrevocable true z = done a
  irrevocable false z = swap_done _ z

  operation : (o : Op) (z : Answer) → Comes (core_operation now a o z)
  operation op.Begin z = done _
  operation (op.Read ad) z = read (overlay_word ad a.writes) z
  operation (op.Write ad v) z = done _
  operation op.Commit z = commit a.inner a.kept a.writes z
  operation op.Cancel z = cancel a.inner a.kept
  operation (op.CancelOuter n) z = cancel (drop (n - 1) a.inner) a.kept
  operation op.Irrevocable z = irrevocable a.kept z
  operation op.Release z = completes _ refl refl refl

  check : (o : Op) (v : ℕ) (z : Answer) → Comes (core_check a o v z)
  check (op.Read ad) v (Value lock) = either (lock == a.snapshot) _ _ (gives _ v) (going _)
  check (op.Read ad) v Done = going a
  check (op.Read ad) v Won = going a
  check (op.Read ad) v (Lost n) = going a
  check op.Begin v z = going a
  check (op.Write ad w) v z = going a
  check op.Commit v z = going a
  check op.Cancel v z = going a
  check (op.CancelOuter n) v z = going a
  check op.Irrevocable v z = going a
  check op.Release v z = going a

  time : (z : Answer) → Comes (core_time a z)
  time (Value lock) = either (lock % 2 == 0) _ _ (going _) (going a)
  time Done = going a
  time Won = going a
  time (Lost n) = going a

  compare : (t i : ℕ) (r : Option (ℕ × ℕ)) (z : Answer) → Comes (core_compare a t i r z)
  compare t i (Some p) (Value w) = either (w == p.1) _ _ (going _) (drops refl refl refl)
  compare t i None (Value lock) = either (lock == t) _ _ (goes_on _ refl refl (λ e. cc)) (going _)
  compare t i None Done = going a
  compare t i None Won = going a
  compare t i None (Lost n) = going a
  compare t i (Some p) Done = going a
  compare t i (Some p) Won = going a
  compare t i (Some p) (Lost n) = going a

  pub comes : (q : Phase) (o : Op) (z : Answer) → Comes (core_phase now a q o z)
  comes AtOperation o z = operation o z
  comes (ReadsLock v) o z = check o v z
  comes ValidatesTime o z = time z
  comes (ValidatesEntry t i) o z = compare t i (slice_get a.reads i) z
  comes (Stores i) op.Commit z = store i (slice_get a.writes i)
  comes (Stores i) op.Begin z = going a
  comes (Stores i) (op.Read ad) z = going a
  comes (Stores i) (op.Write ad v) z = going a
  comes (Stores i) op.Cancel z = going a
  comes (Stores i) (op.CancelOuter n) z = going a
  comes (Stores i) op.Irrevocable z = going a
  comes (Stores i) op.Release z = going a
