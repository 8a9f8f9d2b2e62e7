-- The steps of a commit that swap the lock and that store, and the load of an outermost begin.
use Rattle.std.proofs.Common.{◌≡◌, ◌%◌, ◌==◌, ℕ, Bool, true, false, cond, List, [], ◌∷◌, Option, None, Some, refl, ap, slice_get}
use Rattle.norec_core.specs.declared.step.Op.TheVariants as op
use Rattle.norec_core.specs.declared.step.Access.TheVariants.{Swap}
use Rattle.norec_core.specs.declared.step.Answer.{Answer}
use Rattle.norec_core.specs.declared.step.Answer.TheVariants.{Done, Value, Won, Lost}
use Rattle.norec_core.specs.declared.step.OpOutcome.TheVariants as outcome
use Rattle.norec_core.specs.declared.step.Phase.{Phase}
use Rattle.norec_core.specs.declared.step.Phase.TheVariants.{AtOperation, ReadsLock, ValidatesTime, ValidatesEntry, Stores}
use Rattle.norec_core.specs.Attempts.{Attempt, Checkpoint}
use Rattle.norec_core.specs.Cores.{IsStoring}
use Rattle.norec_core.specs.Phases.{CoreStep, commit_access, core_access, core_begin, core_commit, core_phase, core_step, core_store, core_swap, entry_access, phase_access, store_access}

module _ {S : Type 0} (now : S) (a : Attempt S) where
  module _ (index : ℕ) (stores : IsStoring index a) where
    pub store_access_is : core_access (Some a) op.Commit ≡ store_access a.snapshot (slice_get a.writes index)
    store_access_is = ap (λ (q : Phase). phase_access a q op.Commit) stores

    pub store_is : (y : Answer) → core_step now (Some a) op.Commit y ≡ core_store a index (slice_get a.writes index)
    store_is y = ap (λ (q : Phase). core_phase now a q op.Commit y) stores

  -- a store goes back to nothing, does not stop, and is one access
  pub store_keeps : (i : ℕ) (r : Option (ℕ × ℕ)) → (core_store a i r).back ≡ None
  store_keeps i None = refl
  store_keeps i (Some p) = refl

  -- after a swap the commit goes on
  no_store : (from : ℕ) (r : Option (ℕ × ℕ)) → store_access a.snapshot r ≡ Swap from → ⊥
  no_store from None e = absurd (cc)
  no_store from (Some p) e = absurd (cc)

  no_entry : (from : ℕ) (r : Option (ℕ × ℕ)) → entry_access r ≡ Swap from → ⊥
  no_entry from None e = absurd (cc)
  no_entry from (Some p) e = absurd (cc)

  swap_goes : (b : Attempt S) (y : Answer) → (core_swap a b outcome.Going y).outcome ≡ outcome.Going
  swap_goes b Won = refl
  swap_goes b (Lost n) = refl
  swap_goes b Done = refl
  swap_goes b (Value n) = refl

  commit_goes : (from : ℕ) (inner : List (Checkpoint S)) (kept : Bool) (ws : List (ℕ × ℕ)) (y : Answer) → commit_access a inner kept ws ≡ Swap from → (core_commit a inner kept ws y).outcome ≡ outcome.Going
  commit_goes from [] true ws y e = absurd (no_store from (slice_get ws 0) e)
  commit_goes from [] false [] y e = absurd (cc)
  commit_goes from [] false (p ∷ ps) y e = swap_goes _ y
  commit_goes from (l ∷ ls) kept ws y e = absurd (cc)

  phase_goes : (from : ℕ) (q : Phase) (y : Answer) → phase_access a q op.Commit ≡ Swap from → (core_phase now a q op.Commit y).outcome ≡ outcome.Going
  phase_goes from AtOperation y e = commit_goes from a.inner a.kept a.writes y e
  phase_goes from (ReadsLock v) y e = absurd (cc)
  phase_goes from ValidatesTime y e = absurd (cc)
  phase_goes from (ValidatesEntry t i) y e = absurd (no_entry from (slice_get a.reads i) e)
  phase_goes from (Stores i) y e = absurd (no_store from (slice_get a.writes i) e)

-- a commit that swaps the lock is one of an attempt
pub swap_under : {S : Type 0} (o : Option (Attempt S)) (from : ℕ) → core_access o op.Commit ≡ Swap from → (a : Attempt S) × (o ≡ Some a)
swap_under None from e = absurd (cc)
swap_under (Some a) from e = (a, refl)

pub swap_goes_on : {S : Type 0} (now : S) (o : Option (Attempt S)) (from : ℕ) (y : Answer) → core_access o op.Commit ≡ Swap from → (core_step now o op.Commit y).outcome ≡ outcome.Going
swap_goes_on now None from y e = absurd (cc)
swap_goes_on now (Some a) from y e = phase_goes now a from a.phase y e

-- an outermost begin goes back to nothing
pub begin_keeps : {S : Type 0} (now : S) (lock : ℕ) → (core_begin now (Value lock)).back ≡ None
begin_keeps {S} now lock = at (lock % 2 == 0) _ _ refl refl
  where
    at : (b : Bool) (m n : CoreStep S) → m.back ≡ None → n.back ≡ None → (cond b m n).back ≡ None
    at true m n f g = f
    at false m n f g = g
