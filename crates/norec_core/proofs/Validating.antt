-- The accesses of validation.
use Rattle.std.proofs.Common.{◌≡◌, ◌∙◌, ap, ℕ, Option, Some}
use Rattle.norec_core.specs.declared.step.Op.{Op}
use Rattle.norec_core.specs.declared.step.Access.TheVariants.{LoadLock}
use Rattle.norec_core.specs.declared.step.Phase.{Phase}
use Rattle.norec_core.specs.Attempts.{Attempt}
use Rattle.norec_core.specs.Cores.{ComparesWith, IsWaiting}
use Rattle.norec_core.specs.Phases.{core_access, entry_access, phase_access}

module _ {S : Type 0} (a : Attempt S) (o : Op) where
  pub waiting_access : IsWaiting a → core_access (Some a) o ≡ LoadLock
  waiting_access w = ap (λ (q : Phase). phase_access a q o) w

  pub comparing_access : (time index : ℕ) (entry : Option (ℕ × ℕ)) → ComparesWith time index entry a → core_access (Some a) o ≡ entry_access entry
  comparing_access time index entry c = ap (λ (q : Phase). phase_access a q o) c.0 ∙ ap entry_access c.1
