-- A read that loads its word and then the lock.
use Rattle.std.proofs.Common.{◌≡◌, ◌==◌, ℕ, Bool, true, false, cond, Option, None, Some, refl, ap, ◌∙◌}
use Rattle.norec_core.specs.declared.step.Op.TheVariants as op
use Rattle.norec_core.specs.declared.step.Access.TheVariants.{LoadWord}
use Rattle.norec_core.specs.declared.step.Answer.TheVariants.{Value}
use Rattle.norec_core.specs.declared.step.OpOutcome.TheVariants as outcome
use Rattle.norec_core.specs.declared.step.Phase.{Phase}
use Rattle.norec_core.specs.declared.step.Phase.TheVariants.{ReadsLock}
use Rattle.norec_core.specs.Attempts.{Attempt}
use Rattle.norec_core.specs.Cores.{LoadsBoth}
use Rattle.norec_core.specs.Phases.{CoreStep, on, core_access, core_check, core_phase, core_read, core_step, core_word, phase_access, read_access}

module _ {S : Type 0} (now : S) (a : Attempt S) (cell word lock : ℕ) (loads : LoadsBoth a cell) where
  pub loads_word : core_access (Some a) (op.Read cell) ≡ LoadWord cell
  loads_word = ap (λ (q : Phase). phase_access a q (op.Read cell)) loads.0 ∙ ap (read_access cell) loads.2

  pub after_word : core_step now (Some a) (op.Read cell) (Value word) ≡ on (record a { phase = ReadsLock word }) outcome.Going
  after_word = ap (λ (q : Phase). core_phase now a q (op.Read cell) (Value word)) loads.0 ∙ ap (λ (w : Option ℕ). core_read a w (Value word)) loads.2 ∙ ap (λ (k : Bool). core_word a k (Value word)) loads.1

-- such a step goes back to nothing
pub check_keeps : {S : Type 0} (a : Attempt S) (cell word lock : ℕ) → (core_check a (op.Read cell) word (Value lock)).back ≡ None
check_keeps {S} a cell word lock = at (lock == a.snapshot) _ _ refl refl
  where
    at : (b : Bool) (m n : CoreStep S) → m.back ≡ None → n.back ≡ None → (cond b m n).back ≡ None
    at true m n f g = f
    at false m n f g = g
