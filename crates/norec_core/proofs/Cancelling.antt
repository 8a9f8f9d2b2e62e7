-- A cancel of several levels, as the code of a step makes it.
use Rattle.std.proofs.Common.{◌≡◌, ◌<◌, ℕ, Bool, List, [], ◌∷◌, Some, refl, ◌∙◌, ap, length, arith}
use Rattle.nesting.specs.Begins.{Saved}
use Rattle.nesting.specs.Nests.{OpenBegins, Nest, IsCancelled}
use Rattle.norec_core.specs.declared.step.OpOutcome.TheVariants as outcome
use Rattle.norec_core.specs.declared.step.Phase.{Phase}
use Rattle.norec_core.specs.Attempts.{Attempt, Checkpoint}
use Rattle.norec_core.specs.Phases.{core_cancel}
use Rattle.norec_core.specs.inner.Runs.{Run, IsStep, attempt_by, attempt_of}

module _ (old new : Nest) (first snapshot : ℕ) (q : Phase) (r : Run) where
  abbrev at : List (ℕ × ℕ) → List (ℕ × ℕ) → OpenBegins → Bool → Attempt Saved
  at reads writes b kept = record { saved = b.saved; first = first; snapshot = snapshot; reads = reads; writes = writes; inner = b.inner; kept = kept; phase = q }

  -- back at an inner begin
  pub inner_cancel : (ls : List (Checkpoint Saved)) (kept : Bool) → 0 < length ls → IsCancelled old ls new → new.reads ≡ old.reads → new.kept ≡ old.kept →
      attempt_of r ≡ Some (attempt_by new first snapshot q) → r.aside ≡ new.aside → IsStep (core_cancel (attempt_by old first snapshot q) ls kept) outcome.Done r
  inner_cancel [] kept lt back reads same attempt aside = absurd (omega arith)
  inner_cancel (l ∷ ls) kept lt back reads same attempt aside = record {
    attempt = attempt
        ∙ ap (λ b. Some (at new.reads new.writes b new.kept)) back.0
        ∙ ap (λ ws. Some (at new.reads ws (record { saved = old.begins.saved; inner = ls }) new.kept)) back.2
        ∙ ap (λ rs. Some (at rs l.writes (record { saved = old.begins.saved; inner = ls }) new.kept)) reads
        ∙ ap (λ k. Some (at old.reads l.writes (record { saved = old.begins.saved; inner = ls }) k)) same;
    outcome = refl;
    back = aside ∙ back.1;
  }
