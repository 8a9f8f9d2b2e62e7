-- Whether every fair schedule of a source's threads terminates.
use Rattle.std.specs.Prelude.{◌≡◌, ◌⊎◌, ℕ, List, [], Option}
use Rattle.std.specs.Io.KnownBytes.{Appends}
use Rattle.syntax.specs.Tree.{Program}
use Rattle.fairness.specs.Schedules.{AllFairTerminate, IsFairEndless}
use Rattle.command.specs.declared.request.FairSearch.{FairSearch}
use Rattle.report.specs.declared.outcome_list.WalkEnd.{WalkEnd}
use Rattle.report.specs.declared.outcome_list.WalkEnd.TheVariants.{Whole}
use Rattle.report.specs.Fair.{endless_text, open_text, terminate_text}
use Rattle.report.specs.OutcomeList.{ReportedOrder}
use Rattle.serving.specs.Outcomes.{AreOutcomesOf, outcomes_status}
use Rattle.serving.specs.Spelled.{IsTextOfProgram}

module _ (p : Program) (count : ℕ) where
  -- Every fair schedule terminates. These are all outcomes, and the status is 3 if a thread trapped in one of them.
  pub record TerminatesFairly (status : ℕ) : Type 0 where
    pub terminate : AllFairTerminate p count
    pub outcomes : List ReportedOrder
    pub all : AreOutcomesOf p count Whole outcomes []
    pub status_is : status ≡ outcomes_status outcomes

  -- a fair schedule never terminates, and the text is its order and its cycle
  pub record ReportsEndless (written : List ℕ) : Type 0 where
    pub order : List ℕ
    pub cycle : List ℕ
    pub endless : IsFairEndless p count order cycle
    pub says : written ≡ endless_text order cycle

  -- the text reports that every fair schedule terminates, or one that never does, or that neither is known
  abbrev pub IsFairText : List ℕ → Type 0
  IsFairText written = AllFairTerminate p count × (written ≡ terminate_text) ⊎ ReportsEndless written
      ⊎ ((states : ℕ) × (end : WalkEnd) × (written ≡ open_text states count end))

  -- the status 0 or 3 reports that every fair schedule terminates, and 5 that one never does
  pub record TellsFair (status : ℕ) (old new : Option (List ℕ)) : Type 0 where
    pub terminates : (status ≡ 0) ⊎ (status ≡ 3) → TerminatesFairly status × Appends old new terminate_text
    pub endless : status ≡ 5 → (written : List ℕ) × ReportsEndless written × Appends old new written

-- the meaning of a status for what was printed about a source's text
abbrev pub AnswersFair : FairSearch → (text : List ℕ) → (status : ℕ) → (old new : Option (List ℕ)) → Type 0
AnswersFair search text status old new = (status ≡ 0) ⊎ (status ≡ 3) ⊎ (status ≡ 5) →
    IsTextOfProgram text (λ p. TellsFair p search.threads status old new)

abbrev pub IsFairTextOf : FairSearch → (text : List ℕ) → (written : List ℕ) → Type 0
IsFairTextOf search text written = IsTextOfProgram text (λ p. IsFairText p search.threads written)
