-- Whether each outcome of one program is one of another's.
use Rattle.std.specs.Prelude.{◌≡◌, ℕ, List, [], length}
use Rattle.syntax.specs.Tree.{Program}
use Rattle.syntax.specs.Grammar.{ParsedSource}
use Rattle.separation.specs.Touching.{IsAccepted}
use Rattle.report.specs.declared.outcome_list.WalkEnd.TheVariants.{Whole}
use Rattle.report.specs.OutcomeList.{ReportedOrder}
use Rattle.refinements.specs.ShownBy.{IsShownBy}
use Rattle.refinements.specs.Told.{beyond_text, refined_text}
use Rattle.serving.specs.Checks.{IsSourceOf}
use Rattle.serving.specs.Outcomes.{AreOutcomesOf, IsOutcomeOf}

-- Each outcome of the first program is one of the second's: if all threads terminate in some order of the first, they
-- do in some order of the second, with the same ends and output, and each global of the first, by name and type, has
-- the same words there.
abbrev pub Refines : (this that : Program) → (count : ℕ) → Type 0
Refines this that count = (o : ReportedOrder) → IsOutcomeOf this count o →
    (u : ReportedOrder) × IsOutcomeOf that count u × IsShownBy o.shown u.shown

-- an outcome of the first program that is none of the second's
pub record IsBeyond (this that : Program) (count : ℕ) (o : ReportedOrder) : Type 0 where
  pub outcome : IsOutcomeOf this count o
  pub none : (u : ReportedOrder) → IsOutcomeOf that count u → IsShownBy o.shown u.shown → ⊥

-- The output reports that each outcome of the first program is one of the second's, and how many each has. No order of
-- the first is stuck.
pub record SaysRefines (name : List ℕ) (count : ℕ) (this that : Program) (written : List ℕ) : Type 0 where
  pub refines : Refines this that count
  pub outcomes : List ReportedOrder
  pub are : AreOutcomesOf this count Whole outcomes []
  pub others : List ReportedOrder
  pub stuck : List ReportedOrder
  pub others_are : AreOutcomesOf that count Whole others stuck
  pub said : written ≡ refined_text name (length outcomes) (length others) count

-- the output shows an outcome of the first program that is none of the second's, with its order
pub record ShowsBeyond (name : List ℕ) (count : ℕ) (this that : Program) (written : List ℕ) : Type 0 where
  pub one : ReportedOrder
  pub beyond : IsBeyond this that count one
  pub shown : written ≡ beyond_text name one

-- two texts spell accepted programs for which this holds
pub record AreSourcesOf (text other : List ℕ) (IsSo : Program → Program → Type 0) : Type 0 where
  pub this : ParsedSource
  pub spelled : IsSourceOf text this
  pub accepted : ∥ IsAccepted this.program ∥₁
  pub that : ParsedSource
  pub other_spelled : IsSourceOf other that
  pub other_accepted : ∥ IsAccepted that.program ∥₁
  pub is_so : IsSo this.program that.program

abbrev pub SaysRefined : (name : List ℕ) → (count : ℕ) → (text other written : List ℕ) → Type 0
SaysRefined name count text other written =
    AreSourcesOf text other (λ this that. SaysRefines name count this that written)

abbrev pub ShowsOther : (name : List ℕ) → (count : ℕ) → (text other written : List ℕ) → Type 0
ShowsOther name count text other written =
    AreSourcesOf text other (λ this that. ShowsBeyond name count this that written)
