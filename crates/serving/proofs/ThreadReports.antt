-- The contents of threads' reports.
use Rattle.std.proofs.Common.{◌≡◌, ◌∙◌, ℕ, List, [], ◌∷◌, map, refl, ap, ap₂}
use Rattle.syntax.specs.Behaviours.{Outcome}
use Rattle.meaning.specs.InOrder.{report_in, text_and_end}
use Rattle.meaning.specs.declared.outcome.ThreadReport.{ThreadReport}
use Rattle.syntax.specs.Tree.{Program}
use Rattle.syntax.specs.Names.{initial_memory}
use Rattle.syntax.specs.Orders.{in_order}
use Rattle.syntax.specs.Threads.{thread}
use Rattle.meaning.specs.InOrder.{IsInOrder, NamesThreads}
use Rattle.meaning.specs.declared.outcome.SourceOutcome.{SourceOutcome}
use Rattle.report.specs.Printed.{Printed}
use Rattle.serving.specs.Shows.{thread_shown, program_shown}
use Rattle.serving.specs.Orders.{IsOrderOf}
use Rattle.serving.specs.inner.ThreadReports.{text_and_end_shown, report_shown}

pub reports-by-parts : {A : Type 0} (rs : List (ThreadReport A)) → map report_shown rs ≡ map text_and_end_shown (map report_in rs)
reports-by-parts [] = refl
reports-by-parts (r ∷ rs) = ap (λ t. report_shown r ∷ t) (reports-by-parts rs)

pub outcomes-by-parts : (os : List Outcome) → map text_and_end_shown (map text_and_end os) ≡ map thread_shown os
outcomes-by-parts [] = refl
outcomes-by-parts (o ∷ os) = ap (λ t. thread_shown o ∷ t) (outcomes-by-parts os)

-- threads' reports show what their outcomes do
pub reports_shown : {A : Type 0} (rs : List (ThreadReport A)) (os : List Outcome) → map report_in rs ≡ map text_and_end os → map report_shown rs ≡ map thread_shown os
reports_shown rs os same = reports-by-parts rs ∙ ap (map text_and_end_shown) same ∙ outcomes-by-parts os

-- the contents of an outcome's report are those of a report on threads in this order
pub order_shown_of : {A : Type 0} (p : Program) (count ticks : ℕ) (order : List ℕ) (o : SourceOutcome A) (shown : Printed) → NamesThreads count order → IsInOrder p count ticks order o → shown ≡ program_shown p (map report_shown o.threads.items) o.memory.items → IsOrderOf p count ticks order shown
order_shown_of p count ticks order o shown named run shows = record {
  named = named;
  shows = shows ∙ ap₂ (program_shown p) (reports_shown o.threads.items (in_order (thread p) (initial_memory p) count ticks order).threads run.threads) run.memory;
}
