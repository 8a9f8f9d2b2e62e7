-- The lines of a reported thread.
use Rattle.std.specs.Prelude.{ℕ, List}
use Rattle.syntax.specs.Behaviours.{ThreadEnd}
use Rattle.meaning.specs.InOrder.{report_in}
use Rattle.meaning.specs.declared.outcome.ThreadReport.{ThreadReport}
use Rattle.report.specs.Printed.{ThreadShown}
use Rattle.serving.specs.Shows.{order_end}

-- a thread's text and its end
abbrev pub text_and_end_shown : List ℕ × ThreadEnd → ThreadShown
text_and_end_shown x = record { end = order_end x.1; text = x.0 }

abbrev pub report_shown : {A : Type 0} → ThreadReport A → ThreadShown
report_shown report = text_and_end_shown (report_in report)
