-- Outcomes that show what others do.
use Rattle.std.specs.Prelude.{◌≡◌, List, All, Contains}
use Rattle.report.specs.OutcomeList.{ReportedOrder, reports}
use Rattle.report.specs.Printed.{Printed}

-- The second shows what the first does: its threads ended alike and printed the same, and each global of the first is
-- among its globals, by name and type, and has the same words. It may have more of them, and in another order.
pub record IsShownBy (this that : Printed) : Type 0 where
  pub threads : this.threads ≡ that.threads
  pub globals : All (Contains that.globals) this.globals

-- one of these shows it
abbrev pub IsShownAmong : List ReportedOrder → Printed → Type 0
IsShownAmong those this = (that : Printed) × Contains (reports those) that × IsShownBy this that
