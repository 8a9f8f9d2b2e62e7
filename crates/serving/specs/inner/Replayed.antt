-- The content of a replay's report.
use Rattle.syntax.specs.Tree.{Program}
use Rattle.world.specs.declared.report.Report.{Report}
use Rattle.world.specs.Reports.{threads_of}
use Rattle.report.specs.Printed.{Printed}
use Rattle.serving.specs.Replays.{replay_shown}

abbrev pub report_shown : {A : Type 0} → Program → Report A → Printed
report_shown p r = replay_shown p r.events.items (threads_of r.threads.items) r.words.items r.holder
