use Rattle.report.specs.Report.{global_line}
use Rattle.report.specs.Views.{shown_of}
use Rattle.report.proofs.Lines.{next_line}
use Rattle.report.proofs.report.push_globals.Goals as goal

pub globals-preserved : goal.globals-preserved
globals-preserved g c = next_line shown_of global_line c.args.globals.now c.globals.global-index c.global-item.result c.globals.report.items _ _ c.global-item.is c.globals-test.true c.globals.invariant c.in_ok-push_global.ensures
