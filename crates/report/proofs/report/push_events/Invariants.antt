use Rattle.std.proofs.Common.{◌≡◌, ◌++◌, drop}
use Rattle.std.specs.Prelude.{flat_map}
use Rattle.report.specs.Report.{event_line}
use Rattle.report.proofs.report.push_events.Given as goal

-- what is written and what is to come make up the whole
abbrev pub invariant-events : goal.invariant-events
invariant-events g l = l.report.items ++ flat_map event_line (drop l.accesses-index l.events) ≡ l.initial.report.items ++ flat_map event_line l.events
