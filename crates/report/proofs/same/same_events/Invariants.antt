use Rattle.std.proofs.Common.{◌≡◌, take}
use Rattle.report.proofs.same.same_events.Given as goal

abbrev pub invariant-each : goal.invariant-each
invariant-each l = take l.i l.a ≡ take l.i l.b
