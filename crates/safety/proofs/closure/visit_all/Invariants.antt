use Rattle.std.proofs.Common.{◌≡◌, drop}
use Rattle.safety.specs.inner.Graphs.{all_visited}
use Rattle.safety.proofs.closure.visit_all.Given as goal

abbrev pub invariant-each : goal.invariant-each
invariant-each g l = all_visited (record { members = l.members; queue = l.queue }) (drop l.one-index l.all) ≡ all_visited (record { members = l.initial.members; queue = l.initial.queue }) l.all
