use Rattle.std.proofs.Common.{◌≡◌, ◌-◌, take, length}
use Rattle.name_tables.specs.Known.{locals_in}
use Rattle.name_tables.proofs.entries.Scope.leave.Given as goal

abbrev pub invariant-each : goal.invariant-each
invariant-each g l = locals_in l.self ≡ take (length (locals_in l.fn.self) - (l.counter - l.start)) (locals_in l.fn.self)
