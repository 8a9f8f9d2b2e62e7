use Rattle.std.proofs.Common.{◌<◌, drop}
use Rattle.std.specs.Prelude.{◌↔◌}
use Rattle.std.specs.List.{AllByRecursion}
use Rattle.bytecode.proofs.written.has_all.Given as goal

abbrev pub invariant-each : goal.invariant-each
invariant-each g l = AllByRecursion (λ r. r < l.f.registers) (drop l.arg-index l.args) ↔ AllByRecursion (λ r. r < l.f.registers) l.args
