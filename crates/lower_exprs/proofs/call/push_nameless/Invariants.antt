use Rattle.std.proofs.Common.{◌≡◌, ◌++◌, drop, map}
use Rattle.syntax.specs.Views.{parameter_of}
use Rattle.lower_spec.specs.Expressions.{nameless_ones}
use Rattle.lower_exprs.proofs.call.push_nameless.Given as goal

abbrev pub invariant-each : goal.invariant-each
invariant-each g l = l.all.items ++ nameless_ones (map parameter_of (drop l.i l.parameters)) (drop l.i l.registers) ≡ l.fn.all.items ++ nameless_ones (map parameter_of l.parameters) l.registers
