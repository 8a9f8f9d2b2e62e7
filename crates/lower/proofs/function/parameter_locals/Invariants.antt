use Rattle.std.proofs.Common.{◌≡◌, ◌++◌, drop, map}
use Rattle.syntax.specs.Views.{parameter_of}
use Rattle.lower_spec.specs.Programs.{parameter_locals}
use Rattle.lower_exprs.specs.Views.{scope_in}
use Rattle.lower.proofs.function.parameter_locals.Given as goal

abbrev pub invariant-each : goal.invariant-each
invariant-each g l = scope_in l.scope ++ parameter_locals (map parameter_of (drop l.parameter-index l.parameters)) ≡ parameter_locals (map parameter_of l.parameters)
