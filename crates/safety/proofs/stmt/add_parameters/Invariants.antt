use Rattle.std.proofs.Common.{◌≡◌, ◌++◌, map, drop}
use Rattle.syntax.specs.Views.{parameter_of}
use Rattle.syntax.specs.Typing.{parameter_names}
use Rattle.safety.specs.inner.Known.{names_in}
use Rattle.safety.proofs.stmt.add_parameters.Given as goal

abbrev pub invariant-each : goal.invariant-each
invariant-each g l = names_in l.locals ++ parameter_names (map parameter_of (drop l.one-index l.all)) ≡ names_in l.initial.locals ++ parameter_names (map parameter_of l.all)
