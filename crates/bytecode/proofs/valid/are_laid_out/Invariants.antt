use Rattle.std.proofs.Common.{map, drop}
use Rattle.std.specs.Prelude.{◌↔◌}
use Rattle.bytecode.specs.Views.{function_of, code_of}
use Rattle.bytecode.specs.inner.Layout.{StartBeforeEnds}
use Rattle.bytecode.proofs.valid.are_laid_out.Given as goal

abbrev pub invariant-each : goal.invariant-each
invariant-each g l = StartBeforeEnds (code_of l.parts) (drop l.number (map function_of l.parts.functions)) ↔ StartBeforeEnds (code_of l.parts) (map function_of l.parts.functions)
