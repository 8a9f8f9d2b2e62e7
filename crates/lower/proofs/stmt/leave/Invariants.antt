use Rattle.std.proofs.Common.{◌≡◌, ◌++◌, ◌+◌}
use Rattle.std.specs.Prelude.{replicate}
use Rattle.bytecode.specs.declared.instr.Instr.TheVariants as instr
use Rattle.lower.proofs.stmt.leave.Given as goal

abbrev pub invariant-each : goal.invariant-each
invariant-each g l = record {
  code : l.code.items ≡ l.fn.code.items ++ replicate l.made instr.Commit;
  place : l.to ≡ l.from + l.made;
}
