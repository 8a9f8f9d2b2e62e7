use Rattle.std.proofs.Common.{◌≡◌, ◌++◌, drop, string_bytes}
use Rattle.std.specs.Prelude.{flat_map}
use Rattle.bytecode.specs.Listing.{r_text}
use Rattle.bytecode.proofs.list_instr.push_arguments.Given as goal

abbrev pub invariant-each : goal.invariant-each
invariant-each g l = string_bytes l.text ++ flat_map r_text (drop l.arg-index l.args) ≡ string_bytes l.initial.text ++ flat_map r_text l.args
