use Rattle.std.proofs.Common.{◌≡◌, ◌+◌, ◌++◌, map, drop, string_bytes}
use Rattle.bytecode.specs.Flat.{instruction_from}
use Rattle.bytecode.specs.Listing.{lines_from}
use Rattle.bytecode.specs.Views.{function_of}
use Rattle.bytecode.proofs.list.push_lines.Given as goal

abbrev pub invariant-each : goal.invariant-each
invariant-each g l = record {
  place : l.place ≡ l.from + l.first-index;
  text : string_bytes l.text ++ lines_from (map function_of l.functions) l.place (map (instruction_from l.words) (drop l.first-index l.firsts)) ≡ string_bytes l.initial.text ++ lines_from (map function_of l.functions) l.from (map (instruction_from l.words) l.firsts);
}
