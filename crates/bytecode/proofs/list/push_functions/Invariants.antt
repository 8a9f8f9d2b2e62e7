use Rattle.std.proofs.Common.{◌≡◌, ◌++◌, map, drop, string_bytes}
use Rattle.bytecode.specs.Listing.{functions_text}
use Rattle.bytecode.specs.Views.{function_of}
use Rattle.bytecode.proofs.list.push_functions.Given as goal

abbrev pub invariant-each : goal.invariant-each
invariant-each g l = string_bytes l.text ++ functions_text l.code (map function_of (drop l.number l.functions)) ≡ string_bytes l.initial.text ++ functions_text l.code (map function_of l.functions)
