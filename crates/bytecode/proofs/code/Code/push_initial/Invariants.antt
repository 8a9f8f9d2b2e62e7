use Rattle.std.proofs.Common.{◌≡◌, ◌++◌, map, drop}
use Rattle.syntax.specs.Views.{global_of}
use Rattle.syntax.specs.Names.{initial_from}
use Rattle.bytecode.proofs.code.Code.push_initial.Given as goal

abbrev pub invariant-globals : goal.invariant-globals
invariant-globals g l = l.words.items ++ initial_from (map global_of (drop l.global-index l.global-items)) ≡ l.initial.words.items ++ initial_from (map global_of l.global-items)
