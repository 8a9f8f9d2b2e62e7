use Rattle.std.proofs.Common.{◌≡◌, ◌++◌, map, drop}
use Rattle.syntax.specs.Views.{global_of}
use Rattle.syntax.specs.Names.{initial_from}
use Rattle.meaning.proofs.memory.push_globals.Given as goal

abbrev pub invariant-all : goal.invariant-all
invariant-all g l = l.memory.items ++ initial_from (map global_of (drop l.global-index l.all)) ≡ l.initial.memory.items ++ initial_from (map global_of l.all)
