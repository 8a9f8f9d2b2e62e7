use Rattle.std.proofs.Common.{◌≡◌, ◌++◌, map, drop}
use Rattle.syntax.specs.Views.{global_of}
use Rattle.traces.specs.Names.{named_global}
use Rattle.traces.specs.Views.{named_of}
use Rattle.traces.proofs.names.push_globals.Given as goal

-- the names so far and those to come make up the whole
abbrev pub invariant-globals : goal.invariant-globals
invariant-globals g l =
    map named_of l.names ++ map named_global (map global_of (drop l.global-index l.globals))
    ≡ map named_of l.initial.names ++ map named_global (map global_of l.globals)
