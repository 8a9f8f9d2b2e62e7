use Rattle.std.proofs.Common.{◌≤◌, length, map, drop}
use Rattle.std.specs.Prelude.{◌↔◌}
use Rattle.syntax.specs.Behaviours.{IsMemory}
use Rattle.syntax.specs.Names.{bounds_of}
use Rattle.syntax.specs.Views.{global_of}
use Rattle.atomic_code.proofs.memory.are_cells.Given as goal

-- the words are a memory of the globals where those behind are one of the globals that are left
abbrev pub invariant-each : goal.invariant-each
invariant-each g l =
    (l.from ≤ length l.words)
    × (IsMemory (bounds_of (map global_of l.globals)) l.words ↔ IsMemory (bounds_of (map global_of (drop l.global-index l.globals))) (drop l.from l.words))
