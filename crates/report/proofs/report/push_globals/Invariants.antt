use Rattle.std.proofs.Common.{◌≡◌, ◌++◌, map, drop}
use Rattle.std.specs.Prelude.{flat_map}
use Rattle.report.specs.Report.{global_line}
use Rattle.report.specs.Views.{shown_of}
use Rattle.report.proofs.report.push_globals.Given as goal

-- what is written and what is to come make up the whole
abbrev pub invariant-globals : goal.invariant-globals
invariant-globals g l = l.report.items ++ flat_map global_line (map shown_of (drop l.global-index l.globals)) ≡ l.initial.report.items ++ flat_map global_line (map shown_of l.globals)
