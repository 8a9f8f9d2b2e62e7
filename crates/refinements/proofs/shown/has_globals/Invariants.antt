use Rattle.std.proofs.Common.{All, Contains, map, take}
use Rattle.report.specs.Views.{shown_of}
use Rattle.refinements.proofs.shown.has_globals.Given as goal

abbrev pub invariant-wanted : goal.invariant-wanted
invariant-wanted g l = All (Contains (map shown_of l.globals)) (map shown_of (take l.one-index l.wanted))
