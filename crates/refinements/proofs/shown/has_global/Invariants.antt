use Rattle.std.proofs.Common.{Contains, map, take}
use Rattle.report.specs.Views.{shown_of}
use Rattle.refinements.proofs.shown.has_global.Given as goal

abbrev pub invariant-globals : goal.invariant-globals
invariant-globals g l = Contains (map shown_of (take l.one-index l.globals)) (shown_of l.global) → ⊥
