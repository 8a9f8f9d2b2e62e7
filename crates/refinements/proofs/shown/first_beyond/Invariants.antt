use Rattle.std.proofs.Common.{All, map, take}
use Rattle.refinements.specs.ShownBy.{IsShownAmong}
use Rattle.report.specs.Views.{reported_of}
use Rattle.refinements.proofs.Among.{report_of}
use Rattle.refinements.proofs.shown.first_beyond.Given as goal

abbrev pub invariant-these : goal.invariant-these
invariant-these g l = All (IsShownAmong (map reported_of l.those)) (map report_of (take l.one-index l.these))
