use Rattle.report.specs.Views.{printed_of}
use Rattle.refinements.proofs.Among.{IsNoneOf}
use Rattle.refinements.proofs.shown.is_shown_among.Given as goal

abbrev pub invariant-those : goal.invariant-those
invariant-those g l = IsNoneOf l.those (printed_of l.this) l.one-index
