use Rattle.report.specs.Views.{printed_of}
use Rattle.refinements.proofs.Among.{one_shows}
use Rattle.refinements.proofs.shown.is_shown_at.Goals as goal

pub returns-in-Some : goal.returns-in-Some
returns-in-Some g c = λ yes. one_shows c.args.those.now (printed_of c.args.this.now) c.args.at c.in-Some.one.now c.in-Some.ensures.lookup.1 c.in-Some.ensures.lookup.3.0 (c.is_shown_by.ensures.0 yes)
