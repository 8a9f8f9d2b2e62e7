use Rattle.std.proofs.Common.{refl, sym, ◌∙◌}
use Rattle.std.proofs.lemmas.Bool.{false≢true}
use Rattle.report.specs.Views.{printed_of}
use Rattle.refinements.proofs.Among.{none_next, none_over, none_start, one_shows}
use Rattle.refinements.proofs.shown.is_shown_among.Goals as goal

pub those-init : goal.those-init
those-init g c = none_start c.args.those.now (printed_of c.args.this.now)

pub those-preserved : goal.those-preserved
those-preserved g c =
    none_next c.args.those.now (printed_of c.args.this.now) c.those.one-index c.one-item.result c.those.invariant c.one-item.is c.those-test.true (λ is. false≢true (sym c.if-is_shown_by.false ∙ c.is_shown_by.ensures.1 is))

pub returns-then-is_shown_by : goal.returns-then-is_shown_by
returns-then-is_shown_by g c = (λ yes. one_shows c.args.those.now (printed_of c.args.this.now) c.those.one-index c.one-item.result c.one-item.is c.those-test.true (c.is_shown_by.ensures.0 c.if-is_shown_by.true), λ among. refl)

pub returns : goal.returns
returns g c = (
  λ no. absurd (false≢true no),
  λ among. absurd (none_over c.args.those.now (printed_of c.args.this.now) c.those.one-index c.those.invariant c.those-test.false among),
)
