use Rattle.std.proofs.Common.{map, sym, ◌∙◌}
use Rattle.std.proofs.lemmas.Bool.{false≢true}
use Rattle.refinements.specs.ShownBy.{IsShownAmong}
use Rattle.report.specs.Views.{reported_of}
use Rattle.refinements.proofs.Among.{all_more, all_reports, all_start, one_of}
use Rattle.refinements.proofs.Among.{report_of}
use Rattle.refinements.proofs.shown.first_beyond.Goals as goal

pub these-init : goal.these-init
these-init g c = all_start (IsShownAmong (map reported_of c.args.those.now)) report_of c.args.these.now

pub these-preserved : goal.these-preserved
these-preserved g c =
    all_more (IsShownAmong (map reported_of c.args.those.now)) report_of c.args.these.now c.these.one-index c.one-item.result c.these.invariant c.one-item.is c.these-test.true (c.is_found.ensures.0 c.if-not-is_found.false)

pub returns-then-not-is_found : goal.returns-then-not-is_found
returns-then-not-is_found g c = (one_of c.args.these.now c.these.one-index c.one-item.result c.one-item.is c.these-test.true, λ among. false≢true (sym c.if-not-is_found.true ∙ c.is_found.ensures.1 among))

pub returns : goal.returns
returns g c = all_reports (IsShownAmong (map reported_of c.args.those.now)) c.args.these.now c.these.one-index c.these.invariant c.these-test.false
