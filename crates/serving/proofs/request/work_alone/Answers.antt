use Rattle.std.proofs.Common.{subst}
use Rattle.serving.specs.Explored.{IsPageOf, PrintsPage}
use Rattle.serving.specs.Limits.{HasNoCode}
use Rattle.serving.specs.Traces.{IsOrderTrace, PrintsTrace, TracesOrder}
use Rattle.serving.specs.inner.Serves.{ServesText}
use Rattle.serving.proofs.request.work_alone.Goals as goal

pub returns-in-Replay : goal.returns-in-Replay
returns-in-Replay g c = rw c.in-Replay.is c.replay_source.ensures

pub returns-in-Timeline : goal.returns-in-Timeline
returns-in-Timeline g c = rw c.in-Timeline.is c.show_steps.ensures

pub returns-in-Picture : goal.returns-in-Picture
returns-in-Picture g c = rw c.in-Picture.is c.draw.ensures

pub returns-in-Outcomes : goal.returns-in-Outcomes
returns-in-Outcomes g c = rw c.in-Outcomes.is c.all_outcomes.ensures

pub returns-in-Explore : goal.returns-in-Explore
returns-in-Explore g c =
    let threads = c.in-Explore.threads in
    let text = c.args.text.now in
    rw c.in-Explore.is
    (subst (λ o. ServesText (PrintsPage threads o text) (HasNoCode text) (IsPageOf threads o text)
    c.explore_orders.result (g.W.Write.contents c.args.out.now) (g.W.Write.contents c.explore_orders.new.out)) c.as_slice-in-Explore.ensures.value c.explore_orders.ensures)

pub returns-in-Trace : goal.returns-in-Trace
returns-in-Trace g c =
    let threads = c.in-Trace.threads in
    let text = c.args.text.now in
    rw c.in-Trace.is
    (subst (λ o. ServesText (PrintsTrace (λ written shown. TracesOrder threads o text written shown)) (HasNoCode text) (IsOrderTrace threads o text)
    c.trace.result (g.W.Write.contents c.args.out.now) (g.W.Write.contents c.trace.new.out)) c.as_slice-in-Trace.ensures.value c.trace.ensures)
