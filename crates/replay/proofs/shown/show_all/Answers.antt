use Rattle.std.proofs.Common.{◌∙◌, ℕ, List, sym, ap, get_or, refl, arith}
use Rattle.std.proofs.lemmas.List.{take_all}
use Rattle.replay.specs.Replays.{simulation_after, timeline_of}
use Rattle.replay.proofs.Showing.{next_made}
use Rattle.replay.proofs.shown.show_all.Goals as goal

pub steps-init : goal.steps-init
steps-init g c = record {
  made = c.requires.first;
  shown = c.new-shown.ensures.items ∙ ap timeline_of (sym c.requires.first);
}

pub steps-preserved : goal.steps-preserved
steps-preserved g c =
    let w = c.args.world.now in
    let t : ℕ = get_or c.args.steps.now c.steps.at 0 in
    record {
      made = next_made w.code w.threads c.args.steps.now c.steps.at t c.steps.world c.show.new.world c.steps.invariant.made c.in_ok-show.ensures.made refl c.steps-test.true;
      shown = c.in_ok-show.ensures.shown;
    }

pub returns : goal.returns
returns g c =
    let w = c.args.world.now in
    let all = take_all c.steps.at c.args.steps.now (let f = c.steps-test.false in omega arith) in
    c.steps.invariant.shown ∙ ap timeline_of (c.steps.invariant.made ∙ ap (λ (ts : List ℕ). simulation_after w.code w.threads ts) all)
