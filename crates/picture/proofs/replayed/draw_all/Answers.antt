use Rattle.std.proofs.Common.{◌∙◌, ℕ, List, sym, subst, ap, get_or, refl, arith}
use Rattle.std.specs.Prelude.{flat_map}
use Rattle.std.proofs.lemmas.List.{take_all}
use Rattle.world.specs.Simulations.{Simulation}
use Rattle.replay.specs.Replays.{simulation_after, timeline_of}
use Rattle.replay.proofs.Showing.{next_made}
use Rattle.picture.specs.Replayed.{if_drawn}
use Rattle.picture.specs.inner.Views.{HasDrawn}
use Rattle.picture.proofs.replayed.draw_all.Goals as goal

pub steps-init : goal.steps-init
steps-init g c = record {
  made = c.requires.first;
  drawn = subst (λ (w : Simulation). HasDrawn c.args.drawing.now (flat_map (if_drawn c.args.from c.args.code.now) (timeline_of w))) (sym c.requires.first) c.requires.empty;
}

pub steps-preserved : goal.steps-preserved
steps-preserved g c =
    let w = c.args.world.now in
    let t : ℕ = get_or c.args.made.now c.steps.at 0 in
    record {
      made = next_made c.args.code.now w.threads c.args.made.now c.steps.at t c.steps.world c.draw_next.new.world c.steps.invariant.made c.in_ok-draw_next.ensures.made refl c.steps-test.true;
      drawn = c.in_ok-draw_next.ensures.drawn;
    }

pub returns : goal.returns
returns g c =
    let w = c.args.world.now in
    let all = take_all c.steps.at c.args.made.now (let f = c.steps-test.false in omega arith) in
    subst (λ (s : Simulation). HasDrawn c.steps.drawing (flat_map (if_drawn c.args.from c.args.code.now) (timeline_of s)))
    (c.steps.invariant.made ∙ ap (λ (ts : List ℕ). simulation_after c.args.code.now w.threads ts) all) c.steps.invariant.drawn
