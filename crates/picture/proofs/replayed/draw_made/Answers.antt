use Rattle.std.proofs.Common.{◌≡◌, [], refl, sym, subst}
use Rattle.std.specs.Prelude.{flat_map}
use Rattle.world.specs.Simulations.{Simulation}
use Rattle.replay.specs.Replays.{simulation_after, timeline_of}
use Rattle.picture.specs.Replayed.{if_drawn}
use Rattle.picture.specs.inner.Views.{HasDrawn}
use Rattle.picture.proofs.replayed.draw_made.Goals as goal

pub draw_all-requires : goal.draw_all-requires
draw_all-requires g c = record {
  first = subst (λ (w : Simulation). w ≡ simulation_after c.args.code.now w.threads []) (sym c.in-Ok.ensures.ok) refl;
  empty = c.requires;
}

pub returns : goal.returns
returns g c = subst (λ (w : Simulation). HasDrawn c.draw_all.new.drawing (flat_map (if_drawn c.args.from c.args.code.now) (timeline_of (simulation_after c.args.code.now w.threads c.args.made.now)))) c.in-Ok.ensures.ok c.in_ok-draw_all.ensures
