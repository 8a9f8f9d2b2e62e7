use Rattle.std.proofs.Common.{◌≡◌, [], refl, sym, subst}
use Rattle.std.specs.Prelude.{IfSome}
use Rattle.world.specs.Simulations.{Simulation}
use Rattle.replay.specs.Replays.{simulation_after, timeline_of}
use Rattle.replay.proofs.shown.timeline.Goals as goal

pub show_all-requires : goal.show_all-requires
show_all-requires g c = record { first = subst (λ (w : Simulation). w ≡ simulation_after w.code w.threads []) (sym c.in-Ok.ensures.ok) refl }

pub returns : goal.returns
returns g c = subst (λ (w : Simulation). IfSome c.show_all.result (λ v. v.items ≡ timeline_of (simulation_after w.code w.threads c.args.steps.now))) c.in-Ok.ensures.ok c.show_all.ensures
