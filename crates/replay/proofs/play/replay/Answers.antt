use Rattle.std.proofs.Common.{◌≡◌, [], refl, sym, subst}
use Rattle.world.specs.Simulations.{Simulation}
use Rattle.replay.specs.Replays.{IsReplay, simulation_after}
use Rattle.replay.proofs.play.replay.Goals as goal

pub report_played-requires : goal.report_played-requires
report_played-requires g c = record { first = subst (λ (w : Simulation). w ≡ simulation_after w.code w.threads []) (sym c.in-Ok.ensures.ok) refl }

pub returns-in-Ok-report_played-clause-report : goal.returns-in-Ok-report_played-clause-report
returns-in-Ok-report_played-clause-report g c = subst (λ (w : Simulation). IsReplay w.code w.threads c.args.lines.now c.in-Ok-report_played.report) c.in-Ok.ensures.ok c.in-Ok-report_played.ensures
