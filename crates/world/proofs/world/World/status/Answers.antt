use Rattle.std.proofs.Common.{◌≡◌, ◌<◌, ◌∙◌, Some, refl, sym, ap, subst, slice_get, length}
use Rattle.std.proofs.lemmas.Option.{slice_get_read}
use Rattle.world.specs.Simulations.{Simulation, status_at}
use Rattle.world.proofs.Stepping.{status_is}
use Rattle.world.proofs.world.World.status.Goals as goal

pub returns : goal.returns
returns g c =
    let s : Simulation = record { code = c.self.inside.code; threads = length c.self.inside.threads.items; trace = c.self.inside.trace.items } in
    let here : slice_get c.self.inside.threads.items c.args.t ≡ Some c.index-thread.result.now = slice_get_read c.self.inside.threads.items (length c.self.inside.threads.items) c.args.t c.index-thread.result.now refl (subst (λ (v : Simulation). c.args.t < v.threads) (sym c.self.view_is) c.requires) c.index-thread.ensures in
    ap (λ (v : Simulation). status_at v c.args.t) (sym c.self.view_is) ∙ status_is s c.self.inside.lock c.self.inside.words.items c.self.inside.threads.items c.self.inside.accesses c.self.invariant c.args.t c.index-thread.result.now here ∙ ap Some (sym c.status.ensures)
