use Rattle.std.proofs.Common.{◌≡◌, ◌<◌, Some, refl, sym, subst, slice_get, length}
use Rattle.std.proofs.lemmas.Option.{slice_get_read}
use Rattle.world.specs.Resting.{RestsAt}
use Rattle.world.specs.Simulations.{Simulation}
use Rattle.world.proofs.Resting.{rests_in, rests_of}
use Rattle.world.proofs.Stepping.{of_code}
use Rattle.world.proofs.world.World.rests.Goals as goal

pub is_at_rest-requires : goal.is_at_rest-requires
is_at_rest-requires g c =
    let s : Simulation = record { code = c.self.inside.code; threads = length c.self.inside.threads.items; trace = c.self.inside.trace.items } in
    let here : slice_get c.self.inside.threads.items c.args.t ≡ Some c.index-thread.result.now = slice_get_read c.self.inside.threads.items (length c.self.inside.threads.items) c.args.t c.index-thread.result.now refl (subst (λ (v : Simulation). c.args.t < v.threads) (sym c.self.view_is) c.requires) c.index-thread.ensures in
    of_code s c.self.inside.lock c.self.inside.words.items c.self.inside.threads.items c.self.inside.accesses c.self.invariant c.args.t c.index-thread.result.now here

pub returns-clause-rests : goal.returns-clause-rests
returns-clause-rests g c = λ yes.
    let s : Simulation = record { code = c.self.inside.code; threads = length c.self.inside.threads.items; trace = c.self.inside.trace.items } in
    let here : slice_get c.self.inside.threads.items c.args.t ≡ Some c.index-thread.result.now = slice_get_read c.self.inside.threads.items (length c.self.inside.threads.items) c.args.t c.index-thread.result.now refl (subst (λ (v : Simulation). c.args.t < v.threads) (sym c.self.view_is) c.requires) c.index-thread.ensures in
    subst (λ (v : Simulation). RestsAt v c.args.t) c.self.view_is (rests_in s c.self.inside.lock c.self.inside.words.items c.self.inside.threads.items c.self.inside.accesses c.self.invariant c.args.t c.index-thread.result.now here (c.is_at_rest.ensures.rests yes))

pub returns-clause-goes_on : goal.returns-clause-goes_on
returns-clause-goes_on g c = λ no rests.
    let s : Simulation = record { code = c.self.inside.code; threads = length c.self.inside.threads.items; trace = c.self.inside.trace.items } in
    let here : slice_get c.self.inside.threads.items c.args.t ≡ Some c.index-thread.result.now = slice_get_read c.self.inside.threads.items (length c.self.inside.threads.items) c.args.t c.index-thread.result.now refl (subst (λ (v : Simulation). c.args.t < v.threads) (sym c.self.view_is) c.requires) c.index-thread.ensures in
    c.is_at_rest.ensures.goes_on no (rests_of s c.self.inside.lock c.self.inside.words.items c.self.inside.threads.items c.self.inside.accesses c.self.invariant c.args.t c.index-thread.result.now here (subst (λ (v : Simulation). RestsAt v c.args.t) (sym c.self.view_is) rests))
