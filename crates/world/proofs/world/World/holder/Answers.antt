use Rattle.std.proofs.Common.{◌≡◌, ◌∙◌, Some, None, sym, subst, slice_get, length, arith}
use Rattle.std.proofs.lemmas.Option.{slice_get_read, slice_get_within}
use Rattle.world.specs.Simulations.{IsHolder, Simulation, world_of}
use Rattle.world.proofs.Stepping.{a_holder, no_holder, none_more}
use Rattle.world.proofs.world.World.holder.Goals as goal

pub returns-then-has_lock : goal.returns-then-has_lock
returns-then-has_lock g c =
    let s : Simulation = record { code = c.self.inside.code; threads = length c.self.inside.threads.items; trace = c.self.inside.trace.items } in
    let here : slice_get c.self.inside.threads.items c.threads.t ≡ Some c.index-thread.result.now = slice_get_read c.self.inside.threads.items c.len-t-end.result c.threads.t c.index-thread.result.now (c.len-t-end.ensures ∙ c.self.inside.threads.ok.0) c.threads-test.true c.index-thread.ensures in
    subst (λ (v : Simulation). IsHolder (world_of v) (Some c.threads.t)) c.self.view_is (a_holder s c.self.inside.lock c.self.inside.words.items c.self.inside.threads.items c.self.inside.accesses c.self.invariant c.threads.t c.index-thread.result.now here (sym c.has_lock.ensures ∙ c.if-has_lock.true))

pub threads-preserved : goal.threads-preserved
threads-preserved g c =
    let here : slice_get c.self.inside.threads.items c.threads.t ≡ Some c.index-thread.result.now = slice_get_read c.self.inside.threads.items c.len-t-end.result c.threads.t c.index-thread.result.now (c.len-t-end.ensures ∙ c.self.inside.threads.ok.0) c.threads-test.true c.index-thread.ensures in
    none_more c.self.inside.threads.items c.threads.t c.index-thread.result.now here (sym c.has_lock.ensures ∙ c.if-has_lock.false) c.threads.invariant

pub returns : goal.returns
returns g c =
    let s : Simulation = record { code = c.self.inside.code; threads = length c.self.inside.threads.items; trace = c.self.inside.trace.items } in
    subst (λ (v : Simulation). IsHolder (world_of v) None) c.self.view_is (no_holder s c.self.inside.lock c.self.inside.words.items c.self.inside.threads.items c.self.inside.accesses c.self.invariant (λ u x e. c.threads.invariant u x (let w = slice_get_within c.self.inside.threads.items u x e in let n = c.len-t-end.ensures in let o = c.self.inside.threads.ok.0 in let f = c.threads-test.false in omega arith) e))
