use Rattle.std.proofs.Common.{length, refl, ◌∙◌}
use Rattle.safety.specs.inner.Graphs.{SearchState, enqueue}
use Rattle.safety.proofs.Closing.{begins}
use Rattle.safety.proofs.closure.close_all.Goals as goal

pub close-requires-clause-begun : goal.close-requires-clause-begun
close-requires-clause-begun g c =
    let s : SearchState = record { members = c.visit.new.members; queue = c.visit.new.queue } in
    begins c.args.callers.now (length c.args.callers.now) s refl c.requires.begun (c.in_ok-visit.ensures ∙ (λ i. enqueue (record { members = c.requires.no_members i; queue = c.requires.none i }) 0))
