use Rattle.std.proofs.Common.{◌≡◌, subst, sym}
use Rattle.name_tables.specs.Named.{first}
use Rattle.name_tables.specs.Known.{entries_in}
use Rattle.safety.specs.Sets.{links_of}
use Rattle.safety.specs.inner.Closing.{IsWithin, IsClosed}
use Rattle.safety.proofs.Graphs.{callers_within}
use Rattle.safety.proofs.LeastSet.{is_least}
use Rattle.safety.proofs.closure.least.Goals as goal

pub reachable_from-requires-clause-within : goal.reachable_from-requires-clause-within
reachable_from-requires-clause-within g c =
    let graph = c.in_ok-numbers.field-0 in
    let is : c.as_slice.result.now ≡ graph.callers.items = c.as_slice.ensures.value in
    subst IsWithin (sym is) (callers_within (links_of c.args.links.now) (first (entries_in graph.numbers)) graph.callers.items c.in_ok-numbers.ensures.numbered c.in_ok-numbers.ensures.links)

pub returns : goal.returns
returns g c =
    let graph = c.in_ok-numbers.field-0 in
    let is : c.as_slice.result.now ≡ graph.callers.items = c.as_slice.ensures.value in
    is_least (links_of c.args.links.now) (first (entries_in graph.numbers)) graph.callers.items c.in_ok-members.members.items c.in_ok-numbers.ensures.numbered c.in_ok-numbers.ensures.links (subst (λ cs. IsClosed cs c.in_ok-members.members.items) is c.in_ok-members.ensures)
