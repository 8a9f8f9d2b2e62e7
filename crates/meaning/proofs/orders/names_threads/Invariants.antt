use Rattle.std.proofs.Common.{take}
use Rattle.meaning.specs.InOrder.{NamesThreads}
use Rattle.meaning.proofs.orders.names_threads.Given as goal

abbrev pub invariant-entries : goal.invariant-entries
invariant-entries l = NamesThreads l.threads (take l.t-index l.order)
