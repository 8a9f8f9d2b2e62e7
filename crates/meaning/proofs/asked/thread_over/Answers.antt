use Rattle.std.proofs.Common.{ap, map}
use Rattle.meaning.specs.inner.SourceThread.{local_in}
use Rattle.meaning.proofs.Outcomes.{stands_over}
use Rattle.meaning.proofs.asked.thread_over.Goals as goal

pub returns : goal.returns
returns g c = stands_over c.args.ticks (map local_in c.new.result.items) c.args.memory.items c.new-2.result.items (ap (map local_in) c.new.ensures.items) c.new-2.ensures.items
