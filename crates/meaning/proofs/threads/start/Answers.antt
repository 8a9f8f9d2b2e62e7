use Rattle.std.proofs.Common.{ap, map}
use Rattle.meaning.specs.Outcomes.{memories_in}
use Rattle.meaning.specs.inner.SourceThread.{local_in}
use Rattle.meaning.proofs.Outcomes.{starts}
use Rattle.meaning.proofs.threads.start.Goals as goal

pub returns : goal.returns
returns g c =
    starts c.args.ticks (map local_in c.new.result.items) (memories_in c.args.founds.now) (memories_in c.new-2.result.items) c.new-3.result.items
    (ap (map local_in) c.new.ensures.items) (ap memories_in c.new-2.ensures.items) c.new-3.ensures.items
